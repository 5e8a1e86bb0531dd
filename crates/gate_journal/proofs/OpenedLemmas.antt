-- What a journal that is opened knows.
use Rattle.std.proofs.Common.{◌≡◌, ℕ, ◌+◌, ◌-◌, ◌<◌, List, [], ◌∷◌, ◌++◌, length, get_or, sym, ◌∙◌, ap, arith}
use Rattle.std.specs.Prelude.{Some, None, IfSome, slice_index}
use Rattle.std.specs.declared.option.Option.{Option}
use Rattle.std.specs.List.{flat_map}
use Rattle.std.proofs.lemmas.List.{get_or_push, length_push}
use Rattle.xs_outside.specs.Disk.{Sides}
use Rattle.gate_journal.specs.declared.held.Held.{Held}
use Rattle.gate_journal.specs.declared.journal.Current.{Current}
use Rattle.gate_journal.specs.Journal.{Knows, text_length, without_last}
use Rattle.gate_journal.specs.Layout.{places_from, record_text, side_text}
use Rattle.gate_journal.specs.Opened.{PointsTo}
use Rattle.gate_journal.specs.Sides.{SidesHold, held_content, first_place}
use Rattle.gate_journal.proofs.DropLemmas.{last_record, records_split}
use Rattle.gate_journal.proofs.HoldLemmas.{length-side_text, places_from-push}
use Rattle.gate_journal.proofs.IndexLemmas.{length-places_from}

-- the last place is where the last record begins
last_begins : (held : Held) → held.places ≡ places_from (first_place (held_content held)) held.records → 0 < length held.places
    → (0 < length held.records) × (slice_index held.places (length held.places - 1) ≡ text_length (without_last held))
last_begins held is some =
    let many : length held.places ≡ length held.records = ap length is ∙ length-places_from (first_place (held_content held)) held.records in
    let records : 0 < length held.records = omega (arith, many, some) in
    let front = places_from (first_place (held_content held)) (without_last held).records in
    let end = first_place (held_content held) + length (flat_map record_text (without_last held).records) in
    let split : held.places ≡ front ++ end ∷ [] = is ∙ ap (λ l. places_from (first_place (held_content held)) l) (records_split held records) ∙ places_from-push (first_place (held_content held)) (without_last held).records (last_record held records) in
    let at : slice_index held.places (length held.places - 1) ≡ end =
    ap (λ (l : List ℕ). get_or l (length held.places - 1) 0) split ∙ get_or_push front end 0 (length held.places - 1) (omega (arith, ap length split, length_push front end)) in
    (records, at ∙ sym (length-side_text (held_content (without_last held))))

known_last : (held : Held) (last : Option ℕ) → held.places ≡ places_from (first_place (held_content held)) held.records → IfSome last (λ place. (0 < length held.places) × (place ≡ slice_index held.places (length held.places - 1)))
    → IfSome last (λ place. (0 < length held.records) × (place ≡ text_length (without_last held)))
known_last held None is known = tt
known_last held (Some place) is known =
    let begins = last_begins held is known.0 in (begins.0, known.1 ∙ begins.1)

-- what the journal knows of what the sides hold
pub knows_held : (held : Option Held) (end : ℕ) (current : Option Current) (sides : Sides) → PointsTo held end current → SidesHold held sides → IfSome held (λ h. end ≡ length (side_text (held_content h))) → Knows held current
knows_held None end None sides points holds ends = tt
knows_held None end (Some current) sides points holds ends = points
knows_held (Some held) end None sides points holds ends = points
knows_held (Some held) end (Some current) sides points holds ends = record {
  side = points.side;
  generation = points.generation;
  end = points.stop ∙ ends;
  last = known_last held current.last holds.places points.last;
}
