-- What a side holds when the gate of its last record is closed.
use Rattle.std.proofs.Common.{◌≡◌, ◌≢◌, ◌⊎◌, inl, inr, ℕ, ◌+◌, ◌-◌, ◌<◌, ◌≤◌, List, [], ◌∷◌, ◌++◌, length, get_or, take, drop, sym, ◌∙◌, ap, subst, arith, append_assoc, length-append, take-append-drop}
use Rattle.std.specs.Prelude.{Some}
use Rattle.std.proofs.lemmas.Bool.{cases_eq}
use Rattle.std.proofs.lemmas.List.{take_at, drop_at, drop_more, take_all, take_more, length_push}
use Rattle.std.proofs.lemmas.List.Elements.{All-take}
use Rattle.std.specs.List.{flat_map}
use Rattle.xs_outside.specs.Disk.{Sides, on, other, Changes, Torn, Written}
use Rattle.gate_journal.specs.declared.parts.TheConstants.{OPEN, CLOSED}
use Rattle.gate_journal.specs.declared.held.Held.{Held}
use Rattle.gate_journal.specs.Layout.{HoldsContent, IsRecordSize, length_bytes, record_text, side_text, places_from}
use Rattle.gate_journal.specs.Sides.{held_content, first_place, IsHeldBy, IsBehind}
use Rattle.gate_journal.specs.Journal.{text_length, without_last, HoldsEither}
use Rattle.gate_journal.proofs.HoldLemmas.{side_text-push, places_from-push}

module _ (held : Held) (some : 0 < length held.records) where
  pub last_record : List ℕ
  last_record = get_or held.records (length held.records - 1) []

  pub records_split : held.records ≡ (without_last held).records ++ last_record ∷ []
  unfolding last_record
  records_split =
      sym (take_all (length held.records - 1 + 1) held.records (omega (arith, some)))
      ∙ take_more held.records (length held.records - 1) [] (omega (arith, some))

  text_split : side_text (held_content held) ≡ side_text (held_content (without_last held)) ++ record_text last_record
  text_split =
      ap (λ (l : List (List ℕ)). side_text (record { generation = held.generation; base = held.base; records = l })) records_split
      ∙ side_text-push (held_content (without_last held)) last_record

  places_split : held.places ≡ places_from (first_place (held_content held)) held.records → (without_last held).places ≡ places_from (first_place (held_content held)) (without_last held).records
  places_split is =
      let front = places_from (first_place (held_content held)) (without_last held).records in
      let end = first_place (held_content held) + length (flat_map record_text (without_last held).records) in
      let split : held.places ≡ front ++ end ∷ [] = is ∙ ap (λ l. places_from (first_place (held_content held)) l) records_split ∙ places_from-push (first_place (held_content held)) (without_last held).records last_record in
      ap (λ l. take (length held.places - 1) l) split ∙ take_at front (end ∷ []) (length held.places - 1) (omega (arith, ap length split, length_push front end))

  module _ (old : List ℕ) (holds : HoldsContent (held_content held) old) (place : ℕ) (is : place ≡ text_length (without_last held)) where
    behind_last : List ℕ
    behind_last = length_bytes (length last_record) ++ last_record ++ holds.gate ∷ holds.behind

    split_at_last : old ≡ side_text (held_content (without_last held)) ++ OPEN ∷ behind_last
    unfolding record_text behind_last
    split_at_last =
        holds.text
        ∙ ap (λ (l : List ℕ). l ++ holds.gate ∷ holds.behind) text_split
        ∙ append_assoc (side_text (held_content (without_last held))) (record_text last_record) (holds.gate ∷ holds.behind)

    front_text : take place old ≡ side_text (held_content (without_last held))
    front_text = ap (λ (l : List ℕ). take place l) split_at_last ∙ take_at (side_text (held_content (without_last held))) (OPEN ∷ behind_last) place (sym is)

    -- the gate of the last record stands inside
    pub last_inside : place + 1 ≤ length old
    last_inside = omega (arith, is, ap length split_at_last, length-append (side_text (held_content (without_last held))) (OPEN ∷ behind_last))

    gate_is_open : drop place old ≡ OPEN ∷ drop (place + 1) old
    gate_is_open =
        let open_behind : drop place old ≡ OPEN ∷ behind_last = ap (λ (l : List ℕ). drop place l) split_at_last ∙ drop_at (side_text (held_content (without_last held))) (OPEN ∷ behind_last) place (sym is) in
        let more = drop_more old place 0 (omega (arith, last_inside)) in
        more ∙ ap (λ (b : ℕ). b ∷ drop (place + 1) old) (ap (λ (l : List ℕ). get_or l 0 0) (sym more ∙ open_behind))

    same_with_open : (new : List ℕ) → new ≡ take place old ++ OPEN ∷ drop (place + 1) old → new ≡ old
    same_with_open new at = at ∙ ap (λ (l : List ℕ). take place old ++ l) (sym gate_is_open) ∙ take-append-drop place old

    closed_at : (byte : ℕ) (new : List ℕ) → byte ≢ OPEN → new ≡ take place old ++ byte ∷ drop (place + 1) old → HoldsContent (held_content (without_last held)) new
    closed_at byte new closed at = record {
      gate = byte;
      behind = drop (place + 1) old;
      text = at ∙ ap (λ (l : List ℕ). l ++ byte ∷ drop (place + 1) old) front_text;
      closed = closed;
      sound = record { generation = holds.sound.generation; base = holds.sound.base; records = All-take (λ p. IsRecordSize (length p)) (length held.records - 1) held.records holds.sound.records };
    }

    -- a drop that is on its way
    pub drop_torn : (new : List ℕ) → Torn place 1 old new → HoldsContent (held_content held) new ⊎ HoldsContent (held_content (without_last held)) new
    drop_torn new torn =
        let byte = get_or new place 0 in
        let long : place < length new = omega (arith, torn.no_shorter, last_inside) in
        let at : new ≡ take place old ++ byte ∷ drop (place + 1) old =
        sym (take-append-drop place new) ∙ ap (λ (l : List ℕ). l ++ drop place new) torn.before ∙ ap (λ (l : List ℕ). take place old ++ l) (drop_more new place 0 long ∙ ap (λ (l : List ℕ). byte ∷ l) torn.after) in
        elim (cases_eq byte OPEN) [
          | inl is_open ↦ inl (subst (HoldsContent (held_content held)) (sym (same_with_open new (at ∙ ap (λ (b : ℕ). take place old ++ b ∷ drop (place + 1) old) is_open))) holds)
          | inr is_closed ↦ inr (closed_at byte new is_closed at)
        ]

    -- and one that is done
    pub drop_written : (new : List ℕ) → Written place (CLOSED ∷ []) old new → HoldsContent (held_content (without_last held)) new
    drop_written new written =
        closed_at CLOSED new (λ same. cc same) (written ∙ append_assoc (take place old) (CLOSED ∷ []) (drop (place + 1) old))

  module _ (old : Sides) (is_held : IsHeldBy old held) (place : ℕ) (is : place ≡ text_length (without_last held)) where
    still_held : (new : Sides) → on (other held.side) new ≡ on (other held.side) old → HoldsContent (held_content held) (on held.side new) → IsHeldBy new held
    still_held new same holds = record { holds = holds; places = is_held.places; behind = subst (IsBehind held.generation) (sym same) is_held.behind }

    now_dropped : (new : Sides) → on (other held.side) new ≡ on (other held.side) old → HoldsContent (held_content (without_last held)) (on held.side new) → IsHeldBy new (without_last held)
    now_dropped new same holds = record { holds = holds; places = places_split is_held.places; behind = subst (IsBehind held.generation) (sym same) is_held.behind }

    -- each image of a drop
    pub drop_image : (image : Sides) → Changes held.side (Torn place 1) old image → HoldsEither (other held.side) old (Some held) (Some (without_last held)) image
    drop_image image changes = record {
      other_side = changes.1;
      held = elim (drop_torn (on held.side old) is_held.holds place is (on held.side image) changes.0) [
        | inl before ↦ inl (still_held image changes.1 before)
        | inr after ↦ inr (now_dropped image changes.1 after)
      ];
    }

    -- what a drop leaves
    pub drop_done : (new : Sides) → Changes held.side (Written place (CLOSED ∷ [])) old new → IsHeldBy new (without_last held)
    drop_done new changes = now_dropped new changes.1 (drop_written (on held.side old) is_held.holds place is (on held.side new) changes.0)
