-- What a side holds, after each thing that a journal or a crash may do to it.
use Rattle.std.proofs.Common.{◌≡◌, ◌≢◌, ◌⊎◌, ◌↔◌, inl, inr, IsTrue, ℕ, ◌+◌, ◌-◌, ◌≤◌, Bool, List, [], ◌∷◌, ◌++◌, length, get_or, take, drop, sym, ◌∙◌, ap, subst, arith, append_assoc, length-append, take-append-drop}
use Rattle.std.specs.Prelude.{Some}
use Rattle.std.proofs.lemmas.Bool.{cases_eq}
use Rattle.std.proofs.lemmas.List.{take_at, flat_map_more, length_push}
use Rattle.std.proofs.lemmas.List.Elements.{All-push}
use Rattle.std.specs.List.{flat_map}
use Rattle.xs_outside.specs.declared.Side.{Side}
use Rattle.xs_outside.specs.declared.Side.TheVariants.{A, B}
use Rattle.xs_outside.specs.Disk.{Sides, on, other, Changes}
use Rattle.gate_journal.specs.declared.parts.TheConstants.{OPEN, CLOSED}
use Rattle.gate_journal.specs.declared.held.Held.{Held}
use Rattle.gate_journal.specs.Gate.{IsOpening, StandsBehind}
use Rattle.gate_journal.specs.Layout.{Content, HoldsContent, IsRecordSize, length_bytes, record_text, head_text, side_text, places_from}
use Rattle.gate_journal.specs.Sides.{held_content, first_place, IsHeldBy, IsBehind}
use Rattle.gate_journal.specs.Journal.{text_length, added, without_last, HoldsEither}
use Rattle.gate_journal.specs.Ready.{IsReady}
use Rattle.gate_journal.proofs.TextLemmas.{length-record_text}

-- ---- texts

-- with one record more
abbrev pub with_record : Content → List ℕ → Content
with_record content payload = record content { records = content.records ++ payload ∷ [] }

-- one record more is its print more
pub side_text-push : (content : Content) (payload : List ℕ) → side_text (with_record content payload) ≡ side_text content ++ record_text payload
unfolding side_text
side_text-push content payload =
    sym (flat_map_more record_text (head_text content.generation (length content.base) ++ content.base) content.records payload)

-- the first place and the records behind it are all
pub length-side_text : (content : Content) → length (side_text content) ≡ first_place content + length (flat_map record_text content.records)
unfolding side_text
length-side_text content = length-append (head_text content.generation (length content.base) ++ content.base) (flat_map record_text content.records)

pub places_from-push : (place : ℕ) (records : List (List ℕ)) (payload : List ℕ) → places_from place (records ++ payload ∷ []) ≡ places_from place records ++ (place + length (flat_map record_text records)) ∷ []
places_from-push place [] payload = ap (λ n. n ∷ []) (omega arith)
places_from-push place (first ∷ records) payload =
    ap (λ l. place ∷ l) (
    places_from-push (place + length (record_text first)) records payload
    ∙ ap (λ n. places_from (place + length (record_text first)) records ++ n ∷ []) (omega (arith, length-append (record_text first) (flat_map record_text records)))
    )

-- a side that holds something is open, and has a gate behind it
pub held_is_open : (content : Content) (side : List ℕ) → HoldsContent content side → IsReady side → ⊥
unfolding side_text head_text
held_is_open content side holds ready = ready.1 ready.0 (ap (λ (l : List ℕ). get_or l 0 0) holds.text)

-- what is written behind the gate of a record
abbrev pub behind_gate : List ℕ → List ℕ
behind_gate payload = length_bytes (length payload) ++ payload ++ CLOSED ∷ []

-- ---- a side

module _ (content : Content) (end : ℕ) (is : end ≡ length (side_text content)) (old : List ℕ) (holds : HoldsContent content old) where
  text_in_front : take end old ≡ side_text content
  text_in_front = ap (λ (l : List ℕ). take end l) holds.text ∙ take_at (side_text content) (holds.gate ∷ holds.behind) end (sym is)

  gate_in_front : take (end + 1) old ≡ side_text content ++ holds.gate ∷ []
  gate_in_front =
      ap (λ (l : List ℕ). take (end + 1) l) (holds.text ∙ sym (append_assoc (side_text content) (holds.gate ∷ []) holds.behind))
      ∙ take_at (side_text content ++ holds.gate ∷ []) holds.behind (end + 1) (omega (arith, is, length-append (side_text content) (holds.gate ∷ [])))

  -- the gate that ends the records stands inside
  pub end_inside : end + 1 ≤ length old
  end_inside = omega (arith, is, ap length holds.text, length-append (side_text content) (holds.gate ∷ holds.behind))

  -- what stands behind the gate doesn't count
  pub held_behind : (new : List ℕ) → take (end + 1) new ≡ take (end + 1) old → HoldsContent content new
  held_behind new same = record {
    gate = holds.gate;
    behind = drop (end + 1) new;
    text = sym (take-append-drop (end + 1) new) ∙ ap (λ (l : List ℕ). l ++ drop (end + 1) new) (same ∙ gate_in_front) ∙ append_assoc (side_text content) (holds.gate ∷ []) (drop (end + 1) new);
    closed = holds.closed;
    sound = holds.sound;
  }

  -- a text behind another gate that isn't open
  pub held_closed : (byte : ℕ) (text new : List ℕ) → byte ≢ OPEN → StandsBehind byte end text old new → HoldsContent content new
  held_closed byte text new closed stands = record {
    gate = byte;
    behind = text ++ drop (end + 1 + length text) old;
    text = stands ∙ ap (λ (l : List ℕ). l ++ byte ∷ text ++ drop (end + 1 + length text) old) text_in_front ∙ append_assoc (side_text content) (byte ∷ text) (drop (end + 1 + length text) old);
    closed = closed;
    sound = holds.sound;
  }

  module _ (payload : List ℕ) (size : IsRecordSize (length payload)) where
    -- a record behind an open gate
    pub held_opened : (new : List ℕ) → StandsBehind OPEN end (behind_gate payload) old new → HoldsContent (with_record content payload) new
    unfolding record_text
    held_opened new stands =
        let rest = drop (end + 1 + length (behind_gate payload)) old in record {
          gate = CLOSED;
          behind = rest;
          text =
              stands
              ∙ ap (λ (l : List ℕ). l ++ OPEN ∷ behind_gate payload ++ rest) text_in_front
              ∙ ap (λ (l : List ℕ). l ++ rest) (sym (append_assoc (side_text content) (record_text payload) (CLOSED ∷ [])))
              ∙ append_assoc (side_text content ++ record_text payload) (CLOSED ∷ []) rest
              ∙ ap (λ (l : List ℕ). l ++ CLOSED ∷ rest) (sym (side_text-push content payload));
          closed = λ same. cc same;
          sound = record { generation = holds.sound.generation; base = holds.sound.base; records = All-push (λ p. IsRecordSize (length p)) content.records payload holds.sound.records size };
        }

    -- an append that is on its way
    pub held_on_the_way : (new : List ℕ) → IsOpening end (behind_gate payload) old new → HoldsContent content new ⊎ HoldsContent (with_record content payload) new
    held_on_the_way new opening = elim opening [
      | inl behind ↦ inl (held_behind new behind)
      | inr stands ↦ elim (cases_eq stands.0 OPEN) [
        | inl is_open ↦ inr (held_opened new (subst (λ byte. StandsBehind byte end (behind_gate payload) old new) is_open stands.1))
        | inr is_closed ↦ inl (held_closed stands.0 (behind_gate payload) new is_closed stands.1)
      ]
    ]

-- ---- both sides

-- the places of one record more
pub places_added : (held : Held) (payload : List ℕ) → held.places ≡ places_from (first_place (held_content held)) held.records
    → held.places ++ text_length held ∷ [] ≡ places_from (first_place (held_content held)) (held.records ++ payload ∷ [])
places_added held payload places =
    ap (λ l. l ++ text_length held ∷ []) places
    ∙ ap (λ n. places_from (first_place (held_content held)) held.records ++ n ∷ []) (length-side_text (held_content held))
    ∙ sym (places_from-push (first_place (held_content held)) held.records payload)

module _ (held : Held) (payload : List ℕ) (size : IsRecordSize (length payload)) (old : Sides) (is_held : IsHeldBy old held) (end : ℕ) (is : end ≡ text_length held) where
  still_behind : (new : Sides) → on (other held.side) new ≡ on (other held.side) old → IsBehind held.generation (on (other held.side) new)
  still_behind new same = subst (IsBehind held.generation) (sym same) is_held.behind

  still_held : (new : Sides) → on (other held.side) new ≡ on (other held.side) old → HoldsContent (held_content held) (on held.side new) → IsHeldBy new held
  still_held new same holds = record { holds = holds; places = is_held.places; behind = still_behind new same }

  now_added : (new : Sides) → on (other held.side) new ≡ on (other held.side) old → HoldsContent (with_record (held_content held) payload) (on held.side new) → IsHeldBy new (added held payload)
  now_added new same holds = record { holds = holds; places = places_added held payload is_held.places; behind = still_behind new same }

  -- each image of an append
  pub append_image : (image : Sides) → Changes held.side (IsOpening end (behind_gate payload)) old image
      → HoldsEither (other held.side) old (Some held) (Some (added held payload)) image
  append_image image changes = record {
    other_side = changes.1;
    held = elim (held_on_the_way (held_content held) end is (on held.side old) is_held.holds payload size (on held.side image) changes.0) [
      | inl before ↦ inl (still_held image changes.1 before)
      | inr after ↦ inr (now_added image changes.1 after)
    ];
  }

  -- what an append leaves
  pub append_done : (new : Sides) → Changes held.side (StandsBehind OPEN end (behind_gate payload)) old new → IsHeldBy new (added held payload)
  append_done new changes = now_added new changes.1 (held_opened (held_content held) end is (on held.side old) is_held.holds payload size (on held.side new) changes.0)

-- which sides are ready, after a change of a side that wasn't and isn't
pub still_ready : (changed side : Side) (old new : Sides) (flag : Bool) → (IsReady (on changed old) → ⊥) → (IsReady (on changed new) → ⊥) → on (other changed) new ≡ on (other changed) old
    → IsTrue flag ↔ IsReady (on side old) → IsTrue flag ↔ IsReady (on side new)
still_ready A A old new flag before after same is = (λ f. absurd (before (is.0 f)), λ r. absurd (after r))
still_ready A B old new flag before after same is = (λ f. subst IsReady (sym same) (is.0 f), λ r. is.1 (subst IsReady same r))
still_ready B A old new flag before after same is = (λ f. subst IsReady (sym same) (is.0 f), λ r. is.1 (subst IsReady same r))
still_ready B B old new flag before after same is = (λ f. absurd (before (is.0 f)), λ r. absurd (after r))

-- how long the text is with one record more, and without it
pub text_length-added : (held : Held) (payload : List ℕ) → text_length (added held payload) ≡ text_length held + (5 + length payload)
text_length-added held payload =
    ap length (side_text-push (held_content held) payload) ∙ length-append (side_text (held_content held)) (record_text payload) ∙ ap (λ n. text_length held + n) (length-record_text payload)

pub text_length-without_added : (held : Held) (payload : List ℕ) → text_length (without_last (added held payload)) ≡ text_length held
text_length-without_added held payload =
    ap (λ (l : List (List ℕ)). length (side_text (record { generation = held.generation; base = held.base; records = l })))
    (take_at held.records (payload ∷ []) (length (held.records ++ payload ∷ []) - 1) (omega (arith, length_push held.records payload)))
