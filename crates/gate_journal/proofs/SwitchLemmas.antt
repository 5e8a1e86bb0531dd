-- What both sides hold when the other side is made.
use Rattle.std.proofs.Common.{◌≡◌, ◌⊎◌, ◌↔◌, inl, inr, IsTrue, ℕ, ◌+◌, ◌^◌, ◌<◌, ◌≤◌, Bool, List, [], ◌∷◌, ◌++◌, length, refl, sym, ◌∙◌, ap, subst, arith, append_assoc, length-append}
use Rattle.std.specs.Prelude.{Some, None}
use Rattle.std.specs.declared.option.Option.{Option}
use Rattle.std.proofs.lemmas.List.{append-nil}
use Rattle.std.proofs.lemmas.List.Elements.{All-nil}
use Rattle.std.specs.List.{flat_map}
use Rattle.std.specs.Option.{option_map_or}
use Rattle.xs_outside.specs.declared.Side.{Side}
use Rattle.xs_outside.specs.declared.Side.TheVariants.{A, B}
use Rattle.xs_outside.specs.Disk.{Sides, on, other, Changes}
use Rattle.gate_journal.specs.declared.parts.TheConstants.{OPEN, CLOSED, MAX_BASE, HEAD}
use Rattle.gate_journal.specs.declared.held.Held.{Held}
use Rattle.gate_journal.specs.declared.journal.Current.{Current}
use Rattle.gate_journal.specs.Gate.{BeginsWith, IsBeingMade}
use Rattle.gate_journal.specs.Layout.{Content, HoldsContent, IsClosed, IsRecordSize, length_bytes, eight_bytes, record_text, head_text, side_text}
use Rattle.gate_journal.specs.Sides.{held_content, IsHeldBy, IsBehind, HasGeneration, SidesHold}
use Rattle.gate_journal.specs.Ready.{IsReady}
use Rattle.gate_journal.specs.Journal.{Knows, HoldsEither, switched, side_after, flag_after, text_length}
use Rattle.gate_journal.proofs.TextLemmas.{length-head_text}

-- what is written behind the gate of a side
abbrev pub behind_side : ℕ → List ℕ → List ℕ
behind_side generation base = eight_bytes generation ++ length_bytes (length base) ++ base ++ CLOSED ∷ []

-- what a side of this generation holds at first
abbrev pub fresh : ℕ → List ℕ → Content
fresh generation base = record { generation = generation; base = base; records = [] }

pub held_made : (generation : ℕ) (base side : List ℕ) → generation < 2 ^ 64 → length base ≤ MAX_BASE → BeginsWith (behind_side generation base) side → HoldsContent (fresh generation base) side
unfolding side_text head_text
held_made generation base side fits short begins =
    let front = OPEN ∷ eight_bytes generation ++ length_bytes (length base) ++ base in record {
      gate = CLOSED;
      behind = begins.0;
      text = begins.1 ∙ append_assoc front (CLOSED ∷ []) begins.0 ∙ ap (λ (l : List ℕ). l ++ CLOSED ∷ begins.0) (sym (append-nil front));
      closed = λ same. cc same;
      sound = record { generation = fits; base = short; records = All-nil (λ p. IsRecordSize (length p)) };
    }

-- a side that holds something has its generation
pub has_generation : (content : Content) (side : List ℕ) → HoldsContent content side → HasGeneration content.generation side
unfolding side_text
has_generation content side holds =
    let records = flat_map record_text content.records in
    let head = head_text content.generation (length content.base) in
    let split : side ≡ head ++ (content.base ++ (records ++ holds.gate ∷ holds.behind)) =
    holds.text ∙ append_assoc (head ++ content.base) records (holds.gate ∷ holds.behind) ∙ append_assoc head content.base (records ++ holds.gate ∷ holds.behind) in
    (length content.base, content.base ++ (records ++ holds.gate ∷ holds.behind), record { text = split; generation_fits = holds.sound.generation; size_fits = omega (arith, holds.sound.base) })

other_other : (side : Side) → other (other side) ≡ side
other_other A = refl
other_other B = refl

-- the side and the generation that come next
pub next_of : (held : Option Held) (current : Option Current) (base : List ℕ) → Knows held current
    → (side_after current ≡ (switched held base).side) × (option_map_or (λ (c : Current). c.generation) current 0 + 1 ≡ (switched held base).generation)
next_of None None base knows = (refl, refl)
next_of None (Some current) base knows = absurd knows
next_of (Some held) None base knows = absurd knows
next_of (Some held) (Some current) base knows = (ap other knows.side, ap (λ n. n + 1) knows.generation)

module _ (base : List ℕ) (short : length base ≤ MAX_BASE) where
  -- the new side is held
  made_held : (held : Option Held) (old new : Sides) → (switched held base).generation < 2 ^ 64 → SidesHold held old → Changes (switched held base).side (λ _. BeginsWith (behind_side (switched held base).generation base)) old new → IsHeldBy new (switched held base)
  made_held None old new fits holds changes = record {
    holds = held_made 1 base new.a fits short changes.0;
    places = refl;
    behind = inl (subst IsClosed (sym changes.1) holds.1);
  }
  made_held (Some held) old new fits holds changes = record {
    holds = held_made (held.generation + 1) base (on (other held.side) new) fits short changes.0;
    places = refl;
    behind = inr (held.generation, subst (HasGeneration held.generation) (sym changes.1) (subst (λ s. HasGeneration held.generation (on s old)) (sym (other_other held.side)) (has_generation (held_content held) (on held.side old) holds.holds)), omega arith);
  }

  -- what was held still is
  old_held : (held : Option Held) (old new : Sides) → SidesHold held old → on (other (switched held base).side) new ≡ on (other (switched held base).side) old
      → (on (switched held base).side new ≡ on (switched held base).side old) ⊎ IsClosed (on (switched held base).side new) → SidesHold held new
  old_held None old new holds same (inl as_before) = (subst IsClosed (sym as_before) holds.0, subst IsClosed (sym same) holds.1)
  old_held None old new holds same (inr closed) = (closed, subst IsClosed (sym same) holds.1)
  old_held (Some held) old new holds same (inl as_before) =
      let kept = subst (λ s. on s new ≡ on s old) (other_other held.side) same in
      record { holds = subst (HoldsContent (held_content held)) (sym kept) holds.holds; places = holds.places; behind = subst (IsBehind held.generation) (sym as_before) holds.behind }
  old_held (Some held) old new holds same (inr closed) =
      let kept = subst (λ s. on s new ≡ on s old) (other_other held.side) same in
      record { holds = subst (HoldsContent (held_content held)) (sym kept) holds.holds; places = holds.places; behind = inl closed }

  -- each image of a move
  pub switch_image : (held : Option Held) (old image : Sides) → (switched held base).generation < 2 ^ 64 → SidesHold held old → Changes (switched held base).side (IsBeingMade (behind_side (switched held base).generation base)) old image
      → HoldsEither (other (switched held base).side) old held (Some (switched held base)) image
  switch_image held old image fits holds changes = record {
    other_side = changes.1;
    held = elim changes.0 [
      | inl as_before ↦ inl (old_held held old image holds changes.1 (inl as_before))
      | inr (inl closed) ↦ inl (old_held held old image holds changes.1 (inr closed))
      | inr (inr begins) ↦ inr (made_held held old image fits holds (begins, changes.1))
    ];
  }

  -- what a move leaves
  pub switch_done : (held : Option Held) (old new : Sides) → (switched held base).generation < 2 ^ 64 → SidesHold held old → Changes (switched held base).side (λ _. BeginsWith (behind_side (switched held base).generation base)) old new → IsHeldBy new (switched held base)
  switch_done held old new fits holds changes = made_held held old new fits holds changes

-- which sides are ready when one was made
pub ready_made : (side made : Side) (old new : Sides) (flag : Bool) → (IsReady (on made new) → ⊥) → on (other made) new ≡ on (other made) old → IsTrue flag ↔ IsReady (on side old) → IsTrue (flag_after side made flag) ↔ IsReady (on side new)
ready_made A A old new flag after same is = (λ f. cc f, λ r. absurd (after r))
ready_made A B old new flag after same is = (λ f. subst IsReady (sym same) (is.0 f), λ r. is.1 (subst IsReady same r))
ready_made B A old new flag after same is = (λ f. subst IsReady (sym same) (is.0 f), λ r. is.1 (subst IsReady same r))
ready_made B B old new flag after same is = (λ f. cc f, λ r. absurd (after r))

-- how long the text of a fresh side is
fresh_length : (generation : ℕ) (base : List ℕ) → length (side_text (fresh generation base)) ≡ HEAD + length base
unfolding side_text
fresh_length generation base =
    ap length (append-nil (head_text generation (length base) ++ base)) ∙ length-append (head_text generation (length base)) base ∙ ap (λ n. n + length base) (length-head_text generation (length base))

pub text_length-switched : (held : Option Held) (base : List ℕ) → text_length (switched held base) ≡ HEAD + length base
text_length-switched None base = fresh_length 1 base
text_length-switched (Some held) base = fresh_length (held.generation + 1) base
