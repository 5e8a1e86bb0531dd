-- What the fronts of both sides, and the text of one, say of what both hold.
use Rattle.std.proofs.Common.{◌≡◌, ◌⊎◌, ◌↔◌, inl, inr, ⊎_elim, IsTrue, Bool, ℕ, ◌+◌, ◌≤◌, List, length, take, drop, refl, sym, ◌∙◌, subst, arith}
use Rattle.std.specs.Prelude.{None}
use Rattle.std.proofs.lemmas.List.{take_all}
use Rattle.xs_outside.specs.declared.Side.{Side}
use Rattle.xs_outside.specs.declared.Side.TheVariants.{A, B}
use Rattle.xs_outside.specs.Disk.{Sides, on, other}
use Rattle.gate_journal.specs.declared.held.Held.{Held}
use Rattle.gate_journal.specs.declared.opening.Choice.TheVariants as choice
use Rattle.gate_journal.specs.declared.parts.TheConstants.{HEAD}
use Rattle.gate_journal.specs.declared.window.Window.{Window}
use Rattle.gate_journal.specs.Found.{picked}
use Rattle.gate_journal.specs.Layout.{HoldsContent, HasHead, IsBadAt}
use Rattle.gate_journal.specs.Opening.{ChoiceIs, IsFront, IsHeldText}
use Rattle.gate_journal.specs.Reading.{Shows, left_behind}
use Rattle.gate_journal.specs.Ready.{IsReady}
use Rattle.gate_journal.specs.Sides.{held_content, AreBadAt, HasShortSide, HasEqualGenerations, IsBehind, IsHeldBy, SidesHold}
use Rattle.gate_journal.proofs.FrontLemmas.{front_behind, front_closed, front_generation, front_head, front_ready, front_short, no_longer}

pub front_of_window : (text : List ℕ) (window : Window) → window.place ≡ 0 → (left_behind window ≡ 0) ⊎ (HEAD ≤ length window.bytes.items) → Shows text window → IsFront window.bytes.items text
front_of_window text window start enough shows =
    let bytes = subst (λ p. window.bytes.items ≡ take (length window.bytes.items) (drop p text)) start shows.bytes in record {
      bytes = bytes;
      enough = elim enough [
        | inl none ↦ inr (bytes ∙ take_all (length window.bytes.items) text (omega (arith, none, start, shows.whole)))
        | inr long ↦ inl long
      ];
    }

module _ (fronts sides : Sides) (a : IsFront fronts.a sides.a) (b : IsFront fronts.b sides.b) where
  pub front_on : (side : Side) → IsFront (on side fronts) (on side sides)
  front_on A = a
  front_on B = b

  pub neither_held : ChoiceIs choice.Neither fronts → SidesHold None sides
  neither_held closed = (front_closed fronts.a sides.a a closed.0, front_closed fronts.b sides.b b closed.1)

  short_side : (side : Side) → HasShortSide side fronts → HasShortSide side sides
  short_side A short = front_short fronts.a sides.a a short
  short_side B short = (front_short fronts.b sides.b b short.0, ⊎_elim (λ closed. inl (front_closed fronts.a sides.a a closed)) (λ long. inr (omega (arith, long, no_longer fronts.a sides.a a))) short.1)

  equal_generations : HasEqualGenerations fronts → HasEqualGenerations sides
  equal_generations equal = (equal.0, front_generation fronts.a sides.a a equal.0 equal.1, front_generation fronts.b sides.b b equal.0 equal.2)

  pub bad_front : (side : Side) → ChoiceIs (choice.Bad side) fronts → AreBadAt side 1 sides
  bad_front side bad = elim bad [
    | inl short ↦ inl (short_side side short, refl)
    | inr equal ↦ inr (inl (equal.0, equal_generations equal.1, refl))
  ]

  pub head_of_side : (side : Side) (generation size : ℕ) → ChoiceIs (choice.Held side generation size) fronts → HasHead generation size (drop HEAD (on side sides)) (on side sides)
  head_of_side side generation size held = front_head (on side fronts) (on side sides) (front_on side) generation size (drop HEAD (on side fronts)) held.0

  pub other_is_behind : (side : Side) (generation size : ℕ) → ChoiceIs (choice.Held side generation size) fronts → IsBehind generation (on (other side) sides)
  other_is_behind side generation size held = front_behind (on (other side) fronts) (on (other side) sides) (front_on (other side)) generation held.1

  pub ready_on_a : (flag : Bool) → IsTrue flag ↔ IsReady fronts.a → IsTrue flag ↔ IsReady sides.a
  ready_on_a flag is = let same = front_ready fronts.a sides.a a in (λ f. same.0 (is.0 f), λ r. is.1 (same.1 r))

  pub ready_on_b : (flag : Bool) → IsTrue flag ↔ IsReady fronts.b → IsTrue flag ↔ IsReady sides.b
  ready_on_b flag is = let same = front_ready fronts.b sides.b b in (λ f. same.0 (is.0 f), λ r. is.1 (same.1 r))

-- a text that is held, beside a side that comes behind
pub held_by : (sides : Sides) (held : Held) (side : Side) (generation end : ℕ) → held.generation ≡ generation → IsHeldText held side end (on side sides) → IsBehind generation (on (other side) sides) → IsHeldBy sides held
held_by sides held side generation end same text behind = record {
  holds = subst (λ s. HoldsContent (held_content held) (on s sides)) (sym text.on_side) text.holds;
  places = text.places;
  behind = subst (λ n. IsBehind n (on (other held.side) sides)) (sym same) (subst (λ s. IsBehind generation (on (other s) sides)) (sym text.on_side) behind);
}

pub bad_behind : (sides : Sides) (side : Side) (generation size place : ℕ) → HasHead generation size (drop HEAD (on side sides)) (on side sides) → IsBehind generation (on (other side) sides) → IsBadAt (on side sides) place → AreBadAt side place sides
bad_behind sides side generation size place head behind bad = inr (inr (generation, (size, drop HEAD (on side sides), head), behind, bad))

-- ---- the window that is picked

module _ (a b : Window) (is_a : a.side ≡ A) (is_b : b.side ≡ B) where
  pub picked_side : (side : Side) → (picked side a b).side ≡ side
  picked_side A = is_a
  picked_side B = is_b

  pub picked_place : (side : Side) → a.place ≡ 0 → b.place ≡ 0 → (picked side a b).place ≡ 0
  picked_place A start_a start_b = start_a
  picked_place B start_a start_b = start_b

  pub picked_bytes : (side : Side) → (picked side a b).bytes.items ≡ on side (record { a = a.bytes.items; b = b.bytes.items })
  picked_bytes A = refl
  picked_bytes B = refl

  pub picked_shows : (side : Side) (sides : Sides) → Shows sides.a a → Shows sides.b b → Shows (on (picked side a b).side sides) (picked side a b)
  picked_shows A sides shows_a shows_b = subst (λ s. Shows (on s sides) a) (sym is_a) shows_a
  picked_shows B sides shows_a shows_b = subst (λ s. Shows (on s sides) b) (sym is_b) shows_b

  pub picked_left : (side : Side) → left_behind (picked side a b) ≤ left_behind a + left_behind b
  picked_left A = omega arith
  picked_left B = omega arith
