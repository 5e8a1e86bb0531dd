-- Doing one thing after the other.
use Rattle.std.proofs.Common.{◌≡◌, ℕ, zero, suc, ◌<◌, ◌≤◌, List, [], ◌∷◌, length, map, get_or, drop, Ok, Err, refl, arith}
use Rattle.office_types.specs.declared.outcome.FaultName.{FaultName}
use Rattle.microstep.specs.declared.progress.Progress.{Progress}
use Rattle.microstep.specs.Actions.{in_turn}
use Rattle.microstep.specs.Parts.{Stepped, and_then}

module _ {X : Type 0} (one : X → Progress → Stepped Progress) where
  -- the things from a place on
  abbrev pub turn_from : List X → ℕ → Progress → Stepped Progress
  turn_from xs place progress = in_turn one (drop place xs) progress

  pub turn-end : (xs : List X) (place : ℕ) (progress : Progress) → length xs ≤ place → turn_from xs place progress ≡ Ok progress
  turn-end [] zero progress past = refl
  turn-end [] (suc place) progress past = refl
  turn-end (x ∷ xs) zero progress past = absurd (omega (arith, past))
  turn-end (x ∷ xs) (suc place) progress past = turn-end xs place progress (omega (arith, past))

  pub turn-more : (xs : List X) (place : ℕ) (d : X) (progress next : Progress) → place < length xs → one (get_or xs place d) progress ≡ Ok next
      → turn_from xs place progress ≡ turn_from xs (suc place) next
  turn-more [] place d progress next within gives = absurd (omega (arith, within))
  turn-more (x ∷ xs) zero d progress next within gives = rw gives refl
  turn-more (x ∷ xs) (suc place) d progress next within gives = turn-more xs place d progress next (omega (arith, within)) gives

  pub turn-stops : (xs : List X) (place : ℕ) (d : X) (progress : Progress) (name : FaultName) → place < length xs → one (get_or xs place d) progress ≡ Err name
      → turn_from xs place progress ≡ Err name
  turn-stops [] place d progress name within gives = absurd (omega (arith, within))
  turn-stops (x ∷ xs) zero d progress name within gives = rw gives refl
  turn-stops (x ∷ xs) (suc place) d progress name within gives = turn-stops xs place d progress name (omega (arith, within)) gives

both : (r : Stepped Progress) (f g : Progress → Stepped Progress) → ((progress : Progress) → f progress ≡ g progress) → and_then r f ≡ and_then r g
both (Ok progress) f g same = same progress
both (Err name) f g same = refl

pub turn-map : {X Y : Type 0} (one : Y → Progress → Stepped Progress) (f : X → Y) (xs : List X) (progress : Progress)
    → in_turn one (map f xs) progress ≡ in_turn (λ (x : X). one (f x)) xs progress
turn-map one f [] progress = refl
turn-map one f (x ∷ xs) progress = both (one (f x) progress) _ _ (turn-map one f xs)
