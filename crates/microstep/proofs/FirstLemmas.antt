-- The first candidate that is enabled, looked for one after another.
use Rattle.std.proofs.Common.{◌≡◌, ℕ, ◌+◌, ◌<◌, Bool, true, false, List, [], ◌∷◌, ◌++◌, length, get_or, map, filter, drop, Ok, Err, Some, None, refl, ◌∙◌, ap, add-one}
use Rattle.std.specs.List.{enumerate_from, flat_map}
use Rattle.std.specs.Prelude.{Option, Result}
use Rattle.std.proofs.Math.Seq.{drop-cons}
use Rattle.xs_model.specs.declared.env.EvalFault.{EvalFault}
use Rattle.guard_eval.specs.declared.transition.Transition.{Transition}
use Rattle.microstep.specs.Candidates.{Candidate, candidates_under}
use Rattle.microstep.specs.Patterns.{pattern_text}
use Rattle.microstep.specs.declared.patterns.Pattern.{Pattern}
use Rattle.microstep.specs.Selection.{Looking, first_by, first_enabled, is_enabled}

-- what the candidates after some others give, where none of those is enabled
pub first-after : (looking : Looking) (front back : List Candidate) → first_enabled looking front ≡ Ok None → first_enabled looking (front ++ back) ≡ first_enabled looking back
first-after looking [] back none = refl
first-after looking (candidate ∷ front) back none = by_guard (is_enabled looking candidate.1) (first-after looking front back) none where
  by_guard : (truth : Result Bool EvalFault) → (first_enabled looking front ≡ Ok None → first_enabled looking (front ++ back) ≡ first_enabled looking back)
      → first_by truth candidate.0 (first_enabled looking front) ≡ Ok None
      → first_by truth candidate.0 (first_enabled looking (front ++ back)) ≡ first_enabled looking back
  by_guard (Ok true) later is = absurd cc
  by_guard (Ok false) later is = later is
  by_guard (Err fault) later is = absurd cc

-- where one of the first is enabled, or has a fault, the others don't count
pub first-some : (looking : Looking) (front back : List Candidate) (place : ℕ) → first_enabled looking front ≡ Ok (Some place) → first_enabled looking (front ++ back) ≡ Ok (Some place)
first-some looking [] back place is = absurd cc
first-some looking (candidate ∷ front) back place is = by_guard (is_enabled looking candidate.1) (first-some looking front back place) is where
  by_guard : (truth : Result Bool EvalFault) → (first_enabled looking front ≡ Ok (Some place) → first_enabled looking (front ++ back) ≡ Ok (Some place))
      → first_by truth candidate.0 (first_enabled looking front) ≡ Ok (Some place)
      → first_by truth candidate.0 (first_enabled looking (front ++ back)) ≡ Ok (Some place)
  by_guard (Ok true) later is = is
  by_guard (Ok false) later is = later is
  by_guard (Err fault) later is = absurd cc

pub first-fault : (looking : Looking) (front back : List Candidate) (fault : EvalFault) → first_enabled looking front ≡ Err fault → first_enabled looking (front ++ back) ≡ Err fault
first-fault looking [] back fault is = absurd cc
first-fault looking (candidate ∷ front) back fault is = by_guard (is_enabled looking candidate.1) (first-fault looking front back fault) is where
  by_guard : (truth : Result Bool EvalFault) → (first_enabled looking front ≡ Err fault → first_enabled looking (front ++ back) ≡ Err fault)
      → first_by truth candidate.0 (first_enabled looking front) ≡ Err fault
      → first_by truth candidate.0 (first_enabled looking (front ++ back)) ≡ Err fault
  by_guard (Ok true) later is = absurd cc
  by_guard (Ok false) later is = later is
  by_guard (Err other) later is = is

module _ (looking : Looking) (test : Candidate → Bool) where
  -- those that pass the test among the transitions from a place on
  abbrev pub passing_from : List Transition → ℕ → List Candidate
  passing_from transitions place = filter test (enumerate_from place (drop place transitions))

  abbrev pub first_from : List Transition → ℕ → Result (Option ℕ) EvalFault
  first_from transitions place = first_enabled looking (passing_from transitions place)

-- a test that lets everything pass keeps the list
pub filter-all : (candidates : List Candidate) → filter (λ (candidate : Candidate). true) candidates ≡ candidates
filter-all [] = refl
filter-all (candidate ∷ later) = ap (λ rest. candidate ∷ rest) (filter-all later)

module _ (transitions : List Transition) (kind : List ℕ) where
  -- the candidates under the descriptors from a place on
  abbrev pub under_from : List Pattern → ℕ → List Candidate
  under_from patterns place = flat_map (candidates_under transitions) (map (pattern_text kind) (drop place patterns))

  under-here : (patterns : List Pattern) (place : ℕ) (d : Pattern) → place < length patterns
      → under_from patterns place ≡ candidates_under transitions (pattern_text kind (get_or patterns place d)) ++ under_from patterns (place + 1)
  under-here patterns place d inside = rw (drop-cons patterns place d inside, add-one) refl

  pub under-none : (looking : Looking) (patterns : List Pattern) (place : ℕ) (d : Pattern) → place < length patterns
      → first_enabled looking (candidates_under transitions (pattern_text kind (get_or patterns place d))) ≡ Ok None
      → first_enabled looking (under_from patterns place) ≡ first_enabled looking (under_from patterns (place + 1))
  under-none looking patterns place d inside none =
      ap (first_enabled looking) (under-here patterns place d inside) ∙ first-after looking _ _ none

  pub under-some : (looking : Looking) (patterns : List Pattern) (place : ℕ) (d : Pattern) (found : ℕ) → place < length patterns
      → first_enabled looking (candidates_under transitions (pattern_text kind (get_or patterns place d))) ≡ Ok (Some found)
      → first_enabled looking (under_from patterns place) ≡ Ok (Some found)
  under-some looking patterns place d found inside some =
      ap (first_enabled looking) (under-here patterns place d inside) ∙ first-some looking _ _ found some

  pub under-Err : (looking : Looking) (patterns : List Pattern) (place : ℕ) (d : Pattern) (fault : EvalFault) → place < length patterns
      → first_enabled looking (candidates_under transitions (pattern_text kind (get_or patterns place d))) ≡ Err fault
      → first_enabled looking (under_from patterns place) ≡ Err fault
  under-Err looking patterns place d fault inside faults =
      ap (first_enabled looking) (under-here patterns place d inside) ∙ first-fault looking _ _ fault faults
