-- Looking at the parts of a guard one after another.
use Rattle.std.proofs.Common.{◌≡◌, ◌↔◌, ℕ, zero, suc, ◌<◌, ◌≤◌, Bool, true, false, IsTrue, nat_eq, List, [], ◌∷◌, length, map, get_or, drop, Ok, Err, refl, arith, rules}
use Rattle.std.specs.Cmp.{nat_eq_equiv}
use Rattle.std.specs.List.{Contains, list_any}
use Rattle.std.proofs.lemmas.Bool.{eqb-true, false_from_ne_true}
use Rattle.std.proofs.lemmas.Map.Views.{Contains-from_any, list_any-from_Contains}
use Rattle.xs_model.specs.declared.env.EvalFault.{EvalFault}
use Rattle.xs_model.specs.Eval.{Scope}
use Rattle.guard_eval.specs.Guards.{Truth, all_of, any_of, guard_value}
use Rattle.guard_eval.specs.declared.guard.GuardUse.{GuardUse, the_lemmas}
use Rattle.guard_eval.specs.declared.guard.GuardUse.TheVariants as form

pub value-And : (scope : Scope) (nodes : List ℕ) (parts : List GuardUse) → guard_value scope nodes (form.And parts) ≡ all_of (map (guard_value scope nodes) parts)
value-And scope nodes parts = search (rules, the_lemmas)

pub value-Or : (scope : Scope) (nodes : List ℕ) (parts : List GuardUse) → guard_value scope nodes (form.Or parts) ≡ any_of (map (guard_value scope nodes) parts)
value-Or scope nodes parts = search (rules, the_lemmas)

pub value-In : (scope : Scope) (nodes : List ℕ) (node : ℕ) → guard_value scope nodes (form.In node) ≡ Ok (list_any (nat_eq node) nodes)
value-In scope nodes node = search (rules, the_lemmas)

-- a test that is true exactly where the node is among the nodes
pub among : (node : ℕ) (nodes : List ℕ) (test : Bool) → IsTrue test ↔ Contains nodes node → list_any (nat_eq node) nodes ≡ test
among node nodes true tells = list_any-from_Contains {eq = nat_eq} nat_eq_equiv node nodes (tells.0 refl)
among node nodes false tells =
    false_from_ne_true _ (λ any. let both : false ≡ true = tells.1 (Contains-from_any {eq = nat_eq} eqb-true node nodes any) in cc)

module _ {X : Type 0} (f : X → Truth) where
  -- all of the parts from a place on
  abbrev pub all_from : List X → ℕ → Truth
  all_from parts place = all_of (map f (drop place parts))

  -- any of the parts from a place on
  abbrev pub any_from : List X → ℕ → Truth
  any_from parts place = any_of (map f (drop place parts))

  pub all-end : (parts : List X) (place : ℕ) → length parts ≤ place → all_from parts place ≡ Ok true
  all-end [] zero past = refl
  all-end [] (suc place) past = refl
  all-end (x ∷ parts) zero past = absurd (omega (arith, past))
  all-end (x ∷ parts) (suc place) past = all-end parts place (omega (arith, past))

  pub all-true : (parts : List X) (place : ℕ) (d : X) → place < length parts → f (get_or parts place d) ≡ Ok true → all_from parts place ≡ all_from parts (suc place)
  all-true [] place d within holds = absurd (omega (arith, within))
  all-true (x ∷ parts) zero d within holds = rw holds refl
  all-true (x ∷ parts) (suc place) d within holds = all-true parts place d (omega (arith, within)) holds

  pub all-false : (parts : List X) (place : ℕ) (d : X) → place < length parts → f (get_or parts place d) ≡ Ok false → all_from parts place ≡ Ok false
  all-false [] place d within fails = absurd (omega (arith, within))
  all-false (x ∷ parts) zero d within fails = rw fails refl
  all-false (x ∷ parts) (suc place) d within fails = all-false parts place d (omega (arith, within)) fails

  pub all-Err : (parts : List X) (place : ℕ) (d : X) (fault : EvalFault) → place < length parts → f (get_or parts place d) ≡ Err fault → all_from parts place ≡ Err fault
  all-Err [] place d fault within faults = absurd (omega (arith, within))
  all-Err (x ∷ parts) zero d fault within faults = rw faults refl
  all-Err (x ∷ parts) (suc place) d fault within faults = all-Err parts place d fault (omega (arith, within)) faults

  pub any-end : (parts : List X) (place : ℕ) → length parts ≤ place → any_from parts place ≡ Ok false
  any-end [] zero past = refl
  any-end [] (suc place) past = refl
  any-end (x ∷ parts) zero past = absurd (omega (arith, past))
  any-end (x ∷ parts) (suc place) past = any-end parts place (omega (arith, past))

  pub any-false : (parts : List X) (place : ℕ) (d : X) → place < length parts → f (get_or parts place d) ≡ Ok false → any_from parts place ≡ any_from parts (suc place)
  any-false [] place d within fails = absurd (omega (arith, within))
  any-false (x ∷ parts) zero d within fails = rw fails refl
  any-false (x ∷ parts) (suc place) d within fails = any-false parts place d (omega (arith, within)) fails

  pub any-true : (parts : List X) (place : ℕ) (d : X) → place < length parts → f (get_or parts place d) ≡ Ok true → any_from parts place ≡ Ok true
  any-true [] place d within holds = absurd (omega (arith, within))
  any-true (x ∷ parts) zero d within holds = rw holds refl
  any-true (x ∷ parts) (suc place) d within holds = any-true parts place d (omega (arith, within)) holds

  pub any-Err : (parts : List X) (place : ℕ) (d : X) (fault : EvalFault) → place < length parts → f (get_or parts place d) ≡ Err fault → any_from parts place ≡ Err fault
  any-Err [] place d fault within faults = absurd (omega (arith, within))
  any-Err (x ∷ parts) zero d fault within faults = rw faults refl
  any-Err (x ∷ parts) (suc place) d fault within faults = any-Err parts place d fault (omega (arith, within)) faults
