-- The faults that a value has itself.
use Rattle.std.proofs.Common.{◌≡◌, ◌≤◌, ℕ, Some, None, Option, refl, ap, arith, subst}
use Rattle.std.specs.Prelude.{Contains, Result, Ok, Err}
use Rattle.std.specs.Result.{result_err}
use Rattle.ordered_json.specs.declared.json.OrderedJson.{OrderedJson}
use Rattle.xs_model.specs.declared.expr.Expr.{Expr}
use Rattle.machine_json.specs.declared.expressions.FormPlace.TheVariants.{AtObject}
use Rattle.machine_json.specs.declared.fault.MachineFault.{MachineFault}
use Rattle.machine_json.specs.declared.fault.MachineFault.TheVariants.{UnknownField, BadKind, NoInitial, EmptyStates, TooMany, DoubleId, NoTarget, Clash, Memory}
use Rattle.machine_json.specs.declared.role.Role.{Role}
use Rattle.machine_json.specs.declared.role.Role.TheVariants as roles
use Rattle.machine_json.specs.Expressions.{HasUnknownForm, IsExprReading}
use Rattle.machine_json.specs.FirstFaults.{IsLeastPlace}
use Rattle.machine_json.specs.FirstPass.{HasOwnFault, IsFormFault, TellsFirst, own_faults}
use Rattle.machine_json.proofs.ExpressionLemmas.{meaning_excludes}
use Rattle.machine_json.specs.MachineFaults.{machine_fault_number, machine_fault_place}

-- a value that is no expression has the faults of its role alone
pub no_expression : (role : Role) (json : OrderedJson) (found : Option MachineFault) → (role ≡ roles.Expression → ⊥)
    → TellsFirst found (Contains (own_faults role json)) → TellsFirst found (HasOwnFault role json)
no_expression roles.Expression json found not_it first = absurd (not_it refl)
no_expression _ json found not_it first = first

-- the least place of an unknown form is the first fault of an expression
form_first : (json : OrderedJson) (place : ℕ) → IsLeastPlace (HasUnknownForm AtObject json) place → TellsFirst (Some (BadKind place)) (IsFormFault json)
form_first json place least = record {
  there = (place, refl, least.there);
  no_earlier = λ other is.
      let low : place ≤ is.0 = least.no_earlier is.0 is.2 in
      let same : is.0 ≡ machine_fault_place other = ap machine_fault_place is.1 in omega arith;
  least_number = λ other is same. let number : 2 ≡ machine_fault_number other = ap machine_fault_number is.1 in omega arith;
}

-- what reading an expression answers, where it is no want of memory, tells the first fault
pub reading_refused : (json : OrderedJson) (reading : Result Expr MachineFault) (place : ℕ) → IsExprReading json reading
    → result_err reading ≡ Some (BadKind place) → TellsFirst (Some (BadKind place)) (IsFormFault json)
reading_refused json (Ok expr) place is refused = absurd (cc)
reading_refused json (Err (BadKind other)) place is refused =
    let same : other ≡ place = cc in
    let P : ℕ → Type 0 = λ p. IsLeastPlace (HasUnknownForm AtObject json) p in form_first json place (subst P same is)
reading_refused json (Err (UnknownField other)) place is refused = absurd is
reading_refused json (Err (NoInitial other)) place is refused = absurd is
reading_refused json (Err (EmptyStates other)) place is refused = absurd is
reading_refused json (Err (TooMany other)) place is refused = absurd is
reading_refused json (Err (DoubleId other)) place is refused = absurd is
reading_refused json (Err (NoTarget other)) place is refused = absurd is
reading_refused json (Err (Clash other)) place is refused = absurd is
reading_refused json (Err Memory) place is refused = absurd (cc)

pub reading_taken : (json : OrderedJson) (reading : Result Expr MachineFault) → IsExprReading json reading
    → result_err reading ≡ None → TellsFirst None (IsFormFault json)
reading_taken json (Ok expr) is taken = λ fault there. meaning_excludes AtObject json expr there.0 is there.2
reading_taken json (Err fault) is taken = absurd (cc)
