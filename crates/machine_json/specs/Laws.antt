-- What follows from the definitions, in the words of one who writes a text.
use Rattle.std.specs.Prelude.{◌≡◌, ℕ}
use Rattle.ordered_json.specs.declared.json.OrderedJson.{OrderedJson}
use Rattle.xs_model.specs.declared.expr.Expr.{Expr}
use Rattle.machine_json.specs.declared.expressions.FormPlace.{FormPlace}
use Rattle.machine_json.specs.Expressions.{HasUnknownForm, MeansExpr}
use Rattle.machine_json.specs.declared.fault.MachineFault.{MachineFault}
use Rattle.machine_json.specs.FirstFaults.{IsFirst, IsLeastPlace}
use Rattle.machine_json.specs.declared.machine.Machine.{Machine}
use Rattle.machine_json.specs.Machines.{IsAnsweredFault, MeansMachine}
use Rattle.machine_json.specs.MachineFaults.{machine_fault_number, machine_fault_place}
use Rattle.machine_json.specs.Nodes.{HasFirstPassFault}
use Rattle.machine_json.specs.SecondPass.{HasSecondPassFault}

-- JSON as an expression has one meaning at most, one place at most where it is refused, and never both
pub record ExprMeansOnce : Type 0 where
  pub one_meaning : (json : OrderedJson) (expr other : Expr) → MeansExpr json expr → MeansExpr json other → expr ≡ other
  pub one_place : (answered : FormPlace) (json : OrderedJson) (place other : ℕ)
      → IsLeastPlace (HasUnknownForm answered json) place
      → IsLeastPlace (HasUnknownForm answered json) other → place ≡ other
  pub never_both : (answered : FormPlace) (json : OrderedJson) (expr : Expr) (place : ℕ)
      → MeansExpr json expr → IsLeastPlace (HasUnknownForm answered json) place → ⊥

-- a fault is the first of those that there are
abbrev pub IsFirstFault : (MachineFault → Type 0) → MachineFault → Type 0
IsFirstFault IsThere fault = IsFirst machine_fault_place machine_fault_number IsThere fault

-- of the faults that a pass finds in a text one alone is first
pub record PassesAnswerOnce : Type 0 where
  pub first_pass : (text : OrderedJson) (fault other : MachineFault)
      → IsFirstFault (HasFirstPassFault text) fault → IsFirstFault (HasFirstPassFault text) other → fault ≡ other
  pub second_pass : (text : OrderedJson) (fault other : MachineFault)
      → IsFirstFault (HasSecondPassFault text) fault → IsFirstFault (HasSecondPassFault text) other → fault ≡ other

-- a machine text means one machine at most, one fault alone is answered of it, and never both
pub record MachineMeansOnce : Type 0 where
  pub one_machine : (text : OrderedJson) (machine other : Machine)
      → MeansMachine text machine → MeansMachine text other → machine ≡ other
  pub one_fault : (text : OrderedJson) (fault other : MachineFault)
      → IsAnsweredFault text fault → IsAnsweredFault text other → fault ≡ other
  pub never_both : (text : OrderedJson) (machine : Machine) (fault : MachineFault)
      → MeansMachine text machine → IsAnsweredFault text fault → ⊥
