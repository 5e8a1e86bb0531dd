-- What the parts of actions give, each within its limits.
use Rattle.std.specs.Prelude.{ℕ, Bool, List, Option, None, Some, Result, Ok, Err, nat_le, if◌then◌else◌, pos, negsuc}
use Rattle.xs_model.specs.declared.env.EvalFault.{EvalFault}
use Rattle.xs_model.specs.declared.env.EvalFault.TheVariants as eval_fault
use Rattle.xs_model.specs.declared.expr.Expr.{Expr}
use Rattle.xs_model.specs.declared.value.Value.{Value, out-Value}
use Rattle.xs_model.specs.declared.value.Value.TheVariants as value
use Rattle.xs_model.specs.declared.value.Value.TheOpen.{Value-F}
use Rattle.xs_model.specs.Eval.{Scope, outcome, truth}
use Rattle.office_types.specs.declared.limits.TheConstants.{MAX_MOMENT}
use Rattle.office_types.specs.declared.outcome.FaultName.{FaultName}
use Rattle.office_types.specs.declared.outcome.FaultName.TheVariants as fault
use Rattle.office_types.specs.Events.{event_type, is_reserved}
use Rattle.office_types.specs.Limits.{is_name, is_short}

-- what a part of a step gives, or the name of its fault
abbrev pub Stepped : Type 0 → Type 0
Stepped X = Result X FaultName

-- what comes next is made of what came before, whose fault goes first
abbrev pub and_then : {X Y : Type 0} → Stepped X → (X → Stepped Y) → Stepped Y
and_then (Ok x) next = next x
and_then (Err name) next = Err name

-- the name of an evaluation's fault; no evaluation gives Memory
abbrev pub fault_name : EvalFault → FaultName
fault_name eval_fault.Missing = fault.Missing
fault_name eval_fault.Kind = fault.Kind
fault_name eval_fault.Range = fault.Range
fault_name eval_fault.TooLarge = fault.TooLarge
fault_name eval_fault.Memory = fault.TooLarge

-- an evaluation with its fault's name
abbrev pub named : {X : Type 0} → Result X EvalFault → Stepped X
named (Ok x) = Ok x
named (Err fault) = Err (fault_name fault)

-- what an expression gives
abbrev pub value_in : Scope → Expr → Stepped Value
value_in scope expr = named (outcome scope expr)

-- ---- texts and numbers

-- a text; another kind is Kind
abbrev pub as_text : Value-F Value → Stepped (List ℕ)
as_text (Value-F.Text text) = Ok text
as_text _ = Err fault.Kind

-- a name within its limits
abbrev pub checked_name : List ℕ → Stepped (List ℕ)
checked_name text = if is_name text then Ok text else Err fault.TooLarge

-- an id or a system name
abbrev pub name_in : Scope → Expr → Stepped (List ℕ)
name_in scope expr = and_then (value_in scope expr) (λ x. and_then (as_text (out-Value x)) checked_name)

-- a part that may not be given
abbrev pub optional : {X : Type 0} → (Expr → Stepped X) → Option Expr → Stepped (Option X)
optional part None = Ok None
optional part (Some expr) = and_then (part expr) (λ x. Ok (Some x))

-- a delay in milliseconds; another kind is Kind, another number Range
abbrev pub as_delay : Value-F Value → Stepped ℕ
as_delay (Value-F.Int (pos delay)) = if nat_le delay MAX_MOMENT then Ok delay else Err fault.Range
as_delay (Value-F.Int (negsuc n)) = Err fault.Range
as_delay _ = Err fault.Kind

abbrev pub delay_in : Scope → Expr → Stepped ℕ
delay_in scope expr = and_then (value_in scope expr) (λ x. as_delay (out-Value x))

-- a truth value; another kind is Kind
abbrev pub test_in : Scope → Expr → Stepped Bool
test_in scope expr = and_then (value_in scope expr) (λ x. named (truth (out-Value x)))

-- ---- values

-- an input or an output, within the limits
abbrev pub short_in : Scope → Expr → Stepped Value
short_in scope expr = and_then (value_in scope expr) (λ x. if is_short x then Ok x else Err fault.TooLarge)

-- an input that may not be given: null then
abbrev pub input_in : Scope → Option Expr → Stepped Value
input_in scope None = Ok value.Null
input_in scope (Some expr) = short_in scope expr

-- an event of this type that an action makes: not one of the office's own types, and within the limits
abbrev pub checked_event : Value → Option (List ℕ) → Stepped Value
checked_event event None = Err fault.Kind
checked_event event (Some type) =
    if is_reserved type then Err fault.Reserved else if is_short event then Ok event else Err fault.TooLarge

-- an event that an action makes: a map with a text `type`
abbrev pub event_in : Scope → Expr → Stepped Value
event_in scope expr = and_then (value_in scope expr) (λ event. checked_event event (event_type event))
