-- Whether a guard holds: one equation for each form.
use Rattle.std.specs.Prelude.{◌==◌, ℕ, Bool, true, false, not, List, [], ◌∷◌, Result, Ok, Err}
use Rattle.std.specs.List.{list_any}
use Rattle.xs_model.specs.declared.env.EvalFault.{EvalFault}
use Rattle.xs_model.specs.declared.expr.Expr.{Expr}
use Rattle.xs_model.specs.declared.value.Value.{Value}
use Rattle.xs_model.specs.Eval.{Scope, outcome, one, truth_of}
use Rattle.guard_eval.specs.declared.guard.GuardUse.{GuardUse, fold-GuardUse}
use Rattle.guard_eval.specs.declared.guard.GuardUse.TheOpen.{GuardUse-F}

-- a truth value or a fault
abbrev pub Truth : Type 0
Truth = Result Bool EvalFault

-- the truth value of an expression that is read with these params
abbrev pub test_value : Scope → Expr → Value → Truth
test_value scope expr params = truth_of (outcome (record scope { params = params }) expr)

-- from left to right, up to the first that is false or a fault
abbrev pub all_of : List Truth → Truth
all_of [] = Ok true
all_of (Err fault ∷ parts) = Err fault
all_of (Ok false ∷ parts) = Ok false
all_of (Ok true ∷ parts) = all_of parts

-- from left to right, up to the first that is true or a fault
abbrev pub any_of : List Truth → Truth
any_of [] = Ok false
any_of (Err fault ∷ parts) = Err fault
any_of (Ok true ∷ parts) = Ok true
any_of (Ok false ∷ parts) = any_of parts

-- what a guard gives whose parts give these
abbrev pub form_value : Scope → List ℕ → GuardUse-F Truth → Truth
form_value scope nodes (GuardUse-F.Test expr params) = test_value scope expr params
form_value scope nodes (GuardUse-F.And parts) = all_of parts
form_value scope nodes (GuardUse-F.Or parts) = any_of parts
form_value scope nodes (GuardUse-F.Not part) = one part (λ holds. Ok (not holds))
form_value scope nodes (GuardUse-F.In node) = Ok (list_any (λ active. node == active) nodes)

-- whether a guard holds where these nodes are active, or its fault
abbrev pub guard_value : Scope → List ℕ → GuardUse → Truth
guard_value scope nodes = fold-GuardUse Truth (form_value scope nodes)
