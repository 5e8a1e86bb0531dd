-- What the calls of a microstep do whose acts aren't a single list that is known beforehand.
use Rattle.std.specs.Prelude.{◌≡◌, ◌≤◌, ℕ, Bool, List, [], ◌++◌, Result, Ok, Err, Contains, MatchResult, reverse}
use Rattle.std.specs.List.{AllZip, flat_map}
use Rattle.std.specs.Option.{option_map_or}
use Rattle.guard_eval.specs.declared.def.Def.{Def}
use Rattle.guard_eval.specs.declared.def.Invocation.{Invocation}
use Rattle.guard_eval.specs.declared.transition.Transition.{Transition}
use Rattle.office_types.specs.declared.outcome.Effect.TheVariants as effect
use Rattle.xs_model.specs.declared.expr.Expr.{Expr}
use Rattle.microstep.specs.Progress.{with_effect, with_stop}
use Rattle.office_types.specs.declared.outcome.FaultName.{FaultName}
use Rattle.xs_model.specs.declared.value.Value.{Value}
use Rattle.microstep.specs.declared.micro.StepFault.{StepFault}
use Rattle.microstep.specs.declared.micro.StepFault.TheVariants.{Fault}
use Rattle.microstep.specs.declared.moves.Move.{Move}
use Rattle.microstep.specs.declared.progress.Progress.{Progress}
use Rattle.microstep.specs.Acts.{Act, after_acts, entry_acts, exit_acts, runs}
use Rattle.microstep.specs.DoneEvents.{AreDoneActs}
use Rattle.microstep.specs.Parts.{Stepped}
use Rattle.microstep.specs.Selection.{Place, transition_at}

-- the actions of the transition at a place
abbrev pub acts_at : Def → Bool → Place → List Act
acts_at def eventless place = option_map_or (λ (transition : Transition). runs transition.actions) (transition_at def eventless place) []

-- a timer of a node that is left is cancelled
abbrev pub cancel_timer : List ℕ × Expr → Progress → Stepped Progress
cancel_timer timer progress = Ok (with_effect progress (effect.Cancel timer.0))

-- the child of an invocation of a node that is left is stopped
abbrev pub stop_invocation : Invocation → Progress → Stepped Progress
stop_invocation invocation progress = Ok (with_stop progress invocation.id)

-- acts of this kind give this
abbrev pub IsGivenBy : (List Act → Type 0) → Value → Progress → Stepped Progress → Type 0
IsGivenBy AreActs event progress expected = (acts : List Act) × AreActs acts × (after_acts event acts progress ≡ expected)

-- what a call leaves of what was done before is what acts of this kind make of it, or the name of their fault
abbrev pub BecomesBy : {X : Type 0} → (List Act → Type 0) → Value → Result X StepFault → Progress → Progress → Type 0
BecomesBy AreActs event result before after =
    MatchResult result (λ done. IsGivenBy AreActs event before (Ok after))
    (λ fault. (name : FaultName) → fault ≡ Fault name → IsGivenBy AreActs event before (Err name))

-- the acts of a node that is entered, with its done events
abbrev pub AreActsOf : Def → (ℕ → Type 0) → ℕ → List Act → Type 0
AreActsOf def Active n acts = (done : List Act) × AreDoneActs def Active n done × (acts ≡ entry_acts def n ++ done)

-- the active nodes when a node has just been entered: those of the configuration that aren't entered after it
abbrev pub IsActiveUpTo : List ℕ → List ℕ → ℕ → ℕ → Type 0
IsActiveUpTo configuration entered n m = Contains configuration m × (Contains entered m → m ≤ n)

-- the acts up to a configuration: as those of a move, where it is told from the configuration which nodes are active when one is entered
pub record AreActsTo (def : Def) (transitions : List Transition) (move : Move) (acts : List Act) : Type 0 where
  pub entries : List (List Act)
  pub each_entry : AllZip (λ n. AreActsOf def (IsActiveUpTo move.configuration move.entered n) n) move.entered entries
  pub acts_are : acts
      ≡ flat_map (exit_acts def) (reverse move.left)
      ++ flat_map (λ (transition : Transition). runs transition.actions) transitions
      ++ flat_map (λ (entry : List Act). entry) entries
