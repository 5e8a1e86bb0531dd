-- What microsteps and raised events keep of what the rules allow.
use Rattle.std.proofs.Common.{◌<◌, ℕ, List, [], ◌∷◌, ◌++◌, fold, length, refl, sym, ap, subst, ◌∙◌, arith, length-append}
use Rattle.std.proofs.lemmas.List.Sums.{fold-append}
use Rattle.xs_model.specs.declared.value.Value.{Value}
use Rattle.node_tree.specs.Kinds.{Nodes}
use Rattle.guard_eval.specs.declared.def.Def.{Def}
use Rattle.office_types.specs.declared.limits.TheConstants.{MAX_MICROSTEPS}
use Rattle.office_types.specs.declared.outcome.Effect.{Effect}
use Rattle.office_types.specs.declared.outcome.End.{End}
use Rattle.office_types.specs.declared.outcome.Own.{Own}
use Rattle.office_types.specs.Definitions.{OfficeDefinitions}
use Rattle.office_types.specs.Outcomes.{AreAllowedEffects, IsThrough, children_after}
use Rattle.office_types.specs.OwnParts.{HasBegun}
use Rattle.microstep.specs.declared.micro.Micro.{Micro}
use Rattle.microstep.specs.Taking.{LeavesAllowed}
use Rattle.macrostep.specs.Allowed.{IsAllowedRun, IsMachineOf, KeepsAllowed}
use Rattle.macrostep.specs.Macro.{Run, run_of, type_of, with_event, with_micro}
use Rattle.macrostep.specs.Trails.{ran_outcome}

-- effects after effects
pub both_allowed : (definitions : OfficeDefinitions) (ids : List (List ℕ)) (xs ys : List Effect) → AreAllowedEffects definitions ids xs
    → AreAllowedEffects definitions (fold children_after ids xs) ys → AreAllowedEffects definitions ids (xs ++ ys)
both_allowed definitions ids [] ys first second = second
both_allowed definitions ids (x ∷ xs) ys first second = (first.0, both_allowed definitions (children_after ids x) xs ys first.1 second)

-- a microstep after a run
pub keeps_micro : (actors : ℕ) (def : Def) (own : Own) (run : Run) (micro : Micro) → length run.read < MAX_MICROSTEPS
    → LeavesAllowed actors def run.own micro → IsAllowedRun actors def own run → IsAllowedRun actors def own (with_micro run micro)
keeps_micro actors def own run micro below leaves allowed = record {
  machine = leaves.machine ∙ allowed.machine;
  begun = leaves.begun;
  effects = λ definitions many.
      let Fits : List (List ℕ) → Type 0 = λ ids. AreAllowedEffects definitions ids micro.effects in
      both_allowed definitions own.children run.effects micro.effects (allowed.effects definitions many)
      (subst Fits allowed.children (leaves.effects definitions many));
  children = leaves.children ∙ ap (λ ids. fold children_after ids micro.effects) allowed.children
      ∙ sym (fold-append children_after own.children run.effects micro.effects);
  unnamed = omega (arith, allowed.unnamed, leaves.unnamed);
  micros = let longer = length-append run.read (type_of run.event ∷ []) in omega (arith, longer, below);
}

-- the first microstep
pub allowed_first : (actors : ℕ) (def : Def) (own : Own) (event : Value) (micro : Micro)
    → LeavesAllowed actors def own micro → IsAllowedRun actors def own (with_micro (run_of own event) micro)
allowed_first actors def own event micro leaves = record {
  machine = leaves.machine;
  begun = leaves.begun;
  effects = leaves.effects;
  children = leaves.children;
  unnamed = leaves.unnamed;
  micros = omega arith;
}

-- a run that did nothing yet
pub allowed_start : (actors : ℕ) (def : Def) (own : Own) (event : Value) → HasBegun def.tree own → IsAllowedRun actors def own (run_of own event)
allowed_start actors def own event begun = record {
  machine = refl;
  begun = begun;
  effects = λ definitions many. tt;
  children = refl;
  unnamed = omega arith;
  micros = omega arith;
}

-- an event is taken
pub keeps_event : (def : Def) (run : Run) (event : Value) (later : List Value) → KeepsAllowed def run (with_event run event later)
keeps_event def run event later actors own formed allowed = record {
  machine = allowed.machine;
  begun = allowed.begun;
  effects = allowed.effects;
  children = allowed.children;
  unnamed = allowed.unnamed;
  micros = allowed.micros;
}

-- the outcome of a run that is allowed
pub through : (definitions : OfficeDefinitions) (def : Def) (own : Own) (run : Run) (end : End) → IsMachineOf definitions own.def def
    → IsAllowedRun (length definitions.actors) def own run → IsThrough definitions own (ran_outcome (record { run = run; end = end }))
through definitions def own run end machine allowed = record {
  machine = allowed.machine;
  begun = let Begun : Nodes → Type 0 = λ nodes. HasBegun nodes run.own in subst Begun (sym machine.nodes) allowed.begun;
  effects = allowed.effects definitions refl;
  children = allowed.children;
  unnamed = allowed.unnamed;
  micros = allowed.micros;
}
