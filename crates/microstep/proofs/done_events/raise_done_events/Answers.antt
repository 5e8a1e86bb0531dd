use Rattle.std.proofs.Common.{◌≡◌, [], Err, refl, rules}
use Rattle.office_types.specs.declared.outcome.FaultName.{FaultName}
use Rattle.microstep.specs.declared.micro.StepFault.TheVariants.{Fault}
use Rattle.microstep.specs.Climbing.{IsActiveYet}
use Rattle.microstep.specs.DoneEvents.{AreDoneActs, none}
use Rattle.microstep.specs.Working.{IsGivenBy}
use Rattle.microstep.proofs.EntryLemmas.{raised-then, raised-wrong}
use Rattle.microstep.proofs.done_events.raise_done_events.Goals as goal

pub ended_parent-requires : goal.ended_parent-requires
ended_parent-requires c = c.requires.configuration.legal.of_tree c.args.node c.requires.active

pub returns-in_default : goal.returns-in_default
returns-in_default c = ([], none c.in_default.ensures, refl)

pub climb-requires-clause-active : goal.climb-requires-clause-active
climb-requires-clause-active c = c.requires.configuration.legal.parents c.args.node c.in-Some.parent c.in-Some.ensures.1.child c.requires.active

pub raise_ended-requires : goal.raise_ended-requires
raise_ended-requires c =
    let legal = c.requires.configuration.legal in
    legal.of_tree c.in-Some.parent (legal.parents c.args.node c.in-Some.parent c.in-Some.ensures.1.child c.requires.active)

pub returns-in_err-raise_ended : goal.returns-in_err-raise_ended
returns-in_err-raise_ended c =
    let Active = IsActiveYet c.args.configuration.now c.args.later.now in
    let known : (name : FaultName) → c.in_err-raise_ended.field-0.0 ≡ Fault name → IsGivenBy (AreDoneActs c.args.def.now Active c.args.node) c.args.event.now c.args.progress.now (Err name) =
    λ name is. raised-wrong c.args.def.now Active c.args.node c.in-Some.parent c.in-Some.ensures.0 c.args.event.now c.args.progress.now c.in-Some.ensures.1 c.in_ok-above.above.items c.in_ok-above.ensures.climb name
    (c.in_err-raise_ended.ensures name is) in
    search (rules, known)

pub raise_all-requires : goal.raise_all-requires
raise_all-requires c = rw c.deref.ensures.value c.in_ok-above.ensures.of_tree

pub returns : goal.returns
returns c =
    let Active = IsActiveYet c.args.configuration.now c.args.later.now in
    raised-then c.args.def.now Active c.args.node c.in-Some.parent c.in-Some.ensures.0 c.args.event.now c.args.progress.now c.in-Some.ensures.1 c.in_ok-above.above.items c.in_ok-above.ensures.climb c.raise_all.result
    c.raise_ended.new.progress c.raise_all.new.progress c.in_ok-raise_ended.ensures (rw c.deref.ensures.value at c.raise_all.ensures)
