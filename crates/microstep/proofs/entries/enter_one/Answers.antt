use Rattle.std.proofs.Common.{◌≡◌, Err, rules}
use Rattle.office_types.specs.declared.outcome.FaultName.{FaultName}
use Rattle.microstep.specs.declared.micro.StepFault.TheVariants.{Fault}
use Rattle.microstep.specs.Climbing.{IsActiveYet}
use Rattle.microstep.specs.Working.{AreActsOf, IsGivenBy}
use Rattle.microstep.proofs.ClimbLemmas.{entry-there}
use Rattle.microstep.proofs.EntryLemmas.{entered-becomes, entered-wrong}
use Rattle.microstep.proofs.entries.enter_one.Goals as goal

pub returns-in_err-enter : goal.returns-in_err-enter
returns-in_err-enter c =
    let def = c.args.def.now in
    let Active = IsActiveYet c.args.configuration.now c.args.later.now in
    let known : (name : FaultName) → c.in_err-enter.field-0.0 ≡ Fault name → IsGivenBy (AreActsOf def Active c.args.node) c.args.event.now c.args.progress.now (Err name) =
    λ name is. entered-wrong def Active c.args.node c.args.event.now c.args.progress.now name (c.in_err-enter.ensures name is)
    (entry-there def c.len-nodes.ensures.tree c.requires.statechart c.args.configuration.now c.args.later.now c.requires.configuration.legal c.args.node c.requires.active) in
    search (rules, known)

pub returns : goal.returns
returns c =
    entered-becomes c.args.def.now (IsActiveYet c.args.configuration.now c.args.later.now) c.args.node c.args.event.now c.args.progress.now c.raise_done_events.result c.enter.new.progress c.raise_done_events.new.progress
    c.in_ok-enter.ensures c.raise_done_events.ensures
