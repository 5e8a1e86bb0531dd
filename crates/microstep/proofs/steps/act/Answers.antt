use Rattle.std.proofs.Common.{◌≡◌, Err, rules}
use Rattle.office_types.specs.declared.outcome.FaultName.{FaultName}
use Rattle.microstep.specs.declared.micro.StepFault.TheVariants.{Fault}
use Rattle.microstep.specs.Taking.{transitions_at}
use Rattle.microstep.specs.Working.{AreActsOf, AreActsTo, IsActiveUpTo, IsGivenBy}
use Rattle.microstep.proofs.EntryLemmas.{all-there, entries-each}
use Rattle.microstep.proofs.StepLemmas.{act-fault, acts-become, leave-fault, taken-acts}
use Rattle.microstep.proofs.steps.act.Goals as goal

pub returns-in_err-leave_all : goal.returns-in_err-leave_all
returns-in_err-leave_all c =
    let def = c.args.def.now in
    let move = c.args.made.now in
    let transitions = transitions_at def c.args.picked.now in
    let known : (name : FaultName) → c.in_err-leave_all.field-0.0 ≡ Fault name → IsGivenBy (AreActsTo def transitions move) c.args.event.now c.args.progress.now (Err name) = λ name is.
    leave-fault def transitions move c.args.event.now c.args.progress.now name (rw c.as_slice.ensures.nodes at c.in_err-leave_all.ensures name is)
    (all-there (λ n. AreActsOf def (IsActiveUpTo move.configuration move.entered n) n) move.entered
    (λ k inside. entries-each def c.len-nodes.ensures.tree c.requires.statechart move.configuration move.entered c.requires.configuration.legal c.requires.entered c.requires.active k inside)) in
    search (rules, known)

pub returns-in_err-act_all : goal.returns-in_err-act_all
returns-in_err-act_all c =
    let def = c.args.def.now in
    let move = c.args.made.now in
    let transitions = transitions_at def c.args.picked.now in
    let known : (name : FaultName) → c.in_err-act_all.field-0.0 ≡ Fault name → IsGivenBy (AreActsTo def transitions move) c.args.event.now c.args.progress.now (Err name) = λ name is.
    act-fault def transitions move c.args.event.now c.args.progress.now _ name (rw c.as_slice.ensures.nodes at c.in_ok-leave_all.ensures)
    (rw (c.as_slice-2.ensures, taken-acts def c.args.picked.now) at c.in_err-act_all.ensures name is)
    (all-there (λ n. AreActsOf def (IsActiveUpTo move.configuration move.entered n) n) move.entered
    (λ k inside. entries-each def c.len-nodes.ensures.tree c.requires.statechart move.configuration move.entered c.requires.configuration.legal c.requires.entered c.requires.active k inside)) in
    search (rules, known)

pub enter_all-requires-clause-active : goal.enter_all-requires-clause-active
enter_all-requires-clause-active c = rw (c.as_slice-3.ensures.nodes, c.as_slice-configuration.ensures) c.requires.active

pub returns : goal.returns
returns c =
    let def = c.args.def.now in
    acts-become def (transitions_at def c.args.picked.now) c.args.made.now c.args.event.now c.enter_all.result c.args.progress.now c.leave_all.new.progress c.act_all.new.progress c.enter_all.new.progress
    (rw c.as_slice.ensures.nodes at c.in_ok-leave_all.ensures) (rw (c.as_slice-2.ensures, taken-acts def c.args.picked.now) at c.in_ok-act_all.ensures)
    (rw (c.as_slice-3.ensures.nodes, c.as_slice-configuration.ensures) at c.enter_all.ensures)
