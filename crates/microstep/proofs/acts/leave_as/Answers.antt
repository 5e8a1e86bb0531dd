use Rattle.std.proofs.Common.{rules}
use Rattle.microstep.specs.Actions.{in_turn}
use Rattle.microstep.specs.Acts.{after_acts, exits_of, runs}
use Rattle.microstep.specs.Progressing.{IsNamed}
use Rattle.microstep.specs.Working.{cancel_timer, stop_invocation}
use Rattle.microstep.proofs.ActLemmas.{leaving, three-first, three-last, three-second}
use Rattle.microstep.proofs.acts.leave_as.Goals as goal

pub returns-in_err-run_all : goal.returns-in_err-run_all
returns-in_err-run_all c =
    let event = c.args.event.now in
    let said = c.args.said.now in
    let start = c.args.progress.now in
    let known : IsNamed c.in_err-run_all.field-0.0 (after_acts event (exits_of said) start) =
    three-first (after_acts event (exits_of said) start) (after_acts event (runs said.exit) start) (in_turn cancel_timer said.after) (in_turn stop_invocation said.invoke) (leaving event said start) c.in_err-run_all.field-0.0
    (rw c.as_slice.ensures at c.in_err-run_all.ensures) in
    search (rules, known)

pub returns-in_err-cancel_timers : goal.returns-in_err-cancel_timers
returns-in_err-cancel_timers c =
    let event = c.args.event.now in
    let said = c.args.said.now in
    let start = c.args.progress.now in
    let known : IsNamed c.in_err-cancel_timers.field-0.0 (after_acts event (exits_of said) start) =
    three-second (after_acts event (exits_of said) start) (after_acts event (runs said.exit) start) (in_turn cancel_timer said.after) (in_turn stop_invocation said.invoke) (leaving event said start) c.run_all.new.progress
    c.in_err-cancel_timers.field-0.0 (rw c.as_slice.ensures at c.in_ok-run_all.ensures) (rw c.as_slice-2.ensures at c.in_err-cancel_timers.ensures) in
    search (rules, known)

pub returns : goal.returns
returns c =
    let event = c.args.event.now in
    let said = c.args.said.now in
    let start = c.args.progress.now in
    three-last (after_acts event (exits_of said) start) (after_acts event (runs said.exit) start) (in_turn cancel_timer said.after) (in_turn stop_invocation said.invoke) (leaving event said start) c.stop_invoked.result c.run_all.new.progress
    c.cancel_timers.new.progress c.stop_invoked.new.progress (rw c.as_slice.ensures at c.in_ok-run_all.ensures) (rw c.as_slice-2.ensures at c.in_ok-cancel_timers.ensures)
    (rw c.as_slice-3.ensures at c.stop_invoked.ensures)
