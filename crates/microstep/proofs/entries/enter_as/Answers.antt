use Rattle.std.proofs.Common.{rules}
use Rattle.microstep.specs.Acts.{after_acts, entries_of, invokes, runs, starts}
use Rattle.microstep.specs.Progressing.{IsNamed}
use Rattle.microstep.proofs.ActLemmas.{entering, three-first, three-last, three-second}
use Rattle.microstep.proofs.entries.enter_as.Goals as goal

pub returns-in_err-run_all : goal.returns-in_err-run_all
returns-in_err-run_all c =
    let event = c.args.event.now in
    let said = c.args.said.now in
    let start = c.args.progress.now in
    let known : IsNamed c.in_err-run_all.field-0.0 (after_acts event (entries_of said) start) =
    three-first (after_acts event (entries_of said) start) (after_acts event (runs said.entry) start) (after_acts event (starts said.after)) (after_acts event (invokes said.invoke)) (entering event said start) c.in_err-run_all.field-0.0
    (rw c.as_slice.ensures at c.in_err-run_all.ensures) in
    search (rules, known)

pub returns-in_err-start_timers : goal.returns-in_err-start_timers
returns-in_err-start_timers c =
    let event = c.args.event.now in
    let said = c.args.said.now in
    let start = c.args.progress.now in
    let known : IsNamed c.in_err-start_timers.field-0.0 (after_acts event (entries_of said) start) =
    three-second (after_acts event (entries_of said) start) (after_acts event (runs said.entry) start) (after_acts event (starts said.after)) (after_acts event (invokes said.invoke)) (entering event said start) c.run_all.new.progress
    c.in_err-start_timers.field-0.0 (rw c.as_slice.ensures at c.in_ok-run_all.ensures) (rw c.as_slice-2.ensures at c.in_err-start_timers.ensures) in
    search (rules, known)

pub returns : goal.returns
returns c =
    let event = c.args.event.now in
    let said = c.args.said.now in
    let start = c.args.progress.now in
    three-last (after_acts event (entries_of said) start) (after_acts event (runs said.entry) start) (after_acts event (starts said.after)) (after_acts event (invokes said.invoke)) (entering event said start) c.begin_invocations.result c.run_all.new.progress
    c.start_timers.new.progress c.begin_invocations.new.progress (rw c.as_slice.ensures at c.in_ok-run_all.ensures) (rw c.as_slice-2.ensures at c.in_ok-start_timers.ensures)
    (rw c.as_slice-3.ensures at c.begin_invocations.ensures)
