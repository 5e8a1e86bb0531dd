use Rattle.std.proofs.Common.{◌<◌, List, length, take, refl, ap, ◌∙◌}
use Rattle.std.proofs.lemmas.List.Elements.{All-from_recursion}
use Rattle.std.proofs.lemmas.Option.{slice_get_read}
use Rattle.office_types.specs.declared.office.Timer.{Timer}
use Rattle.office_types.specs.Timers.{with_scheduled}
use Rattle.actor_tree.proofs.RestoreLemmas.{earlier, keys_rise, timer_new}
use Rattle.actor_tree.proofs.restore.restore_timers.Goals as goal

pub add_timer-requires-clause-newer : goal.add_timer-requires-clause-newer
add_timer-requires-clause-newer c =
    let timers = c.args.timers.now in
    let i = c.loop-timer.timer-index in
    let timer = c.timer-item.result in
    let here = slice_get_read timers (length timers) i timer refl c.loop-timer-test.true c.timer-item.is in
    rw (c.reserve.ensures.timers, c.loop-timer.invariant, c.in_ok-timer.ensures)
    (All-from_recursion (λ (other : Timer). other.order < timer.order) (take i timers) (earlier (λ (a b : Timer). a.order < b.order) timers i timer (keys_rise (λ (a : Timer). a.order) timers c.requires.rise) here))

pub loop-timer-preserved : goal.loop-timer-preserved
loop-timer-preserved c =
    let timers = c.args.timers.now in
    let i = c.loop-timer.timer-index in
    let timer = c.timer-item.result in
    let here = slice_get_read timers (length timers) i timer refl c.loop-timer-test.true c.timer-item.is in
    c.add_timer.ensures.timers
    ∙ (ap (λ (l : List Timer). with_scheduled l c.in_ok-timer.timer) (c.reserve.ensures.timers ∙ c.loop-timer.invariant)
    ∙ (ap (with_scheduled (take i timers)) c.in_ok-timer.ensures ∙ timer_new timers i timer c.requires.once here))
