use Rattle.std.proofs.Common.{◌≡◌, ℕ, ◌+◌, ◌<◌, List, Result, Ok, Err, OnOk, OnErr, arith}
use Rattle.std.specs.List.{All}
use Rattle.std.proofs.lemmas.List.Elements.{All-push}
use Rattle.office_types.specs.declared.office.Timer.{Timer}
use Rattle.office_types.specs.Timers.{beside, with_scheduled}
use Rattle.delay_queue.proofs.QueueLemmas.{newer_beside}
use Rattle.office_books_tests.proofs.timers.Numbered.schedule.Goals as goal

still_newer : (timers after : List Timer) (timer : Timer) (next : ℕ) (r : Result (Unit {0}) Timer) → All (λ (t : Timer). t.order < next) timers → timer.order ≡ next
    → OnOk r (after ≡ with_scheduled timers timer) → OnErr r (after ≡ timers) → All (λ (t : Timer). t.order < next + 1) after
still_newer timers after timer next (Ok done) newer numbered ok err =
    let before : All (λ (t : Timer). t.order < timer.order) timers = λ k d within. omega (arith, newer k d within) in
    let beside_it = newer_beside timer timers before in
    let wider : All (λ (t : Timer). t.order < next + 1) (beside timer timers) = λ k d within. omega (arith, beside_it k d within) in
    rw ok (All-push (λ (t : Timer). t.order < next + 1) (beside timer timers) timer wider (omega arith))
still_newer timers after timer next (Err back) newer numbered ok err = rw err (λ k d within. omega (arith, newer k d within))

pub invariant_of-self-2 : goal.invariant_of-self-2
invariant_of-self-2 g c =
    record {
      newer = still_newer c.args.self.now.timers.timers c.schedule.new.self.timers c.in_ok-timer.field-0 c.args.self.now.next c.schedule.result c.args.self.now.newer c.in_ok-timer.ensures c.schedule.ensures.ok c.schedule.ensures.err;
    }
