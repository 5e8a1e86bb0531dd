use Rattle.std.proofs.Common.{◌<◌, not}
use Rattle.std.proofs.lemmas.List.Elements.{All-filter}
use Rattle.office_types.specs.declared.office.Timer.{Timer}
use Rattle.office_types.specs.Timers.{has_id}
use Rattle.office_books_tests.proofs.timers.Numbered.cancel.Goals as goal

pub invariant_of-self : goal.invariant_of-self
invariant_of-self c =
    let timers = c.args.self.now.timers.timers in
    let next = c.args.self.now.next in
    record {
      newer = rw c.cancel.ensures.timers (All-filter (λ (timer : Timer). not (has_id c.args.owner c.as_bytes.result.now timer)) (λ (timer : Timer). timer.order < next) timers c.args.self.now.newer);
    }
