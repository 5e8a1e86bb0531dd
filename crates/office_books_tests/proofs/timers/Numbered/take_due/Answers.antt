use Rattle.std.proofs.Common.{◌<◌, not, nat_le}
use Rattle.std.proofs.lemmas.List.Elements.{All-filter}
use Rattle.office_types.specs.declared.office.Timer.{Timer}
use Rattle.office_books_tests.proofs.timers.Numbered.take_due.Goals as goal

pub invariant_of-self : goal.invariant_of-self
invariant_of-self c =
    let timers = c.args.self.now.timers.timers in
    let next = c.args.self.now.next in
    record {
      newer = rw c.take_due.ensures.timers (All-filter (λ (timer : Timer). not (nat_le timer.due c.args.moment)) (λ (timer : Timer). timer.order < next) timers c.args.self.now.newer);
    }
