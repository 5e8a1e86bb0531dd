use Rattle.std.proofs.Common.{◌∙◌}
use Rattle.flat_core.proofs.QueueLemmas.{first_ready-none, first_ready-some}
use Rattle.flat_core.proofs.office.Core.first_ready.Goals as goal

pub returns-in_err-letter : goal.returns-in_err-letter
returns-in_err-letter c =
    c.from_residual.ensures
    ∙ rw (← c.self.view_is) (first_ready-none c.self.inside.flat_actors.items c.self.inside.queue.items c.self.inside.next_letter c.in_err-letter.ensures)

pub returns : goal.returns
returns c =
    rw (← c.self.view_is) (first_ready-some c.self.inside.flat_actors.items c.self.inside.queue.items c.self.inside.next_letter c.in_ok-letter.letter.now c.in_ok-letter.ensures c.self.invariant)
