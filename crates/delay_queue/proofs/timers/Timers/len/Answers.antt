use Rattle.delay_queue.proofs.NumberedLemmas.{same_length}
use Rattle.delay_queue.proofs.timers.Timers.len.Goals as goal

pub returns : goal.returns
returns c = rw (c.len.ensures, ← c.self.view_is) (same_length c.self.inside.store.items)
