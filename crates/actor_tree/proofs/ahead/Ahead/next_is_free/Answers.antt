use Rattle.actor_tree.proofs.AheadLemmas.{next_free}
use Rattle.actor_tree.proofs.ahead.Ahead.next_is_free.Goals as goal

pub returns : goal.returns
returns c = rw (← c.self.view_is) (next_free c.self.inside.held.now.office c.self.inside.actor c.self.inside.parts.items c.self.inside.notes c.self.invariant)
