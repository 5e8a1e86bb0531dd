use Rattle.actor_tree.proofs.ahead.Ahead.next_actor.Goals as goal

pub returns : goal.returns
returns c = rw (← c.self.view_is) c.self.invariant.told.counts.next_actor
