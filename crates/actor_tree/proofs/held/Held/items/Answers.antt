use Rattle.std.proofs.Common.{◌∙◌}
use Rattle.actor_tree.proofs.held.Held.items.Goals as goal

pub returns : goal.returns
returns c = rw (← c.self.view_is) (c.list.ensures.items ∙ c.self.invariant.items_open)
