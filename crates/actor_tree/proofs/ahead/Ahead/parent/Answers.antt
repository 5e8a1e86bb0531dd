use Rattle.std.proofs.Common.{◌∙◌, subst, sym, ap}
use Rattle.std.specs.Prelude.{IfSome, Option}
use Rattle.actor_tree.proofs.AheadLemmas.{parent_is, parent_there}
use Rattle.actor_tree.proofs.ahead.Ahead.parent.Goals as goal

pub returns-clause-parent : goal.returns-clause-parent
returns-clause-parent c = rw (← c.self.view_is) (c.parent.ensures ∙ sym (parent_is c.self.inside.held.now.office c.self.inside.actor c.self.inside.parts.items c.self.inside.notes c.self.invariant))

pub returns-clause-there : goal.returns-clause-there
returns-clause-there c = rw (← c.self.view_is) (parent_there c.self.inside.held.now.office c.self.inside.actor c.self.inside.parts.items c.self.inside.notes c.self.invariant c.parent.result (sym c.parent.ensures))
