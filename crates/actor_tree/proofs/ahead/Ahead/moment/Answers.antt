use Rattle.std.proofs.Common.{arith}
use Rattle.actor_tree.proofs.ahead.Ahead.moment.Goals as goal

pub returns-clause-moment : goal.returns-clause-moment
returns-clause-moment c = rw (← c.self.view_is) c.self.invariant.told.counts.moment

pub returns-clause-limit : goal.returns-clause-limit
returns-clause-limit c = omega (arith, c.self.invariant.told.counts.moment, c.self.invariant.told.moment, c.self.invariant.begins.valid.1.limits.moment)
