use Rattle.std.proofs.Common.{arith}
use Rattle.std.proofs.lemmas.Grind.{common_steps}
use Rattle.flat_core.proofs.QueueLemmas.{length-actors_from}
use Rattle.flat_core.proofs.office.Core.make_actor_room.Goals as goal

pub returns-clause-ok : goal.returns-clause-ok
returns-clause-ok c = grind (arith, common_steps, length-actors_from 1 c.reserve.new.self.items c.self.inside.queue.items)
