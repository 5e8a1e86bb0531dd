use Rattle.std.proofs.Common.{take, map}
use Rattle.ordered_json.specs.Words.{member_parts}
use Rattle.action_table.specs.TableMeaning.{MeansActor, MeansNames}
use Rattle.action_table.proofs.read.named_actors.Given as goal

abbrev pub invariant-loop-member : goal.invariant-loop-member
invariant-loop-member l = MeansNames MeansActor (map member_parts (take l.member-index l.members)) l.names
