use Rattle.std.proofs.Common.{take, map}
use Rattle.ordered_json.specs.Words.{member_parts}
use Rattle.action_table.specs.TableMeaning.{MeansActions, MeansNames}
use Rattle.action_table.proofs.read.named_actions.Given as goal

abbrev pub invariant-loop-member : goal.invariant-loop-member
invariant-loop-member l = MeansNames MeansActions (map member_parts (take l.member-index l.members)) l.names
