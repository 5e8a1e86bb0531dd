use Rattle.std.proofs.Common.{take, map}
use Rattle.ordered_json.specs.Words.{member_parts}
use Rattle.machine_json.specs.Expressions.{MeansExpr}
use Rattle.action_table.specs.TableMeaning.{MeansUnder}
use Rattle.action_table.proofs.parts.each_value.Given as goal

abbrev pub invariant-loop-member : goal.invariant-loop-member
invariant-loop-member l = MeansUnder MeansExpr (map member_parts (take l.member-index l.members)) l.values.items
