use Rattle.std.proofs.Common.{take, map}
use Rattle.ordered_json.specs.Words.{member_parts}
use Rattle.machine_json.specs.Expressions.{MeansExpr}
use Rattle.action_table.specs.TableMeaning.{MeansNames}
use Rattle.action_table.proofs.read.named_exprs.Given as goal

abbrev pub invariant-loop-member : goal.invariant-loop-member
invariant-loop-member l = MeansNames MeansExpr (map member_parts (take l.member-index l.members)) l.names
