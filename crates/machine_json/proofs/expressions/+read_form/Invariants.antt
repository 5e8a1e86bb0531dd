use Rattle.std.proofs.Common.{take, map}
use Rattle.ordered_json.specs.Words.{member_parts}
use Rattle.machine_json.proofs.ExpressionLemmas.{SoFar}
use Rattle.machine_json.proofs.MemberLemmas.{MapSoFar}
use Rattle.machine_json.proofs.expressions.+read_form.Given as goal

abbrev pub invariant-read_list-loop-item : goal.invariant-read_list-loop-item
invariant-read_list-loop-item l = SoFar l.answered (take l.item-index l.items) l.parts.items l.least

abbrev pub invariant-read_map-loop-member : goal.invariant-read_map-loop-member
invariant-read_map-loop-member l = MapSoFar l.answered (map member_parts (take l.member-index l.members)) l.parts.items l.least
