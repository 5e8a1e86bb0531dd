use Rattle.std.proofs.Common.{◌≡◌, drop, map}
use Rattle.ordered_json.specs.Words.{member_parts}
use Rattle.action_table.specs.Shapes.{shape_of}
use Rattle.action_table.proofs.role.shape_of.Given as goal

abbrev pub invariant-loop-member : goal.invariant-loop-member
invariant-loop-member l =
    shape_of l.role (map member_parts l.members) ≡ shape_of l.role (map member_parts (drop l.member-index l.members))
