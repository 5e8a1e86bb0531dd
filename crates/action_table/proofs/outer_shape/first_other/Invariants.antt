use Rattle.std.proofs.Common.{map, take}
use Rattle.ordered_json.specs.Words.{member_parts}
use Rattle.action_table.specs.OuterShape.{IsOtherMember, IsPlaceAmong}
use Rattle.action_table.specs.TablePlaces.{IsLeastOf}
use Rattle.action_table.proofs.outer_shape.first_other.Given as goal

abbrev pub invariant-loop-member : goal.invariant-loop-member
invariant-loop-member l = IsLeastOf (IsPlaceAmong IsOtherMember (map member_parts (take l.member-index l.members))) l.least
