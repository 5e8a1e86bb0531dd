use Rattle.std.proofs.Common.{take, map}
use Rattle.ordered_json.specs.Words.{member_parts}
use Rattle.action_table.specs.TablePlaces.{HasItemFault, HasMemberFault, IsLeastOf}
use Rattle.action_table.proofs.first.+first_fault.Given as goal

abbrev pub invariant-first_of_members-loop-member : goal.invariant-first_of_members-loop-member
invariant-first_of_members-loop-member l =
    IsLeastOf (HasMemberFault l.role l.shape (map member_parts (take l.member-index l.members))) l.least

abbrev pub invariant-first_of_items-loop-item : goal.invariant-first_of_items-loop-item
invariant-first_of_items-loop-item l = IsLeastOf (HasItemFault l.role (take l.item-index l.items)) l.least
