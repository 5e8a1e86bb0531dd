use Rattle.std.proofs.Common.{map}
use Rattle.ordered_json.specs.Words.{member_parts}
use Rattle.machine_json.specs.FirstPass.{TellsFirst}
use Rattle.machine_json.specs.Links.{HasMemberLinkFault}
use Rattle.machine_json.specs.SecondPass.{HasLinkFault}
use Rattle.machine_json.proofs.FirstLemmas.{Among}
use Rattle.machine_json.proofs.links.+links.Given as goal

abbrev pub invariant-first_link_in_items-loop-item : goal.invariant-first_link_in_items-loop-item
invariant-first_link_in_items-loop-item l =
    TellsFirst l.first (Among (HasLinkFault l.outline l.source l.role) l.items l.item-index)

abbrev pub invariant-first_link_in_members-loop-member : goal.invariant-first_link_in_members-loop-member
invariant-first_link_in_members-loop-member l =
    TellsFirst l.first (Among (HasMemberLinkFault l.outline l.source l.role l.kind) (map member_parts l.members) l.member-index)
