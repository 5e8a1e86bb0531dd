use Rattle.std.proofs.Common.{map}
use Rattle.ordered_json.specs.Words.{member_parts}
use Rattle.machine_json.specs.FirstPass.{HasFaultAs, HasMemberFault, TellsFirst}
use Rattle.machine_json.proofs.FirstLemmas.{Among}
use Rattle.machine_json.proofs.first_pass.+first_pass.Given as goal

abbrev pub invariant-first_in_items-loop-item : goal.invariant-first_in_items-loop-item
invariant-first_in_items-loop-item l = TellsFirst l.first (Among (HasFaultAs l.role) l.items l.item-index)

abbrev pub invariant-first_in_members-loop-member : goal.invariant-first_in_members-loop-member
invariant-first_in_members-loop-member l =
    TellsFirst l.first (Among (HasMemberFault l.role l.kind) (map member_parts l.members) l.member-index)
