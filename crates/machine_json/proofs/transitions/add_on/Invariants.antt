use Rattle.std.proofs.Common.{map, take}
use Rattle.std.specs.List.{flat_map}
use Rattle.ordered_json.specs.Words.{MemberParts, member_parts}
use Rattle.machine_json.specs.declared.role.Role.TheVariants as role
use Rattle.machine_json.specs.Faultless.{AreFaultlessUnder}
use Rattle.machine_json.specs.Machines.{AddsTransitions, under}
use Rattle.machine_json.proofs.transitions.add_on.Given as goal

abbrev pub invariant-loop-member : goal.invariant-loop-member
invariant-loop-member l =
    AreFaultlessUnder l.outline l.source role.Transitions (map member_parts l.on)
    → AddsTransitions l.outline l.source (flat_map (λ (m : MemberParts). under m.key m.value) (take l.member-index (map member_parts l.on))) l.fn.all.items l.all.items
