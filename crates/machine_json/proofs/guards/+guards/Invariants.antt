use Rattle.std.proofs.Common.{map, take}
use Rattle.ordered_json.specs.Words.{member_parts}
use Rattle.machine_json.specs.declared.role.Role.TheVariants as role
use Rattle.machine_json.specs.Faultless.{IsFaultlessAs}
use Rattle.machine_json.specs.Machines.{MeansGuards}
use Rattle.machine_json.proofs.GuardLemmas.{HasNoForm}
use Rattle.machine_json.proofs.guards.+guards.Given as goal

abbrev pub invariant-guard_of-loop-member : goal.invariant-guard_of-loop-member
invariant-guard_of-loop-member l = HasNoForm (take l.member-index (map member_parts l.member-items))

abbrev pub invariant-guards_of-loop-item : goal.invariant-guards_of-loop-item
invariant-guards_of-loop-item l =
    IsFaultlessAs l.outline l.source role.Guards l.json → MeansGuards l.outline l.source (take l.item-index l.item-items) l.parts.items
