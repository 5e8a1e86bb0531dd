use Rattle.std.proofs.Common.{map, take}
use Rattle.ordered_json.specs.declared.json.OrderedJson.{OrderedJson}
use Rattle.machine_json.specs.declared.role.Role.TheVariants as role
use Rattle.machine_json.specs.Faultless.{IsFaultlessAs}
use Rattle.machine_json.specs.Machines.{AddsTransitions}
use Rattle.machine_json.proofs.transitions.add_under.Given as goal

abbrev pub invariant-loop-item : goal.invariant-loop-item
invariant-loop-item l =
    IsFaultlessAs l.outline l.source role.Transitions l.fn.json
    → AddsTransitions l.outline l.source (map (λ (t : OrderedJson). (l.descriptor, t)) (take l.item-index l.items)) l.fn.all.items l.all.items
