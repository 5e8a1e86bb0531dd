use Rattle.std.proofs.Common.{take}
use Rattle.std.specs.List.{enumerate_from, flat_map}
use Rattle.machine_json.specs.declared.role.Role.TheVariants as role
use Rattle.machine_json.specs.Faultless.{AreFaultlessAs}
use Rattle.machine_json.specs.Machines.{AddsTransitions, of_invocation}
use Rattle.machine_json.proofs.transitions.add_invoked.Given as goal

abbrev pub invariant-loop-place : goal.invariant-loop-place
invariant-loop-place l =
    AreFaultlessAs l.outline l.source role.Invocation l.invocations
    → AddsTransitions l.outline l.source (flat_map (of_invocation l.id) (enumerate_from 0 (take l.place l.invocations))) l.fn.all.items l.all.items
