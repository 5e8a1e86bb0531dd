use Rattle.std.proofs.Common.{take}
use Rattle.std.specs.List.{AllZip}
use Rattle.action_table.specs.DefNames.{defs_held}
use Rattle.action_table.specs.Linking.{IsLinkedMachine}
use Rattle.action_table.proofs.linked_nodes.linked_machines.Given as goal

abbrev pub invariant-loop-machine : goal.invariant-loop-machine
invariant-loop-machine l = AllZip (IsLinkedMachine l.table) (take l.machine-index l.machines) (defs_held l.defs.items)
