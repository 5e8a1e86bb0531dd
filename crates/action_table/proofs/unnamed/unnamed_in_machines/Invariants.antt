use Rattle.std.proofs.Common.{◌≡◌, take}
use Rattle.std.specs.List.{flat_map}
use Rattle.action_table.specs.Unnamed.{least_unnamed}
use Rattle.action_table.specs.Uses.{uses_of_machine}
use Rattle.action_table.proofs.unnamed.unnamed_in_machines.Given as goal

abbrev pub invariant-loop-machine : goal.invariant-loop-machine
invariant-loop-machine l = l.least ≡ least_unnamed l.ids l.table (flat_map uses_of_machine (take l.machine-index l.machines))
