use Rattle.std.proofs.Common.{All, take}
use Rattle.std.specs.List.{AllZip}
use Rattle.machine_json.specs.Machines.{MeansMachine}
use Rattle.machine_json.specs.ReadMachine.{IsReadMachine}
use Rattle.action_table.proofs.reading.read_machines.Given as goal

abbrev pub invariant-loop-text : goal.invariant-loop-text
invariant-loop-text l = AllZip MeansMachine (take l.text-index l.texts) l.machines.items × All IsReadMachine l.machines.items
