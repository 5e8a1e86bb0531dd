use Rattle.std.proofs.Common.{◌≡◌, [], drop}
use Rattle.action_table.specs.TablePlaces.{least_of}
use Rattle.action_table.specs.Twice.{ids_after, twice_after}
use Rattle.action_table.proofs.machine_ids.ids_of.Given as goal

abbrev pub invariant-loop-machine : goal.invariant-loop-machine
invariant-loop-machine l =
    (ids_after l.ids (drop l.machine-index l.machines) ≡ ids_after [] l.machines)
    × (least_of l.twice (twice_after l.ids (drop l.machine-index l.machines)) ≡ twice_after [] l.machines)
