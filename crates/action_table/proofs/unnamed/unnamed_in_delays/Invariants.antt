use Rattle.std.proofs.Common.{◌≡◌, take}
use Rattle.std.specs.List.{flat_map}
use Rattle.action_table.specs.Unnamed.{least_unnamed}
use Rattle.action_table.specs.Uses.{uses_of_delay}
use Rattle.action_table.proofs.unnamed.unnamed_in_delays.Given as goal

abbrev pub invariant-loop-delay : goal.invariant-loop-delay
invariant-loop-delay l = l.least ≡ least_unnamed l.ids l.table (flat_map uses_of_delay (take l.delay-index l.delays))
