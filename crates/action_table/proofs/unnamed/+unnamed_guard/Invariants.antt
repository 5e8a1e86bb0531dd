use Rattle.std.proofs.Common.{◌≡◌, take}
use Rattle.std.specs.List.{flat_map}
use Rattle.action_table.specs.Unnamed.{least_unnamed}
use Rattle.action_table.specs.Uses.{uses_of_guard}
use Rattle.action_table.proofs.unnamed.+unnamed_guard.Given as goal

abbrev pub invariant-unnamed_in_guards-loop-guard : goal.invariant-unnamed_in_guards-loop-guard
invariant-unnamed_in_guards-loop-guard l = l.least ≡ least_unnamed l.ids l.table (flat_map uses_of_guard (take l.guard-index l.guards))
