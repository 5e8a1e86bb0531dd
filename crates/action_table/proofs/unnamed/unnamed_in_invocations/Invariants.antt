use Rattle.std.proofs.Common.{◌≡◌, take}
use Rattle.std.specs.List.{flat_map}
use Rattle.action_table.specs.Unnamed.{least_unnamed}
use Rattle.action_table.specs.Uses.{uses_of_invocation}
use Rattle.action_table.proofs.unnamed.unnamed_in_invocations.Given as goal

abbrev pub invariant-loop-invocation : goal.invariant-loop-invocation
invariant-loop-invocation l = l.least ≡ least_unnamed l.ids l.table (flat_map uses_of_invocation (take l.invocation-index l.invocations))
