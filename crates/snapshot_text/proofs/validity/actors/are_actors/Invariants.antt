use Rattle.std.proofs.Common.{take}
use Rattle.std.specs.List.{All}
use Rattle.office_types.specs.ValidOffice.{IsActor}
use Rattle.action_table.specs.Definitions.{office_definitions}
use Rattle.snapshot_text.proofs.validity.actors.are_actors.Given as goal

abbrev pub invariant-loop-actor : goal.invariant-loop-actor
invariant-loop-actor l = All (IsActor (office_definitions l.defs) l.state) (take l.actor-index l.state.actors)
