use Rattle.std.proofs.Common.{take}
use Rattle.std.specs.List.{All}
use Rattle.office_types.specs.declared.office.ActorRecord.{ActorRecord}
use Rattle.office_types.specs.ValidOffice.{IsLetter}
use Rattle.snapshot_text.proofs.validity.letters.are_all_letters.Given as goal

abbrev pub invariant-loop-actor : goal.invariant-loop-actor
invariant-loop-actor l = All (λ (actor : ActorRecord). All (IsLetter l.state) actor.mailbox) (take l.actor-index l.state.actors)
