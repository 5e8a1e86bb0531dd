use Rattle.std.proofs.Common.{◌≡◌, ◌+◌, length, sum_by, take}
use Rattle.office_types.specs.declared.limits.TheConstants.{MAX_LETTERS}
use Rattle.office_types.specs.declared.office.ActorRecord.{ActorRecord}
use Rattle.snapshot_text.proofs.validity.limits.has_few_letters.Given as goal

abbrev pub invariant-loop-actor : goal.invariant-loop-actor
invariant-loop-actor l = sum_by (λ (actor : ActorRecord). length actor.mailbox) (take l.actor-index l.actors) + l.left ≡ MAX_LETTERS
