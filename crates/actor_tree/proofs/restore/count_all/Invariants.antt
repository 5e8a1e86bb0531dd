use Rattle.std.proofs.Common.{◌≡◌, filter, length, take}
use Rattle.std.specs.Prelude.{sum_by}
use Rattle.office_types.specs.declared.office.ActorRecord.{ActorRecord}
use Rattle.office_types.specs.Records.{is_active}
use Rattle.actor_tree.proofs.restore.count_all.Given as goal

abbrev pub invariant-loop-actor : goal.invariant-loop-actor
invariant-loop-actor l = record {
  active : l.active ≡ length (filter is_active (take l.actor-index l.actors));
  letters : l.letters ≡ sum_by (λ (actor : ActorRecord). length actor.mailbox) (take l.actor-index l.actors);
}
