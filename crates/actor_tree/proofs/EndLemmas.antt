-- What the end of an actor leaves of it.
use Rattle.std.proofs.Common.{◌≡◌, ℕ, Bool, true, false, cond, refl, ap, ◌∙◌}
use Rattle.office_types.specs.declared.office.ActorRecord.{ActorRecord}
use Rattle.office_types.specs.declared.office.Status.TheVariants as status
use Rattle.office_types.specs.Ends.{ended_record}
use Rattle.office_types.specs.Records.{is_active, is_active_status}
use Rattle.actor_tree.specs.declared.actor.Actor.{Actor}
use Rattle.actor_tree.specs.declared.ending.Ending.{Ending}
use Rattle.actor_tree.specs.declared.ending.Ending.TheVariants as ending
use Rattle.actor_tree.specs.Actors.{record_of}
use Rattle.actor_tree.specs.Removal.{ended_by}

stopped_number : (actor : ActorRecord) (b : Bool) → (cond b (ended_record status.Stopped actor) actor).number ≡ actor.number
stopped_number actor true = refl
stopped_number actor false = refl

stopped_item : (actor : ActorRecord) (b : Bool) → (cond b (ended_record status.Stopped actor) actor).item ≡ actor.item
stopped_item actor true = refl
stopped_item actor false = refl

stopped_ended : (actor : ActorRecord) (b : Bool) → is_active actor ≡ b → is_active (cond b (ended_record status.Stopped actor) actor) ≡ false
stopped_ended actor true is = refl
stopped_ended actor false is = is

pub end_number : (e : Ending) (actor : ActorRecord) → (ended_by e actor).number ≡ actor.number
end_number (ending.Done output) actor = refl
end_number (ending.Error error) actor = refl
end_number ending.Stopped actor = stopped_number actor (is_active actor)

pub end_item : (e : Ending) (actor : ActorRecord) → (ended_by e actor).item ≡ actor.item
end_item (ending.Done output) actor = refl
end_item (ending.Error error) actor = refl
end_item ending.Stopped actor = stopped_item actor (is_active actor)

pub end_inactive : (e : Ending) (actor : ActorRecord) → is_active (ended_by e actor) ≡ false
end_inactive (ending.Done output) actor = refl
end_inactive (ending.Error error) actor = refl
end_inactive ending.Stopped actor = stopped_ended actor (is_active actor) refl

pub never_active : (e : Ending) (old new : Actor) → record_of 0 new ≡ ended_by e (record_of 0 old) → ◌≡◌ {A = ℕ} (cond (is_active_status new.status) 1 0) 0
never_active e old new is = ap {B = ℕ} (λ (b : Bool). cond b 1 0) (ap is_active is ∙ end_inactive e (record_of 0 old))
