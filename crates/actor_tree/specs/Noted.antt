-- What a step notes of an office as it goes on, and what its notes say of the office by now.
use Rattle.std.specs.Prelude.{◌≡◌, ◌≢◌, ℕ, suc, zero, ◌+◌, ◌<◌, Bool, true, false, not, ◌||◌, List, [], ◌∷◌, ◌++◌, length, map, filter, find, Option, Some, is_some, unwrap_or, nat_eq, if◌then◌else◌}
use Rattle.std.specs.List.{AllByRecursion, list_any}
use Rattle.std.specs.Map.{lookup}
use Rattle.std.specs.Option.{option_and_then, option_map, option_map_or}
use Rattle.std.specs.Str.{bytes_eq}
use Rattle.office_types.specs.declared.office.ActorRecord.{ActorRecord}
use Rattle.office_types.specs.declared.office.OfficeState.{OfficeState}
use Rattle.office_types.specs.declared.office.Timer.{Timer}
use Rattle.office_types.specs.declared.outcome.Own.{Own}
use Rattle.office_types.specs.Records.{is_active}
use Rattle.office_types.specs.SystemNames.{without_holder}
use Rattle.office_types.specs.Timers.{has_id, without_owner}
use Rattle.actor_tree.specs.HeldOffice.{actor_among, timers_owned_by}

-- ---- what stays of a record

-- what no part changes of an actor's record before it is removed or ends
pub record Face : Type 0 where
  pub number : ℕ
  pub parent : Option ℕ
  pub active : Bool
  pub machine : Bool

abbrev pub face_of : ActorRecord → Face
face_of actor = record { number = actor.number; parent = actor.parent; active = is_active actor; machine = is_some actor.own }

abbrev pub faces_of : List ActorRecord → List Face
faces_of actors = map face_of actors

-- the actors that a parent made in its step, with the numbers from this one on
abbrev pub made_faces : ℕ → ℕ → List Bool → List Face
made_faces parent number [] = []
made_faces parent number (machine ∷ machines) =
    record { number = number; parent = Some parent; active = true; machine = machine } ∷ made_faces parent (number + 1) machines

-- the face of an actor among others
abbrev pub face_among : ℕ → List Face → Option Face
face_among number faces = find (λ (face : Face). nat_eq face.number number) faces

-- each number is above those before it
abbrev pub FacesRise : List Face → Type 0
FacesRise [] = Unit {0}
FacesRise (face ∷ faces) = AllByRecursion (λ (other : Face). face.number < other.number) faces × FacesRise faces

-- ---- the notes

-- what is noted: who is gone, who was made, what changed of the step's actor's children and timers, the names of those that
-- were made, and how many letters were sent to whom
pub record Noted : Type 0 where
  pub gone : ℕ → Bool
  pub machines : List Bool
  pub kids : List ℕ → Option (Option ℕ)
  pub timer_ids : List ℕ → Option Bool
  pub names : List (List ℕ × ℕ)
  pub sent : ℕ → ℕ

-- ---- what they say

-- how many letters wait for an actor among others
abbrev pub letters_at : List ActorRecord → ℕ → ℕ
letters_at actors number = option_map_or (λ (actor : ActorRecord). length actor.mailbox) (actor_among number actors) 0

-- the step's actor has taken one letter
abbrev pub taken_by : ℕ → ℕ → ℕ
taken_by actor number = if nat_eq number actor then 1 else 0

-- the actors of the office before the step and those that it made, whether they are gone or not
abbrev pub all_faces : OfficeState → ℕ → Noted → List Face
all_faces before actor notes = faces_of before.actors ++ made_faces actor before.next_actor notes.machines

-- the number that the next actor gets
abbrev pub next_of : OfficeState → Noted → ℕ
next_of before notes = before.next_actor + length notes.machines

-- what the notes say of the records
pub record AreRecordsNoted (before : OfficeState) (actor : ℕ) (notes : Noted) (actors : List ActorRecord) : Type 0 where
  pub rise : FacesRise (faces_of before.actors)
  pub given : AllByRecursion (λ (face : Face). face.number < before.next_actor) (faces_of before.actors)
  pub begun : 0 < letters_at before.actors actor
  pub faces : faces_of actors ≡ filter (λ (face : Face). not (notes.gone face.number)) (all_faces before actor notes)
  pub quiet : AllByRecursion (λ (record' : ActorRecord). is_active record' ≡ false → record'.mailbox ≡ []) actors
  pub letters : (number : ℕ) → notes.gone number ≡ false
      → letters_at actors number + taken_by actor number ≡ letters_at before.actors number + notes.sent number

-- what a parent knows of its children, and what it does with them
pub record Kin : Type 0 where
  pub own : Option Own
  pub kids : List (List ℕ × ℕ)

abbrev pub kin_of : ActorRecord → Kin
kin_of actor = record { own = actor.own; kids = actor.kids }

-- the child of an actor among others with this id
abbrev pub kid_among : List ActorRecord → ℕ → List ℕ → Option ℕ
kid_among actors number id = option_and_then (λ (actor : ActorRecord). lookup (bytes_eq id) actor.kids) (actor_among number actors)

-- what the notes say of the step's actor's children, and of those above it
pub record AreKidsNoted (before : OfficeState) (actor : ℕ) (notes : Noted) (actors : List ActorRecord) : Type 0 where
  pub above : (number : ℕ) → number < actor → option_map kin_of (actor_among number actors) ≡ option_map kin_of (actor_among number before.actors)
  pub kids : (id : List ℕ) → kid_among actors actor id ≡ unwrap_or (notes.kids id) (kid_among before.actors actor id)
  pub after : (id : List ℕ) (number : ℕ) → notes.kids id ≡ Some (Some number) → (actor < number) × (number < next_of before notes)

-- the step's actor has a timer of this id
abbrev pub has_timer : OfficeState → ℕ → Noted → List ℕ → Bool
has_timer before actor notes id = unwrap_or (notes.timer_ids id) (list_any (has_id actor id) before.timers)

-- what the notes say of the timers
pub record AreTimersNoted (before : OfficeState) (actor : ℕ) (notes : Noted) (timers : List Timer) : Type 0 where
  pub own : (id : List ℕ) → length (filter (has_id actor id) timers) ≡ (if has_timer before actor notes id then 1 else 0)
  pub others : (number : ℕ) → number ≢ actor
      → timers_owned_by number timers ≡ (if notes.gone number then 0 else timers_owned_by number before.timers)

-- what the notes say of the names
pub record AreNamesNoted (before : OfficeState) (notes : Noted) (names : List (List ℕ × ℕ)) : Type 0 where
  pub same : names ≡ filter (λ (holder : List ℕ × ℕ). not (notes.gone holder.1)) before.names ++ notes.names
  pub newer : AllByRecursion (λ (holder : List ℕ × ℕ). holder.1 < next_of before notes) notes.names

-- with an actor all below it are gone; they are newer than the step's actor
pub record AreGone (before : OfficeState) (actor : ℕ) (notes : Noted) : Type 0 where
  pub after : (number : ℕ) → notes.gone number ≡ true → (actor < number) × (number < next_of before notes)
  pub below : AllByRecursion (λ (face : Face). (parent : ℕ) → face.parent ≡ Some parent → notes.gone parent ≡ true → notes.gone face.number ≡ true)
      (all_faces before actor notes)

-- ---- one actor less

-- the records without that of a number
abbrev pub without_record : ℕ → List ActorRecord → List ActorRecord
without_record number actors = filter (λ (actor : ActorRecord). not (nat_eq actor.number number)) actors

-- the office without an actor, its timers and its name
abbrev pub without_actor : OfficeState → ℕ → OfficeState
without_actor office number = record office {
  actors = without_record number office.actors;
  timers = without_owner number office.timers;
  names = without_holder office.names number;
}

-- who is gone, and one more
abbrev pub is_gone_too : (ℕ → Bool) → ℕ → ℕ → Bool
is_gone_too gone number other = nat_eq other number || gone other

-- ---- numbers of those that were made

-- so many numbers from the first one on
unfoldable pub numbers_from : ℕ → ℕ → List ℕ
numbers_from first zero = []
numbers_from first (suc count) = numbers_from first count ++ (first + count) ∷ []

-- those of the numbers that aren't gone, and one in any case
abbrev pub staying : (ℕ → Bool) → ℕ → List ℕ → List ℕ
staying gone root numbers = filter (λ (number : ℕ). nat_eq number root || not (gone number)) numbers
