-- The notes of a step, and what holds of them at each moment.
use Rattle.std.specs.Prelude.{◌≡◌, ℕ, ◌+◌, ◌<◌, ◌≤◌, ◌^◌, Bool, true, false, List, [], ◌∷◌, ◌++◌, length, sum_by, Option, Some, is_some, unwrap_or, nat_eq, IsTrue, if◌then◌else◌}
use Rattle.std.specs.BTreeMap.{get, get_by_text}
use Rattle.std.specs.BTreeSet.{contains}
use Rattle.std.specs.Option.{option_map_or}
use Rattle.std.specs.Ordering.{nat_cmp}
use Rattle.std.specs.Str.{bytes_eq}
use Rattle.office_types.specs.declared.limits.TheConstants.{MAX_LETTERS}
use Rattle.office_types.specs.declared.office.ActorRecord.{ActorRecord}
use Rattle.office_types.specs.declared.office.OfficeState.{OfficeState}
use Rattle.office_types.specs.Definitions.{OfficeDefinitions}
use Rattle.office_types.specs.Ends.{child_id}
use Rattle.office_types.specs.Mailboxes.{waiting_letters}
use Rattle.office_types.specs.Records.{active_actors, is_ready, parent_actor}
use Rattle.office_types.specs.ValidOffice.{IsValidOffice}
use Rattle.actor_tree.specs.declared.counts.Counts.{Counts}
use Rattle.actor_tree.specs.declared.notes.Notes.{Notes}
use Rattle.actor_tree.specs.declared.part.Newcomer.{Newcomer}
use Rattle.actor_tree.specs.declared.part.Part.{Part}
use Rattle.actor_tree.specs.Books.{and_holder}
use Rattle.actor_tree.specs.Noted.{AreGone, AreKidsNoted, AreNamesNoted, AreRecordsNoted, AreTimersNoted, Noted, next_of}
use Rattle.actor_tree.specs.Parts.{CanPutAll, put}

-- the notes as plain look-ups
abbrev pub noted : Notes → Noted
noted notes = record {
  gone = contains nat_cmp notes.gone;
  machines = notes.machines;
  kids = get_by_text notes.kids;
  timer_ids = get_by_text notes.timer_ids;
  names = notes.names.names;
  sent = λ number. unwrap_or (get nat_cmp notes.sent number) 0;
}

-- what is counted
pub record AreCounted (counts : Counts) (timers : ℕ) (office : OfficeState) : Type 0 where
  pub moment : counts.moment ≡ office.moment
  pub next_actor : counts.next_actor ≡ office.next_actor
  pub next_letter : counts.next_letter ≡ office.next_letter
  pub next_timer : counts.next_timer ≡ office.next_timer
  pub active : counts.active ≡ active_actors office
  pub waiting : counts.waiting ≡ waiting_letters office
  pub standing : timers ≡ length office.timers
  pub fits : counts.waiting ≤ MAX_LETTERS

-- what the notes say of the records, and how many letters wait in all
pub record AreLettersNoted (before : OfficeState) (actor : ℕ) (notes : Notes) (actors : List ActorRecord) : Type 0 where
  pub records : AreRecordsNoted before actor (noted notes) actors
  pub waiting : notes.counts.waiting ≡ sum_by (λ (record' : ActorRecord). length record'.mailbox) actors
  pub fits : notes.counts.waiting ≤ MAX_LETTERS

-- what the notes say of an office, also while some that stand together are removed one by one
pub record AreNoted (before : OfficeState) (actor : ℕ) (notes : Notes) (office : OfficeState) : Type 0 where
  pub records : AreRecordsNoted before actor (noted notes) office.actors
  pub kids : AreKidsNoted before actor (noted notes) office.actors
  pub timers : AreTimersNoted before actor (noted notes) office.timers
  pub names : AreNamesNoted before (noted notes) office.names
  pub counts : AreCounted notes.counts notes.timers office
  pub next : office.next_actor ≡ next_of before (noted notes)
  pub moment : office.moment ≡ before.moment
  pub few : (number : ℕ) → (noted notes).sent number ≤ notes.counts.next_letter

-- a ready actor of a valid office
pub record CanStep (before : OfficeState) (actor : ℕ) : Type 0 where
  pub valid : (definitions : OfficeDefinitions) × IsValidOffice definitions before
  pub ready : IsTrue (is_ready before actor)

-- the parts of a step so far fit, and the notes are of the office after them
pub record IsAhead (before : OfficeState) (actor : ℕ) (parts : List Part) (notes : Notes) : Type 0 where
  pub begins : CanStep before actor
  pub fits : CanPutAll before parts
  pub told : AreNoted before actor notes (put before parts)
  pub gone : AreGone before actor (noted notes)

-- the notes after a letter to an actor
pub record IsMailNoted (receiver : ℕ) (old : Notes) (new : Notes) : Type 0 where
  pub sent : (number : ℕ) → (noted new).sent number ≡ (noted old).sent number + (if nat_eq number receiver then 1 else 0)
  pub same : new ≡ record old { sent = new.sent; counts = record old.counts { waiting = old.counts.waiting + 1; next_letter = old.counts.next_letter + 1 } }

-- the notes after a timer with this id, beside so many
pub record IsTimerNoted (id : Option (List ℕ)) (beside : ℕ) (old : Notes) (new : Notes) : Type 0 where
  pub ids : (other : List ℕ) → (noted new).timer_ids other
      ≡ option_map_or (λ (one : List ℕ). if bytes_eq one other then Some true else (noted old).timer_ids other) id ((noted old).timer_ids other)
  pub same : new ≡ record old { timer_ids = new.timer_ids; timers = beside + 1; counts = record old.counts { next_timer = old.counts.next_timer + 1 } }

-- the notes after the timer of an id was dropped, if it stood
pub record IsCancelNoted (id : List ℕ) (stands : Bool) (old : Notes) (new : Notes) : Type 0 where
  pub ids : (other : List ℕ) → (noted new).timer_ids other ≡ (if bytes_eq id other then Some false else (noted old).timer_ids other)
  pub same : new ≡ record old { timer_ids = new.timer_ids; timers = new.timers }
  pub timers : new.timers + (if stands then 1 else 0) ≡ old.timers

-- what is counted can grow by one actor with so many letters
pub record HasRoomToNote (letters : ℕ) (counts : Counts) : Type 0 where
  pub actor : counts.next_actor + 1 < 2 ^ 64
  pub letter : counts.next_letter + letters < 2 ^ 64
  pub active : counts.active + 1 < 2 ^ 64
  pub waiting : counts.waiting + letters < 2 ^ 64

-- the notes after an actor was made
pub record IsMakeNoted (newcomer : Newcomer) (old : Notes) (new : Notes) : Type 0 where
  pub machines : new.machines ≡ old.machines ++ is_some newcomer.actor.own ∷ []
  pub sent : (number : ℕ) → (noted new).sent number ≡ (if nat_eq number old.counts.next_actor then length newcomer.actor.mailbox.items else (noted old).sent number)
  pub names : new.names.names ≡ and_holder old.names.names newcomer.name old.counts.next_actor
  pub same : new ≡ record old {
    machines = new.machines;
    sent = new.sent;
    names = new.names;
    counts = record old.counts {
      next_actor = old.counts.next_actor + 1;
      next_letter = old.counts.next_letter + length newcomer.actor.mailbox.items;
      active = old.counts.active + 1;
      waiting = old.counts.waiting + length newcomer.actor.mailbox.items;
    };
  }

-- the notes after the child of an id was made or stopped
pub record IsKidNoted (id : List ℕ) (kid : Option ℕ) (old : Notes) (new : Notes) : Type 0 where
  pub kids : (other : List ℕ) → (noted new).kids other ≡ (if bytes_eq id other then Some kid else (noted old).kids other)
  pub same : new ≡ record old { kids = new.kids }

-- ---- after an end

-- the parts of a step fit, and the last of them ended its actor, which its parent and its id there outlive
pub record IsEnded (before : OfficeState) (actor : ℕ) (parts : List Part) (counts : Counts) : Type 0 where
  pub fits : CanPutAll before parts
  pub waiting : counts.waiting ≡ waiting_letters (put before parts)
  pub next_letter : counts.next_letter ≡ (put before parts).next_letter
  pub parent : parent_actor (put before parts) actor ≡ parent_actor before actor
  pub id : (parent : ℕ) → parent_actor before actor ≡ Some parent → child_id (put before parts) parent actor ≡ child_id before parent actor
