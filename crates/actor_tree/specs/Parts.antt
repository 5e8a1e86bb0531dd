-- What the parts of a change make of an office: one equation each, in the words of the office's rules.
use Rattle.std.specs.Option.{option_map_or}
use Rattle.std.specs.Prelude.{◌≡◌, ℕ, ◌+◌, true, false, List, [], ◌∷◌, Option, Some, IfSome, fold, length}
use Rattle.office_types.specs.declared.office.OfficeState.{OfficeState}
use Rattle.office_types.specs.declared.office.Timer.{Timer}
use Rattle.office_types.specs.declared.office.Status.TheVariants as status
use Rattle.office_types.specs.Effects.{after_cancel, after_stop, child_named, has_actor_room, has_timer_room, is_name_held, with_kid, with_record, with_timer}
use Rattle.office_types.specs.Ends.{after_end, done_record, error_record, subtree_of}
use Rattle.office_types.specs.Mailboxes.{has_letter_room, with_letter, without_head}
use Rattle.office_types.specs.Records.{with_actor}
use Rattle.office_types.specs.Step.{with_own}
use Rattle.office_types.specs.Timers.{not_due}
use Rattle.actor_tree.specs.declared.part.Newcomer.{Newcomer}
use Rattle.actor_tree.specs.declared.part.Part.{Part}
use Rattle.actor_tree.specs.declared.part.Part.TheVariants as part
use Rattle.actor_tree.specs.Actors.{record_of}

-- the name and the item once more are those of the actor
pub record IsComplete (newcomer : Newcomer) : Type 0 where
  pub name : newcomer.name ≡ newcomer.actor.system
  pub item : newcomer.item ≡ newcomer.actor.item

-- a new actor below a parent, under a system name if there is one, that begins with so many letters
pub record IsBorn (parent : ℕ) (system : Option (List ℕ)) (letters : ℕ) (newcomer : Newcomer) : Type 0 where
  pub complete : IsComplete newcomer
  pub parent_is : newcomer.actor.parent ≡ Some parent
  pub system_is : newcomer.actor.system ≡ system
  pub active : newcomer.actor.status ≡ status.Active
  pub childless : newcomer.actor.kids.items ≡ []
  pub letters_are : length newcomer.actor.mailbox.items ≡ letters

-- an actor is made: its record stands last, with the next number, and the letters in its mailbox have the next ones
abbrev pub with_newcomer : OfficeState → Newcomer → OfficeState
with_newcomer state newcomer =
    let made = record_of state.next_actor newcomer.actor in
    record (with_record state made) { next_letter = state.next_letter + length made.mailbox }

-- the moment is set, and the timers that are due by then are taken out
abbrev pub after_moment : ℕ → OfficeState → OfficeState
after_moment moment state = record state { moment = moment; timers = not_due moment state.timers }

-- the office after a part
abbrev pub put_part : OfficeState → Part → OfficeState
put_part state (part.TakeHead actor) = without_head state actor
put_part state (part.Own actor own) = with_own actor own state
put_part state (part.Mail origin receiver event) = with_letter state origin receiver event
put_part state (part.Schedule timer) = with_timer state timer
put_part state (part.Cancel owner id) = after_cancel owner id state
put_part state (part.Make newcomer) = with_newcomer state newcomer
put_part state (part.Join parent id child) = with_actor state parent (with_kid id child)
put_part state (part.Stop parent id subtree) = after_stop parent id state
put_part state (part.Done actor output subtree) = after_end (done_record output) actor state
put_part state (part.Fail actor error subtree) = after_end (error_record error) actor state
put_part state (part.Advance moment) = after_moment moment state

-- a new actor is complete and active, and the office has a number, a name and letters for it
pub record CanBeMade (state : OfficeState) (newcomer : Newcomer) : Type 0 where
  pub complete : IsComplete newcomer
  pub active : newcomer.actor.status ≡ status.Active
  pub item_number : IfSome newcomer.item (λ item. item.actor ≡ state.next_actor)
  pub name_free : is_name_held state newcomer.actor.system ≡ false
  pub actor_room : has_actor_room state ≡ true
  pub letter_room : has_letter_room state (length newcomer.actor.mailbox.items) ≡ true

-- a new timer has the next number, and finds room
pub record CanBeScheduled (state : OfficeState) (timer : Timer) : Type 0 where
  pub number : timer.order ≡ state.next_timer
  pub room : has_timer_room state timer ≡ true

-- a part fits an office: there is room for what it makes, and the numbers that it brings are those of the subtree
abbrev pub CanPut : OfficeState → Part → Type 0
CanPut state (part.Mail origin receiver event) = has_letter_room state 1 ≡ true
CanPut state (part.Schedule timer) = CanBeScheduled state timer
CanPut state (part.Make newcomer) = CanBeMade state newcomer
CanPut state (part.Stop parent id subtree) = subtree ≡ option_map_or (subtree_of state) (child_named state parent id) []
CanPut state (part.Done actor output subtree) = subtree ≡ subtree_of state actor
CanPut state (part.Fail actor error subtree) = subtree ≡ subtree_of state actor
CanPut state _ = Unit {0}

-- parts fit one after the other, each the office that the ones before it leave
abbrev pub CanPutAll : OfficeState → List Part → Type 0
CanPutAll state [] = Unit {0}
CanPutAll state (first ∷ others) = CanPut state first × CanPutAll (put_part state first) others

-- the office after parts, one after the other
abbrev pub put : OfficeState → List Part → OfficeState
put state parts = fold put_part state parts
