-- A child that a step makes.
use Rattle.std.proofs.Common.{◌≡◌, ◌≢◌, ℕ, ◌+◌, Bool, true, false, cond, List, [], ◌∷◌, length, add-zero, refl, sym, ap, ◌∙◌}
use Rattle.std.specs.Prelude.{None, Ok, Option, Some, nat_eq, slice_get, if◌then◌else◌}
use Rattle.std.specs.List.{AllByRecursion}
use Rattle.std.specs.Option.{option_map}
use Rattle.std.proofs.lemmas.Bool.{eqb-false}
use Rattle.std.proofs.lemmas.Option.{slice_get-map}
use Rattle.xs_model.specs.declared.value.Value.{Value}
use Rattle.office_types.specs.declared.office.ActorRecord.{ActorRecord}
use Rattle.office_types.specs.declared.office.Item.{Item}
use Rattle.office_types.specs.declared.office.Letter.{Letter}
use Rattle.office_types.specs.declared.office.OfficeState.{OfficeState}
use Rattle.office_types.specs.declared.outcome.Own.{Own}
use Rattle.office_types.specs.Definitions.{ActorLogic}
use Rattle.office_types.specs.Effects.{first_letters, fresh_record, with_child, with_item, with_kid, with_logic, with_record}
use Rattle.office_types.specs.Mailboxes.{with_mail}
use Rattle.office_types.specs.Records.{actor_record, with_actor}
use Rattle.action_table.specs.declared.definitions.Actor.{Actor}
use Rattle.action_table.specs.declared.definitions.Defs.{Defs}
use Rattle.action_table.specs.Definitions.{actor_logic, office_definitions}
use Rattle.actor_tree.specs.declared.part.Newcomer.{Newcomer}
use Rattle.actor_tree.specs.declared.part.Part.TheVariants as part
use Rattle.actor_tree.specs.Actors.{record_of}
use Rattle.actor_tree.specs.Changes.{AheadOffice, HasChildRoom, with_part}
use Rattle.actor_tree.specs.Parts.{IsBorn, IsComplete, with_newcomer}
use Rattle.actor_tree.proofs.GrantLemmas.{NextIsFree}
use Rattle.actor_tree.proofs.LookUpLemmas.{record_at}

none_found : (n : ℕ) (actors : List ActorRecord) → record_at n actors ≡ None → AllByRecursion (λ (a : ActorRecord). a.number ≢ n) actors
none_found n [] none = tt
none_found n (a ∷ actors) none = by_test (none_found n actors) (nat_eq a.number n) refl none where
  by_test : (record_at n actors ≡ None → AllByRecursion (λ (z : ActorRecord). z.number ≢ n) actors) → (b : Bool) → nat_eq a.number n ≡ b → cond b (Some a) (record_at n actors) ≡ None
      → (a.number ≢ n) × AllByRecursion (λ (z : ActorRecord). z.number ≢ n) actors
  by_test rest true is found = absurd (cc)
  by_test rest false is found = (eqb-false a.number n is, rest found)

-- where no record is found under the next number, none has it
pub next_free : (state : OfficeState) → actor_record state state.next_actor ≡ None → NextIsFree state
next_free state none = none_found state.next_actor state.actors none

-- a work item that is made
pub made_item : (state : OfficeState) (made : Newcomer) (parent : Option ℕ) (src : List ℕ) (input : Value) (system : Option (List ℕ))
    → record_of state.next_actor made.actor ≡ fresh_record state.next_actor parent system None (Some (record { actor = state.next_actor; src = src; input = input }))
    → with_newcomer state made ≡ with_item state parent src input system
made_item state made parent src input system is =
    let item : Item = record { actor = state.next_actor; src = src; input = input } in
    let fresh : ActorRecord = fresh_record state.next_actor parent system None (Some item) in
    ap (λ (a : ActorRecord). record (with_record state a) { next_letter = state.next_letter + length a.mailbox }) is
    ∙ ap (λ (n : ℕ). record (with_record state fresh) { next_letter = n }) (add-zero state.next_letter)

-- what is born is as its record says
pub born_machine : (made : Newcomer) (first : Letter) (parent : ℕ) (system : Option (List ℕ)) (own : Option Own)
    → ((n : ℕ) → record_of n made.actor ≡ with_mail first (fresh_record n (Some parent) system own None)) → IsComplete made → IsBorn parent system 1 made
born_machine made first parent system own is whole = record {
  complete = whole;
  parent_is = ap (λ (a : ActorRecord). a.parent) (is 0);
  system_is = ap (λ (a : ActorRecord). a.system) (is 0);
  active = ap (λ (a : ActorRecord). a.status) (is 0);
  childless = ap (λ (a : ActorRecord). a.kids) (is 0);
  letters_are = ap (λ (a : ActorRecord). length a.mailbox) (is 0);
}

pub born_item : (made : Newcomer) (parent : ℕ) (system : Option (List ℕ)) (item : Item)
    → ((n : ℕ) → record_of n made.actor ≡ fresh_record n (Some parent) system None (Some item)) → IsComplete made → IsBorn parent system 0 made
born_item made parent system item is whole = record {
  complete = whole;
  parent_is = ap (λ (a : ActorRecord). a.parent) (is 0);
  system_is = ap (λ (a : ActorRecord). a.system) (is 0);
  active = ap (λ (a : ActorRecord). a.status) (is 0);
  childless = ap (λ (a : ActorRecord). a.kids) (is 0);
  letters_are = ap (λ (a : ActorRecord). length a.mailbox) (is 0);
}

-- a child against which nothing stands is made, and joins its parent's children
pub child_fits : (ahead : AheadOffice) (id : List ℕ) (logic : ActorLogic) (input : Value) (system : Option (List ℕ)) (child : Newcomer) → HasChildRoom ahead (first_letters logic) system
    → with_newcomer ahead.office child ≡ with_logic ahead.office ahead.actor logic input system
    → with_child ahead.actor id logic input system ahead.office ≡ Ok (with_part (with_part ahead (part.Make child)) (part.Join ahead.actor id ahead.office.next_actor)).office
child_fits ahead id logic input system child room made =
    rw (room.name_free, room.actor_room, room.letter_room, room.level)
    (ap (λ (state : OfficeState). Ok (with_actor state ahead.actor (with_kid id ahead.office.next_actor))) (sym made))

-- a row of the table of actors, as the rules of an office read it
pub row_read : (defs : Defs) (src : ℕ) → option_map actor_logic (slice_get defs.actors src) ≡ slice_get (office_definitions defs).actors src
row_read defs src = sym (slice_get-map actor_logic defs.actors src)
