use Rattle.std.proofs.Common.{◌≡◌, ℕ, ◌+◌, ◌<◌, Bool, true, cond, List, None, Option, IfSome, sym, ap, ◌∙◌, subst, arith}
use Rattle.std.specs.List.{AllByRecursion, filter_map}
use Rattle.std.proofs.lemmas.List.Elements.{All-from_recursion}
use Rattle.office_types.specs.declared.office.ActorRecord.{ActorRecord}
use Rattle.office_types.specs.declared.office.Item.{Item}
use Rattle.office_types.specs.Records.{is_active, is_active_status}
use Rattle.office_types.specs.WorkItems.{open_item}
use Rattle.actor_tree.specs.Actors.{record_of, records_of}
use Rattle.actor_tree.specs.Books.{and_item}
use Rattle.actor_tree.specs.HeldOffice.{HasOwnItem, kid_room, letter_room}
use Rattle.actor_tree.proofs.PushLemmas.{active_push, all_push, all_so, holders_push, items_below, items_push, letters_push, name_free, numbers_newer, records_push, rise_push, rooms_push, some_item}
use Rattle.actor_tree.proofs.held.Held.make.Goals as goal

pub hold_name-requires-clause-free : goal.hold_name-requires-clause-free
hold_name-requires-clause-free c = name_free c.self.inside.names.names c.args.newcomer c.requires.fits.complete.name (rw (← c.self.view_is) at c.requires.fits.name_free)

pub hold_name-requires-clause-newer : goal.hold_name-requires-clause-newer
hold_name-requires-clause-newer c = All-from_recursion (λ (holder : List ℕ × ℕ). holder.1 < c.self.inside.counts.next_actor) c.self.inside.names.names c.self.invariant.holders_given

pub open_new_item-requires-clause-newer : goal.open_new_item-requires-clause-newer
open_new_item-requires-clause-newer c =
    let next = c.self.inside.counts.next_actor in
    let number : IfSome c.args.newcomer.item (λ (item : Item). item.actor ≡ next) = rw (← c.self.view_is) at c.requires.fits.item_number in
    some_item next c.args.newcomer.item c.self.inside.items.items number
    (subst (AllByRecursion (λ (item : Item). item.actor < next)) (sym c.self.invariant.items_open) (items_below next (records_of c.self.inside.actors.items) c.self.invariant.numbered c.self.invariant.actors_given))

pub push-requires-clause-newer : goal.push-requires-clause-newer
push-requires-clause-newer c =
    All-from_recursion _ c.self.inside.actors.items (numbers_newer c.self.inside.counts.next_actor c.args.newcomer.actor c.self.inside.actors.items c.self.invariant.actors_given)

pub invariant_of-self : goal.invariant_of-self
invariant_of-self c =
    let actors = c.self.inside.actors.items in
    let number = c.self.inside.counts.next_actor in
    let actor = c.args.newcomer.actor in
    let fits = c.requires.fits in
    let held = c.self.invariant in
    let active : is_active (record_of number actor) ≡ true = ap is_active_status fits.active in
    let item : open_item (record_of number actor) ≡ c.args.newcomer.item = ap (λ (b : Bool). cond b actor.item None) active ∙ sym fits.complete.item in
    let item_number : IfSome c.args.newcomer.item (λ (item : Item). item.actor ≡ number) = rw (← c.self.view_is) at fits.item_number in
    let own : HasOwnItem (record_of number actor) = subst (λ (o : Option Item). IfSome o (λ (item : Item). item.actor ≡ number)) fits.complete.item item_number in
    let records = ap records_of c.push.ensures.items ∙ records_push number actor actors in
    record {
      numbers_rise = rw c.push.ensures.items (rise_push number actor actors held.numbers_rise held.actors_given);
      active = rw (c.push.ensures.items, records_push number actor actors) (omega (arith, held.active, active_push (record_of number actor) active (records_of actors)));
      waiting = rw c.push.ensures.items (omega (arith, held.waiting, letters_push number actor actors, c.len-letters.ensures, actor.mailbox.ok.0));
      items_open = c.open_new_item.ensures.items ∙ (ap (λ (items : List Item). and_item items c.args.newcomer.item) held.items_open
          ∙ sym (ap (λ (records : List ActorRecord). filter_map open_item records) records
          ∙ (items_push (record_of number actor) (records_of actors) ∙ ap (and_item (filter_map open_item (records_of actors))) item)));
      numbered = subst (AllByRecursion HasOwnItem) (sym records) (all_push HasOwnItem (records_of actors) (record_of number actor) held.numbered own);
      actors_given = subst (AllByRecursion (λ (actor : ActorRecord). actor.number < number + 1)) (sym records)
          (all_push (λ (actor : ActorRecord). actor.number < number + 1) (records_of actors) (record_of number actor)
          (all_so (λ (actor : ActorRecord). actor.number < number) (λ (actor : ActorRecord). actor.number < number + 1) (records_of actors) (λ actor less. omega arith) held.actors_given) (omega arith));
      holders_given = subst (AllByRecursion (λ (holder : List ℕ × ℕ). holder.1 < number + 1)) (sym c.hold_name.ensures.names) (holders_push number c.args.newcomer.name c.self.inside.names.names held.holders_given);
      timers_given = held.timers_given;
    }

pub returns-clause-room : goal.returns-clause-room
returns-clause-room c =
    let number = c.self.inside.counts.next_actor in
    let actors = c.self.inside.actors.items in
    rw (← c.self.view_is)
    (record {
      actors = c.push.ensures.takes_one;
      names = c.hold_name.ensures.takes_one;
      items = c.open_new_item.ensures.takes_one;
      timers = omega arith;
      letters = rw c.push.ensures.items (rooms_push number c.args.newcomer.actor letter_room actors);
      kids = rw c.push.ensures.items (rooms_push number c.args.newcomer.actor kid_room actors);
    })
