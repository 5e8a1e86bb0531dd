use Rattle.std.proofs.Common.{◌<◌, List, Option, length, take, refl, sym, ap, ◌∙◌, subst}
use Rattle.std.specs.List.{AllByRecursion, filter_map}
use Rattle.std.proofs.lemmas.Option.{slice_get_read}
use Rattle.office_types.specs.declared.office.ActorRecord.{ActorRecord}
use Rattle.office_types.specs.declared.office.Item.{Item}
use Rattle.office_types.specs.WorkItems.{open_item}
use Rattle.actor_tree.specs.Books.{and_item}
use Rattle.actor_tree.specs.HeldOffice.{HasOwnItem}
use Rattle.actor_tree.proofs.PushLemmas.{items_below, items_push}
use Rattle.actor_tree.proofs.RestoreLemmas.{earlier, get_has, keys_rise, one_more, open_newest, taken_have}
use Rattle.actor_tree.proofs.restore.restore_items.Goals as goal

pub open_new_item-requires-clause-newer : goal.open_new_item-requires-clause-newer
open_new_item-requires-clause-newer c =
    let actors = c.args.actors.now in
    let i = c.loop-actor.actor-index in
    let actor = c.actor-item.result in
    let here = slice_get_read actors (length actors) i actor refl c.loop-actor-test.true c.actor-item.is in
    let before = earlier (λ (a b : ActorRecord). a.number < b.number) actors i actor (keys_rise (λ (a : ActorRecord). a.number) actors c.requires.rise) here in
    let below = items_below actor.number (take i actors) (taken_have HasOwnItem actors i c.requires.own) before in
    open_newest actor c.in_ok-item.item c.reserve.new.self.items c.in_ok-item.ensures (get_has HasOwnItem actors i actor c.requires.own here)
    (subst (AllByRecursion (λ (item : Item). item.actor < actor.number)) (sym (c.reserve.ensures.items ∙ c.loop-actor.invariant)) below)

pub loop-actor-preserved : goal.loop-actor-preserved
loop-actor-preserved c =
    let actors = c.args.actors.now in
    let i = c.loop-actor.actor-index in
    let actor = c.actor-item.result in
    let here = slice_get_read actors (length actors) i actor refl c.loop-actor-test.true c.actor-item.is in
    c.open_new_item.ensures.items
    ∙ (ap (λ (items : List Item). and_item items c.in_ok-item.item) (c.reserve.ensures.items ∙ c.loop-actor.invariant)
    ∙ (ap (λ (item : Option Item). and_item (filter_map open_item (take i actors)) item) c.in_ok-item.ensures
    ∙ sym (ap (filter_map open_item) (one_more actors i actor here) ∙ items_push actor (take i actors))))
