use Rattle.std.proofs.Common.{◌<◌, length, refl, sym, subst}
use Rattle.std.specs.List.{AllByRecursion}
use Rattle.std.proofs.lemmas.List.Elements.{All-from_recursion}
use Rattle.std.proofs.lemmas.Option.{slice_get_read}
use Rattle.office_types.specs.declared.office.ActorRecord.{ActorRecord}
use Rattle.actor_tree.proofs.PushLemmas.{numbers_newer}
use Rattle.actor_tree.proofs.RestoreLemmas.{earlier, keys_rise}
use Rattle.actor_tree.proofs.restore.restore_actors.Goals as goal

pub push-requires-clause-newer : goal.push-requires-clause-newer
push-requires-clause-newer c =
    let actors = c.args.actors.now in
    let i = c.loop-actor.actor-index in
    let actor = c.actor-item.result in
    let here = slice_get_read actors (length actors) i actor refl c.loop-actor-test.true c.actor-item.is in
    let before = earlier (λ (a b : ActorRecord). a.number < b.number) actors i actor (keys_rise (λ (a : ActorRecord). a.number) actors c.requires) here in
    rw c.reserve.ensures.items
    (All-from_recursion _ c.loop-actor.made.items
    (numbers_newer actor.number c.in_ok-held.held c.loop-actor.made.items (subst (AllByRecursion (λ (a : ActorRecord). a.number < actor.number)) (sym c.loop-actor.invariant) before)))
