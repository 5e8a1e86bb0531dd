use Rattle.std.proofs.Common.{length, refl, arith}
use Rattle.std.proofs.lemmas.Option.{slice_get_read}
use Rattle.office_types.specs.Records.{is_active}
use Rattle.actor_tree.proofs.RestoreLemmas.{count_more, fewer_taken, letters_more}
use Rattle.actor_tree.proofs.restore.count_all.Goals as goal

pub overflow_add-active : goal.overflow_add-active
overflow_add-active c =
    omega (arith, c.loop-actor.invariant.active, fewer_taken is_active c.args.actors.now c.loop-actor.actor-index, c.requires.few, c.one_if_active-active.ensures.at_most_one)

pub loop-actor-preserved : goal.loop-actor-preserved
loop-actor-preserved c =
    let actors = c.args.actors.now in
    let i = c.loop-actor.actor-index in
    let actor = c.actor-item.result in
    let here = slice_get_read actors (length actors) i actor refl c.loop-actor-test.true c.actor-item.is in
    record {
      active = omega (arith, c.loop-actor.invariant.active, c.one_if_active-active.ensures.value, count_more is_active actors i actor here);
      letters = omega (arith, c.loop-actor.invariant.letters, c.len.ensures, letters_more actors i actor here);
    }
