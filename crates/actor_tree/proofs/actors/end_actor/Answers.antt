use Rattle.std.proofs.Common.{sym, arith}
use Rattle.actor_tree.specs.HeldOffice.{no_needs}
use Rattle.actor_tree.specs.Removal.{ended_by}
use Rattle.actor_tree.proofs.ChangedLemmas.{active_with, changed_at, letters_with, unchanged_at}
use Rattle.actor_tree.proofs.EndLemmas.{never_active}
use Rattle.actor_tree.proofs.actors.end_actor.Goals as goal

pub returns-in-Some-clause-changed : goal.returns-in-Some-clause-changed
returns-in-Some-clause-changed c =
    changed_at c.args.number c.end.new.actor c.in-Some.actor.now (ended_by c.args.ending) no_needs c.args.actors.now.items c.requires
    (sym c.in-Some.ensures.value) (c.end.ensures.record_is c.args.number) (omega (arith, c.end.ensures.keeps_room)) (omega (arith, c.end.ensures.keeps_kid_room))

pub returns-in-Some-clause-count : goal.returns-in-Some-clause-count
returns-in-Some-clause-count c =
    let counted =
    letters_with c.args.number c.end.new.actor c.in-Some.actor.now (ended_by c.args.ending) (c.end.ensures.record_is c.args.number) c.args.actors.now.items c.requires (sym c.in-Some.ensures.value) in
    omega (arith, counted, c.end.ensures.letters)

pub returns-in-Some-clause-active : goal.returns-in-Some-clause-active
returns-in-Some-clause-active c =
    let counted = active_with c.args.number c.end.new.actor c.in-Some.actor.now (ended_by c.args.ending) (c.end.ensures.record_is c.args.number) c.args.actors.now.items c.requires (sym c.in-Some.ensures.value) in
    omega (arith, counted, c.end.ensures.active, never_active c.args.ending c.in-Some.actor.now c.end.new.actor (c.end.ensures.record_is 0))

pub returns-in-None-clause-changed : goal.returns-in-None-clause-changed
returns-in-None-clause-changed c = unchanged_at c.args.number (ended_by c.args.ending) no_needs c.args.actors.now.items c.requires (sym c.in-None.ensures.value)
