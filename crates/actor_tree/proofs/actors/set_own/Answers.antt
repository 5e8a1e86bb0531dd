use Rattle.std.proofs.Common.{Some, refl, sym, arith}
use Rattle.office_types.specs.declared.office.ActorRecord.{ActorRecord}
use Rattle.actor_tree.specs.HeldOffice.{no_needs}
use Rattle.actor_tree.proofs.ChangedLemmas.{changed_at, letters_with, unchanged_at}
use Rattle.actor_tree.proofs.actors.set_own.Goals as goal

pub returns-in-Some-clause-changed : goal.returns-in-Some-clause-changed
returns-in-Some-clause-changed c =
    let actor = c.in-Some.actor.now in
    changed_at c.args.number (record actor { own = Some c.args.own }) actor (λ (actor : ActorRecord). record actor { own = Some c.args.own }) no_needs c.args.actors.now.items c.requires (sym c.in-Some.ensures.value) refl (omega arith) (omega arith)

pub returns-in_default-clause-changed : goal.returns-in_default-clause-changed
returns-in_default-clause-changed c = unchanged_at c.args.number (λ (actor : ActorRecord). record actor { own = Some c.args.own }) no_needs c.args.actors.now.items c.requires (sym c.in_default.ensures.value)

pub returns-in-Some-clause-count : goal.returns-in-Some-clause-count
returns-in-Some-clause-count c =
    let actor = c.in-Some.actor.now in
    let counted =
    letters_with c.args.number (record actor { own = Some c.args.own }) actor (λ (actor : ActorRecord). record actor { own = Some c.args.own }) refl c.args.actors.now.items c.requires (sym c.in-Some.ensures.value) in
    omega (arith, counted)
