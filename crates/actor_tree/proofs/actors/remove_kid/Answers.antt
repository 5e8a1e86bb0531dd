use Rattle.std.proofs.Common.{ℕ, List, sym, ap, arith}
use Rattle.office_types.specs.Effects.{without_kid}
use Rattle.actor_tree.specs.Actors.{record_of}
use Rattle.actor_tree.specs.HeldOffice.{no_needs}
use Rattle.actor_tree.proofs.ChangedLemmas.{changed_at, letters_with, unchanged_at}
use Rattle.actor_tree.proofs.actors.remove_kid.Goals as goal

pub returns-in-Some-clause-changed : goal.returns-in-Some-clause-changed
returns-in-Some-clause-changed c =
    let actor = c.in-Some.actor.now in
    changed_at c.args.parent (record actor { kids = c.drop_kid.new.kids }) actor (without_kid c.args.id.now) no_needs c.args.actors.now.items c.requires
    (sym c.in-Some.ensures.value) (ap (λ (kids : List (List ℕ × ℕ)). record (record_of c.args.parent actor) { kids = kids }) c.drop_kid.ensures.kids)
    (omega arith) (omega (arith, c.drop_kid.ensures.keeps_room))

pub returns-in-Some-clause-count : goal.returns-in-Some-clause-count
returns-in-Some-clause-count c =
    let actor = c.in-Some.actor.now in
    let counted =
    letters_with c.args.parent (record actor { kids = c.drop_kid.new.kids }) actor (without_kid c.args.id.now)
    (ap (λ (kids : List (List ℕ × ℕ)). record (record_of c.args.parent actor) { kids = kids }) c.drop_kid.ensures.kids) c.args.actors.now.items c.requires (sym c.in-Some.ensures.value) in
    omega (arith, counted)

pub returns-in_default-clause-changed : goal.returns-in_default-clause-changed
returns-in_default-clause-changed c = unchanged_at c.args.parent (without_kid c.args.id.now) no_needs c.args.actors.now.items c.requires (sym c.in_default.ensures.value)
