use Rattle.std.proofs.Common.{◌≡◌, ◌∷◌, [], ℕ, true, nat_eq, List, refl, sym, ap, arith}
use Rattle.std.proofs.lemmas.Bool.{eq-eqb}
use Rattle.office_types.specs.Effects.{with_kid}
use Rattle.actor_tree.specs.Actors.{record_of}
use Rattle.actor_tree.specs.HeldOffice.{kid_room, no_needs}
use Rattle.actor_tree.proofs.ChangedLemmas.{changed_at, is_there, letters_with, room_there, unchanged_at}
use Rattle.actor_tree.proofs.actors.add_kid.Goals as goal

pub push_reserved-requires : goal.push_reserved-requires
push_reserved-requires c =
    let actor = c.in-Some.actor.now in
    let held = sym c.in-Some.ensures.value in
    let room = room_there kid_room c.args.parent c.args.actors.now.items actor held in
    let some = c.requires.room (is_there kid_room c.args.parent c.args.actors.now.items actor held) in
    omega (arith, room, some)

pub returns-in-Some-clause-changed : goal.returns-in-Some-clause-changed
returns-in-Some-clause-changed c =
    let actor = c.in-Some.actor.now in
    let this : nat_eq c.args.parent c.args.parent ≡ true = eq-eqb c.args.parent c.args.parent refl in
    changed_at c.args.parent (record actor { kids = c.push_reserved.new.self }) actor (with_kid c.args.id c.args.child) (record no_needs { parents = c.args.parent ∷ [] }) c.args.actors.now.items c.requires.rise
    (sym c.in-Some.ensures.value) (ap (λ (kids : List (List ℕ × ℕ)). record (record_of c.args.parent actor) { kids = kids }) c.push_reserved.ensures.items)
    (omega arith) (rw this (omega (arith, c.push_reserved.ensures.len, c.push_reserved.ensures.capacity)))

pub returns-in-Some-clause-count : goal.returns-in-Some-clause-count
returns-in-Some-clause-count c =
    let actor = c.in-Some.actor.now in
    let counted =
    letters_with c.args.parent (record actor { kids = c.push_reserved.new.self }) actor (with_kid c.args.id c.args.child)
    (ap (λ (kids : List (List ℕ × ℕ)). record (record_of c.args.parent actor) { kids = kids }) c.push_reserved.ensures.items) c.args.actors.now.items c.requires.rise (sym c.in-Some.ensures.value) in
    omega (arith, counted)

pub returns-in_default-clause-changed : goal.returns-in_default-clause-changed
returns-in_default-clause-changed c = unchanged_at c.args.parent (with_kid c.args.id c.args.child) (record no_needs { parents = c.args.parent ∷ [] }) c.args.actors.now.items c.requires.rise (sym c.in_default.ensures.value)
