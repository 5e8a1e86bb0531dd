use Rattle.std.proofs.Common.{sym, ap, ◌∙◌, arith}
use Rattle.actor_tree.proofs.TakenLemmas.{active_without, letters_without, none_without, taken_from}
use Rattle.actor_tree.specs.HeldOffice.{active_in, letters_in}
use Rattle.actor_tree.proofs.actors.take_actor.Goals as goal

pub returns-in-Some-clause-taken : goal.returns-in-Some-clause-taken
returns-in-Some-clause-taken c = rw c.take.ensures.items (taken_from c.args.number c.args.actors.now.items c.requires)

pub returns-in-Some-clause-count : goal.returns-in-Some-clause-count
returns-in-Some-clause-count c =
    let actor = c.in-Some.actor in
    let left = letters_without c.args.number actor c.args.actors.now.items c.requires (sym c.take.ensures.item ∙ c.in-Some.is) in
    rw c.take.ensures.items (omega (arith, left, c.counted.ensures.letters))

pub returns-in-Some-clause-active : goal.returns-in-Some-clause-active
returns-in-Some-clause-active c =
    let actor = c.in-Some.actor in
    let left = active_without c.args.number actor c.args.actors.now.items c.requires (sym c.take.ensures.item ∙ c.in-Some.is) in
    rw c.take.ensures.items (omega (arith, left, c.counted.ensures.active))

pub returns-in-None-clause-taken : goal.returns-in-None-clause-taken
returns-in-None-clause-taken c = rw c.take.ensures.items (taken_from c.args.number c.args.actors.now.items c.requires)

pub returns-in-None-clause-count : goal.returns-in-None-clause-count
returns-in-None-clause-count c =
    let same = none_without c.args.number c.args.actors.now.items (sym c.take.ensures.item ∙ c.in-None.is) in
    let left = ap letters_in (c.take.ensures.items ∙ same) in
    omega (arith, left)

pub returns-in-None-clause-active : goal.returns-in-None-clause-active
returns-in-None-clause-active c =
    let same = none_without c.args.number c.args.actors.now.items (sym c.take.ensures.item ∙ c.in-None.is) in
    let left = ap active_in (c.take.ensures.items ∙ same) in
    omega (arith, left)
