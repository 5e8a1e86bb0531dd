use Rattle.std.proofs.Common.{◌∙◌, subst, arith}
use Rattle.std.proofs.lemmas.List.Elements.{recursion_from_All}
use Rattle.std.proofs.lemmas.List.Kept.{AllPairs-from_increasing}
use Rattle.office_types.specs.ValidOffice.{IsActor}
use Rattle.actor_tree.proofs.WalkLemmas.{IsWalk, no_keys, valid_rise, walk_begins, walk_done, walk_on, walk_short}
use Rattle.actor_tree.proofs.held.Held.subtree.Goals as goal

pub loop-actor-init : goal.loop-actor-init
loop-actor-init c =
    let office = c.args.self.now.office in
    let valid = c.requires.valid.1 in
    rw (c.new-found.ensures.items, c.in_ok-insert.ensures.keys, c.new-pending.ensures.empty)
    (walk_begins c.requires.valid.0 office (valid_rise office.actors (AllPairs-from_increasing _ valid.actors_rise)) (recursion_from_All (IsActor c.requires.valid.0 office) office.actors valid.actors) c.args.number)

pub loop-actor-preserved : goal.loop-actor-preserved
loop-actor-preserved c =
    let office = c.args.self.now.office in
    let valid = c.requires.valid.1 in
    rw (c.in_ok-push.ensures.items, c.in_ok-add_children.ensures)
    (walk_on c.requires.valid.0 office (valid_rise office.actors (AllPairs-from_increasing _ valid.actors_rise)) (recursion_from_All (IsActor c.requires.valid.0 office) office.actors valid.actors) c.args.number
    c.in-Some.actor c.loop-actor.found.items c.pop_first.new.self.keys (subst (IsWalk office c.args.number c.loop-actor.found.items) c.in-Some.ensures.removal c.loop-actor.invariant))

pub loop-actor-smaller : goal.loop-actor-smaller
loop-actor-smaller c =
    let office = c.args.self.now.office in
    let valid = c.requires.valid.1 in
    let short =
    walk_short c.requires.valid.0 office (valid_rise office.actors (AllPairs-from_increasing _ valid.actors_rise)) (recursion_from_All (IsActor c.requires.valid.0 office) office.actors valid.actors) c.args.number
    c.in-Some.actor c.loop-actor.found.items c.pop_first.new.self.keys (subst (IsWalk office c.args.number c.loop-actor.found.items) c.in-Some.ensures.removal c.loop-actor.invariant) in
    omega (arith, short, c.in_ok-push.ensures.len, c.loop-actor.found.ok.0, c.push.new.self.ok.0)

pub returns : goal.returns
returns c =
    let office = c.args.self.now.office in
    let valid = c.requires.valid.1 in
    c.from_vec.ensures
    ∙ walk_done c.requires.valid.0 office (valid_rise office.actors (AllPairs-from_increasing _ valid.actors_rise)) (recursion_from_All (IsActor c.requires.valid.0 office) office.actors valid.actors) c.args.number
    c.loop-actor.found.items (subst (IsWalk office c.args.number c.loop-actor.found.items) (no_keys c.pop_first.result c.loop-actor.pending.keys c.in_default.is c.pop_first.ensures.variant.1) c.loop-actor.invariant)
