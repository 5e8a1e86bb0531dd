use Rattle.std.proofs.Common.{◌≡◌, ◌∙◌, ◌<◌, ◌≤◌, ◌-◌, ◌++◌, List, ℕ, ap, arith, subst, sym}
use Rattle.office_types.specs.Ends.{subtree_of}
use Rattle.actor_tree.specs.Noted.{numbers_from, staying}
use Rattle.actor_tree.specs.Notes.{noted}
use Rattle.actor_tree.specs.Parts.{put}
use Rattle.actor_tree.proofs.AheadLemmas.{below_later, below_own}
use Rattle.actor_tree.proofs.ahead.Ahead.subtree.Goals as goal

pub add_made-requires : goal.add_made-requires
add_made-requires c = omega (arith, c.self.invariant.told.counts.next_actor, c.self.invariant.told.next)

pub returns-then-number-self : goal.returns-then-number-self
returns-then-number-self c =
    let inside = c.self.inside in
    let before = inside.held.now.office in
    let later : inside.actor < c.args.number = (let low : inside.actor ≤ c.args.number = rw (← c.self.view_is) at c.requires in omega (arith, low, c.if-number-self.true)) in
    rw (← c.self.view_is)
    (c.from_vec.ensures ∙ c.in_ok-add_staying.ensures
    ∙ ap (λ (found : List ℕ). found ++ staying (noted inside.notes).gone c.args.number c.as_slice.result.now) c.new-found.ensures.items
    ∙ ap (staying (noted inside.notes).gone c.args.number) (c.as_slice.ensures ∙ c.in_ok-before.ensures)
    ∙ below_later before inside.actor inside.parts.items inside.notes c.self.invariant c.args.number later)

pub returns : goal.returns
returns c =
    let inside = c.self.inside in
    let before = inside.held.now.office in
    let own : c.args.number ≡ inside.actor = omega (arith, c.if-number-self.false) in
    let made : List ℕ = numbers_from before.next_actor (inside.notes.counts.next_actor - before.next_actor) in
    rw (← c.self.view_is)
    (c.from_vec-2.ensures ∙ c.in_ok-add_made.ensures
    ∙ ap (λ (found : List ℕ). found ++ staying (noted inside.notes).gone c.args.number made)
    (c.in_ok-add_staying.ensures
    ∙ ap (λ (found : List ℕ). found ++ staying (noted inside.notes).gone c.args.number c.as_slice.result.now) c.new-found.ensures.items
    ∙ ap (staying (noted inside.notes).gone c.args.number) (c.as_slice.ensures ∙ c.in_ok-before.ensures))
    ∙ subst (λ (n : ℕ). staying (noted inside.notes).gone n (subtree_of before n) ++ staying (noted inside.notes).gone n made ≡ subtree_of (put before inside.parts.items) n) (sym own)
    (below_own before inside.actor inside.parts.items inside.notes c.self.invariant inside.notes.counts.next_actor (c.self.invariant.told.counts.next_actor ∙ c.self.invariant.told.next)))
