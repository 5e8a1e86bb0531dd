use Rattle.std.proofs.Common.{◌∙◌, ◌<◌, ◌≤◌, ap, arith, sym}
use Rattle.std.specs.Prelude.{nat_lt}
use Rattle.actor_tree.specs.Notes.{noted}
use Rattle.actor_tree.proofs.NotedLookLemmas.{active_before, active_gone, active_made}
use Rattle.actor_tree.proofs.notes.Notes.is_active.Goals as goal

pub returns-then-contains : goal.returns-then-contains
returns-then-contains c = λ actor office is.
    active_gone c.args.held.now.office actor (noted c.args.self.now) office.actors is.records c.args.number (sym c.contains.ensures ∙ c.if-contains.true)

pub returns-then-number-next_actor : goal.returns-then-number-next_actor
returns-then-number-next_actor c = λ actor office is.
    c.is_active.ensures
    ∙ active_before c.args.held.now.office actor (noted c.args.self.now) office.actors is.records c.args.number (sym c.contains.ensures ∙ c.if-contains.false) (omega (arith, c.if-number-next_actor.true, c.next_actor.ensures))

pub returns : goal.returns
returns c = λ actor office is.
    ap (nat_lt c.args.number) (is.counts.next_actor ∙ is.next)
    ∙ active_made c.args.held.now.office actor (noted c.args.self.now) office.actors is.records c.args.number (sym c.contains.ensures ∙ c.if-contains.false) (omega (arith, c.if-number-next_actor.false, c.next_actor.ensures))
