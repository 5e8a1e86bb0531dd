use Rattle.std.proofs.Common.{refl, ap, ◌∙◌, Some}
use Rattle.flat_core.specs.View.{state_behind}
use Rattle.flat_core.proofs.StepLemmas.{gone-none, gone-other, head_at-found, found-is_given, step-took}
use Rattle.flat_core.proofs.office.Core.plan_step.Goals as goal

pub returns-in_default-clause-refused : goal.returns-in_default-clause-refused
returns-in_default-clause-refused c =
    let inside = c.self.inside in
    rw (← c.self.view_is) (gone-none inside.flat_actors.items inside.queue.items inside.next_letter c.args.claim.now.actor c.args.claim.now.letter c.self.invariant c.in_default.ensures)

pub returns-then-letter-claim-clause-refused : goal.returns-then-letter-claim-clause-refused
returns-then-letter-claim-clause-refused c =
    let inside = c.self.inside in
    rw (← c.self.view_is)
    (gone-other inside.flat_actors.items inside.queue.items inside.next_letter c.args.claim.now.actor c.args.claim.now.letter c.in-Some.letter.now c.self.invariant c.in-Some.ensures c.if-letter-claim.true)

pub returns-clause-ok : goal.returns-clause-ok
returns-clause-ok c =
    let inside = c.self.inside in
    let actor = c.args.claim.now.actor in
    let letter = c.in-Some.letter.now in
    let reached = c.state_behind-state.ensures ∙ ap (λ flat_actors. state_behind inside.machines flat_actors actor letter.event) c.as_slice.ensures.value in
    rw (← c.self.view_is)
    (record {
      head = head_at-found inside.flat_actors.items inside.queue.items inside.next_letter actor letter c.self.invariant c.in-Some.ensures ∙ ap (λ number. Some number) c.if-letter-claim.false;
      step = record {
        fits = found-is_given inside.flat_actors.items inside.queue.items inside.next_letter actor letter c.self.invariant c.in-Some.ensures;
        reply = refl;
        after = step-took inside.machines inside.flat_actors.items inside.queue.items inside.next_letter actor c.state_behind-state.result letter c.self.invariant c.in-Some.ensures reached;
      };
    })
