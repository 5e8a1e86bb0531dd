use Rattle.std.proofs.Common.{ap, ◌∙◌}
use Rattle.flat_core.specs.Office.{shown_state}
use Rattle.flat_core.proofs.QueueLemmas.{value_of-none, value_of-some}
use Rattle.flat_core.proofs.office.Core.value.Goals as goal

pub returns-in_default-clause-shown : goal.returns-in_default-clause-shown
returns-in_default-clause-shown c =
    rw (← c.self.view_is) (value_of-none c.self.inside.machines c.self.inside.flat_actors.items c.self.inside.queue.items c.self.inside.next_letter c.args.actor (rw c.as_slice.ensures.value at c.in_default.ensures))

pub returns-clause-shown : goal.returns-clause-shown
returns-clause-shown c =
    let there = rw c.as_slice.ensures.value at c.in-Some.ensures in
    rw (← c.self.view_is)
    (c.shown_state.ensures.shown ∙ ap (λ machine. shown_state machine c.in-Some.flat_actor.now.state) c.get.ensures
    ∙ value_of-some c.self.inside.machines c.self.inside.flat_actors.items c.self.inside.queue.items c.self.inside.next_letter c.args.actor c.in-Some.flat_actor.now there)
