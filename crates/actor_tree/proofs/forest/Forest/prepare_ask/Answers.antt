use Rattle.action_table.specs.Definitions.{office_definitions}
use Rattle.actor_tree.specs.Asks.{IsGranted}
use Rattle.actor_tree.proofs.ChangeLemmas.{ask_valid}
use Rattle.actor_tree.proofs.forest.Forest.prepare_ask.Goals as goal

pub make_room-requires-clause-valid : goal.make_room-requires-clause-valid
make_room-requires-clause-valid c =
    let inside = c.self.inside in
    let office = inside.held.office in
    let granted : IsGranted (record { definitions = office_definitions inside.defs.value; office = office; caller = c.args.caller.now; ask = c.args.ask.now }) c.in_ok-reply.reply c.in_ok-reply.parts = rw c.deref.ensures at c.in_ok-reply.ensures.answer in
    rw (← c.self.view_is)
    (ask_valid (office_definitions inside.defs.value) office c.args.caller.now c.args.ask.now c.in_ok-reply.parts c.decisions_keep_validity.ensures c.self.invariant.valid c.self.invariant.callers c.self.invariant.entries c.requires.asked granted.unrefused granted.change)
