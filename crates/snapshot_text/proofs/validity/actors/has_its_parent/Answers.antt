use Rattle.snapshot_text.proofs.ParentLemmas.{member_record}
use Rattle.snapshot_text.proofs.validity.actors.has_its_parent.Goals as goal

pub is_child_of-requires-clause-actor : goal.is_child_of-requires-clause-actor
is_child_of-requires-clause-actor c = member_record c.args.state.now c.requires.rise c.args.actor.now c.requires.actor
