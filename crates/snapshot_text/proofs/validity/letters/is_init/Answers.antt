use Rattle.office_types.specs.Events.{event_type, init_type}
use Rattle.snapshot_text.proofs.KeyLemmas.{tests_text}
use Rattle.snapshot_text.proofs.validity.letters.is_init.Goals as goal

pub returns : goal.returns
returns c = tests_text init_type (event_type c.args.letter.now.event) c.begins_actor.result c.begins_actor.ensures
