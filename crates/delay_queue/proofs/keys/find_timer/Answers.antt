use Rattle.std.proofs.Common.{◌∙◌}
use Rattle.delay_queue.proofs.NumberedLemmas.{found_by_number}
use Rattle.delay_queue.proofs.keys.find_timer.Goals as goal

pub returns : goal.returns
returns c = c.find.ensures ∙ found_by_number c.args.order c.args.store.now.items c.requires
