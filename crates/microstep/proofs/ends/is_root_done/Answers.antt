use Rattle.microstep.proofs.EndLemmas.{done-now, done-yet}
use Rattle.microstep.proofs.ends.is_root_done.Goals as goal

pub returns : goal.returns
returns c = (
  (λ yes. done-now c.args.tree.now c.args.configuration.now 0 (c.is_done.ensures.0 yes)),
  (λ done. c.is_done.ensures.1 (done-yet c.args.tree.now c.args.configuration.now 0 done)),
)
