use Rattle.microstep.specs.Acts.{after_act}
use Rattle.microstep.specs.Working.{acts_at}
use Rattle.microstep.proofs.ActLemmas.{turn-flat_map}
use Rattle.microstep.proofs.acts.act_all.Goals as goal

pub loop-place-init : goal.loop-place-init
loop-place-init c = turn-flat_map (after_act c.args.event.now) (acts_at c.args.def.now c.args.eventless) c.args.places.now c.args.progress.now
