use Rattle.microstep.specs.Acts.{Act, after_act}
use Rattle.microstep.proofs.TurnLemmas.{turn-map}
use Rattle.microstep.proofs.acts.run_all.Goals as goal

pub loop-action_use-init : goal.loop-action_use-init
loop-action_use-init c = turn-map (after_act c.args.event.now) Act.Run c.args.actions.now c.args.progress.now
