use Rattle.microstep.specs.Acts.{Act, after_act}
use Rattle.microstep.proofs.TurnLemmas.{turn-map}
use Rattle.microstep.proofs.entries.begin_invocations.Goals as goal

pub loop-invocation-init : goal.loop-invocation-init
loop-invocation-init c = turn-map (after_act c.args.event.now) Act.Invoke c.args.invocations.now c.args.progress.now
