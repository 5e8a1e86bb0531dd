use Rattle.std.proofs.Common.{ℕ}
use Rattle.xs_model.specs.declared.expr.Expr.TheVariants as expr
use Rattle.microstep.specs.Acts.{Act, after_act}
use Rattle.microstep.specs.DoneEvents.{node_id}
use Rattle.microstep.proofs.TurnLemmas.{turn-map}
use Rattle.microstep.proofs.done_events.raise_all.Goals as goal

pub loop-node-init : goal.loop-node-init
loop-node-init c = turn-map (after_act c.args.event.now) (λ (n : ℕ). Act.RaiseDone (node_id c.args.def.now.tree n) expr.Null) c.args.nodes.now c.args.progress.now
