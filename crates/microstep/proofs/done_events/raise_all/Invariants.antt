use Rattle.std.proofs.Common.{ℕ}
use Rattle.xs_model.specs.declared.expr.Expr.TheVariants as expr
use Rattle.microstep.specs.Acts.{Act, after_act, after_acts}
use Rattle.microstep.specs.Climbing.{parallel_done}
use Rattle.microstep.specs.DoneEvents.{node_id}
use Rattle.std.proofs.Common.{◌≡◌}
use Rattle.microstep.proofs.TurnLemmas.{turn_from}
use Rattle.microstep.proofs.done_events.raise_all.Given as goal

-- what is done so far, and what is left to do
abbrev pub invariant-loop-node : goal.invariant-loop-node
invariant-loop-node l = after_acts l.event (parallel_done l.def l.nodes) l.fn.progress ≡ turn_from (λ (n : ℕ). after_act l.event (Act.RaiseDone (node_id l.def.tree n) expr.Null)) l.nodes l.node-index l.progress
