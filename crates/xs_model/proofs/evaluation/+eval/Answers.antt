use Rattle.xs_model.specs.Eval.{scope_of}
use Rattle.xs_model.proofs.EvalLemmas.{map-start}
use Rattle.xs_model.proofs.evaluation.+eval.Goals as goal

pub map_of-loop-key-init : goal.map_of-loop-key-init
map_of-loop-key-init t c = rw c.new-members.ensures (map-start (scope_of c.args.env.now) c.as_slice-key-items.result.now)
