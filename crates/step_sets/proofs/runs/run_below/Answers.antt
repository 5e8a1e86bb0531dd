use Rattle.std.proofs.Common.{◌<◌, length, get_or, arith}
use Rattle.node_tree.specs.Nodes.{IsBelow}
use Rattle.step_sets.proofs.RunLemmas.{run_is_set}
use Rattle.step_sets.proofs.runs.run_below.Goals as goal
use Rattle.step_sets.proofs.runs.run_below.Goals.{then-loop-end-test+else-below, else-loop-end-test}

pub returns : goal.returns
returns c =
    let stop : c.loop-end.end < length c.args.nodes.now → IsBelow c.args.tree.now (get_or c.args.nodes.now c.loop-end.end 0) c.args.high → ⊥ =
    elim c.loop-end-test.branch [
      | then-loop-end-test+else-below w ↦ (λ inside below. let yes = w.below.ensures.1 below in let no = w.if-below.false in cc)
      | else-loop-end-test w ↦ (λ inside below. let past = w.loop-end-test.false in omega arith)
    ] in
    run_is_set c.args.tree.now c.len-nodes.ensures.tree c.args.nodes.now c.requires.rising c.args.high c.first_after-start.result c.loop-end.end
    c.loop-end.invariant.ordered c.loop-end.invariant.inside c.first_after-start.ensures.before c.first_after-start.ensures.after c.loop-end.invariant.all stop
