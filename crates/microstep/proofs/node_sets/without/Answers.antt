use Rattle.step_sets.proofs.SetLemmas.{IsPicked-push, IsPicked-skip, IsPicked-all}
use Rattle.microstep.proofs.node_sets.without.Goals as goal
use Rattle.microstep.proofs.node_sets.without.Goals.{then-not-has+in_ok-push, else-not-has}

pub loop-node-preserved : goal.loop-node-preserved
loop-node-preserved c =
    let xs = c.args.nodes.now in
    let ys = c.loop-node.rest.items in
    let i = c.loop-node.node-index in
    elim c.if-not-has.branch [
      | then-not-has+in_ok-push w ↦
          rw (w.rest-is, w.in_ok-push.ensures.items)
          (IsPicked-push xs ys i c.requires c.loop-node-test.true (λ inside. let yes = c.has.ensures.1 inside in let off = w.if-not-has.true in cc) c.loop-node.invariant)
      | else-not-has w ↦
          rw w.rest-is
          (IsPicked-skip xs ys i c.loop-node-test.true (λ out. out (c.has.ensures.0 w.if-not-has.false)) c.loop-node.invariant)
    ]

pub returns : goal.returns
returns c = IsPicked-all c.args.nodes.now c.loop-node.rest.items c.loop-node.node-index c.loop-node-test.false c.loop-node.invariant
