use Rattle.std.proofs.Common.{◌<◌, length, get_or}
use Rattle.std.proofs.lemmas.List.Elements.{All-contains, Contains-get_or}
use Rattle.node_tree.proofs.TreeLemmas.{below_inside}
use Rattle.step_sets.proofs.RememberedLemmas.{remembered_below}
use Rattle.step_sets.proofs.SetLemmas.{All-from_set, IsPicked-push, IsPicked-skip, IsPicked-all, IsSetOf-same}
use Rattle.step_sets.proofs.history.remembered.Goals as goal
use Rattle.step_sets.proofs.history.remembered.Goals.{then-can_be_remembered+in_ok-push, else-can_be_remembered}

pub can_be_remembered-requires-clause-node : goal.can_be_remembered-requires-clause-node
can_be_remembered-requires-clause-node c =
    let run = c.run_below-node-items in
    let node = get_or run.result.now c.loop-node.node-index 0 in
    below_inside c.args.tree.now node c.args.parent ((run.ensures.exact node).0 (Contains-get_or run.result.now c.loop-node.node-index 0 c.loop-node-test.true)).1

pub loop-node-preserved : goal.loop-node-preserved
loop-node-preserved c =
    let xs = c.run_below-node-items.result.now in
    let ys = c.loop-node.nodes.items in
    let i = c.loop-node.node-index in
    elim c.if-can_be_remembered.branch [
      | then-can_be_remembered+in_ok-push w ↦
          rw (w.nodes-is, w.in_ok-push.ensures.items)
          (IsPicked-push xs ys i c.run_below-node-items.ensures.in_order c.loop-node-test.true (c.can_be_remembered.ensures.0 w.if-can_be_remembered.true) c.loop-node.invariant)
      | else-can_be_remembered w ↦
          rw w.nodes-is
          (IsPicked-skip xs ys i c.loop-node-test.true (λ p. let yes = c.can_be_remembered.ensures.1 p in let off = w.if-can_be_remembered.false in cc) c.loop-node.invariant)
    ]

pub returns-clause-nodes : goal.returns-clause-nodes
returns-clause-nodes c =
    let nodes = c.args.tree.now in
    let h = c.args.history in
    let run = c.run_below-node-items in
    rw c.from_vec.ensures
    (IsSetOf-same c.loop-node.nodes.items
    (IsPicked-all run.result.now c.loop-node.nodes.items c.loop-node.node-index c.loop-node-test.false c.loop-node.invariant)
    (λ n. (
      (λ (has, can). (rw c.as_slice.ensures.nodes at ((run.ensures.exact n).0 has).0, can)),
      (λ (has, can). ((run.ensures.exact n).1 (rw (← c.as_slice.ensures.nodes) at has, remembered_below nodes h c.args.parent c.requires.child n can), can)),
    )))

pub returns-clause-of_tree : goal.returns-clause-of_tree
returns-clause-of_tree c =
    let nodes = c.args.tree.now in
    All-from_set (λ n. n < length nodes) _ (returns-clause-nodes c)
    (λ n e. All-contains (λ n. n < length nodes) c.args.active.now n c.requires.active e.0)
