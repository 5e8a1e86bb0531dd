use Rattle.std.proofs.Common.{◌<◌, ℕ, List, length, get_or}
use Rattle.std.proofs.lemmas.List.{take_all}
use Rattle.std.proofs.lemmas.List.Elements.{Contains-get_or}
use Rattle.node_tree.specs.Nodes.{AreNodes, IsChild}
use Rattle.step_sets.specs.Sets.{IsSetOf}
use Rattle.step_sets.proofs.HistoryLemmas.{All-insert, AreRenewed-insert, AreRenewed-same, history_more, history_skip}
use Rattle.step_sets.proofs.TreeLemmas.{child_inside}
use Rattle.step_sets.proofs.history.record_children.Goals as goal
use Rattle.step_sets.proofs.history.record_children.Goals.{then-is_history+in_ok-nodes+in_ok-insert+in-Some-1, then-is_history+in_ok-nodes+in_ok-insert+in-None-1, else-is_history}

pub is_history-requires : goal.is_history-requires
is_history-requires c =
    let nodes = c.args.tree.now in
    let xs = c.as_slice-child-items.result.now in
    let node = get_or xs c.loop-child.child-index 0 in
    let set : IsSetOf (λ n. IsChild nodes n c.args.parent) xs = rw c.as_slice-child-items.ensures.value c.in_ok-children.ensures in
    child_inside nodes node c.args.parent ((set.exact node).0 (Contains-get_or xs c.loop-child.child-index 0 c.loop-child-test.true))

pub loop-child-preserved : goal.loop-child-preserved
loop-child-preserved c =
    let nodes = c.args.tree.now in
    let active = c.args.active.now in
    let old = c.args.records.now.entries in
    let now = c.loop-child.records.entries in
    let xs = c.as_slice-child-items.result.now in
    let i = c.loop-child.child-index in
    let node = get_or xs i 0 in
    let set : IsSetOf (λ n. IsChild nodes n c.args.parent) xs = rw c.as_slice-child-items.ensures.value c.in_ok-children.ensures in
    let inside = child_inside nodes node c.args.parent ((set.exact node).0 (Contains-get_or xs i 0 c.loop-child-test.true)) in
    let P : (ℕ × List ℕ) → Type 0 = λ r. (r.0 < length nodes) × AreNodes nodes r.1 in
    elim c.if-is_history.branch [
      | then-is_history+in_ok-nodes+in_ok-insert+in-Some-1 w ↦
          rw (w.records-is, w.in_ok-insert.ensures.entries)
          record {
            renewed = AreRenewed-insert nodes active old now node w.in_ok-nodes.nodes (history_more nodes xs i c.loop-child-test.true (c.is_history.ensures.0 w.if-is_history.true)) w.in_ok-nodes.ensures.nodes c.loop-child.invariant.renewed;
            named = All-insert P now node w.in_ok-nodes.nodes (inside, w.in_ok-nodes.ensures.of_tree) c.loop-child.invariant.named;
          }
      | then-is_history+in_ok-nodes+in_ok-insert+in-None-1 w ↦
          rw (w.records-is, w.in_ok-insert.ensures.entries)
          record {
            renewed = AreRenewed-insert nodes active old now node w.in_ok-nodes.nodes (history_more nodes xs i c.loop-child-test.true (c.is_history.ensures.0 w.if-is_history.true)) w.in_ok-nodes.ensures.nodes c.loop-child.invariant.renewed;
            named = All-insert P now node w.in_ok-nodes.nodes (inside, w.in_ok-nodes.ensures.of_tree) c.loop-child.invariant.named;
          }
      | else-is_history w ↦
          rw w.records-is
          record {
            renewed = AreRenewed-same nodes active old now (history_skip nodes xs i c.loop-child-test.true (λ h. let yes = c.is_history.ensures.1 h in let off = w.if-is_history.false in cc)) c.loop-child.invariant.renewed;
            named = c.loop-child.invariant.named;
          }
    ]

pub returns-clause-records : goal.returns-clause-records
returns-clause-records c =
    let nodes = c.args.tree.now in
    let xs = c.as_slice-child-items.result.now in
    let set : IsSetOf (λ n. IsChild nodes n c.args.parent) xs = rw c.as_slice-child-items.ensures.value c.in_ok-children.ensures in
    AreRenewed-same nodes c.args.active.now c.args.records.now.entries c.loop-child.records.entries
    (λ h. rw (take_all c.loop-child.child-index xs c.loop-child-test.false) (
      (λ (is, child). (is, (set.exact h).1 child)),
      (λ (is, has). (is, (set.exact h).0 has)),
    ))
    c.loop-child.invariant.renewed
