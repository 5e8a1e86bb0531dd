use Rattle.std.proofs.Common.{refl, subst, sym}
use Rattle.std.proofs.lemmas.List.Elements.{recursion_from_All}
use Rattle.step_sets.specs.Statechart.{IsFitRecord}
use Rattle.snapshot_text.proofs.ListLemmas.{more_in, whole_in}
use Rattle.snapshot_text.proofs.RecordLemmas.{Entry, looked_up, rising_found}
use Rattle.snapshot_text.proofs.validity.histories.is_recorded_history.Goals as goal

pub returns-then-not-branch : goal.returns-then-not-branch
returns-then-not-branch c = (
  (λ holds. absurd cc),
  (λ recorded. absurd (
      let entry = c.loop-node-item.result in
      let found = rising_found c.args.history.now recorded.in_order c.loop-node.node-index entry c.loop-node-test.true in
      let P : Entry → Type 0 = λ e. IsFitRecord c.args.tree.now e.0 e.1 in
      let fit = subst P (sym c.loop-node-item.is) (recorded.fit _ _ found) in
      let good = c.in_ok-is_fit_record.ensures.1 (rw c.as_slice.ensures fit) in
      let bad = c.if-not-branch.true in
      cc)),
)

pub loop-node-preserved : goal.loop-node-preserved
loop-node-preserved c =
    more_in (λ (e : Entry). IsFitRecord c.args.tree.now e.0 e.1) c.args.history.now c.args.history.now refl c.loop-node.node-index c.loop-node-item.result c.loop-node-test.true c.loop-node-item.is c.loop-node.invariant
    (rw c.as_slice.ensures at (c.in_ok-is_fit_record.ensures.0 c.if-not-branch.false))

pub returns : goal.returns
returns c = (
  (λ holds. record {
    in_order = c.do_history_nodes_rise.ensures.0 c.if-not-do_history_nodes_rise.false;
    fit = looked_up (λ h list. IsFitRecord c.args.tree.now h list) c.args.history.now
        (recursion_from_All (λ (e : Entry). IsFitRecord c.args.tree.now e.0 e.1) c.args.history.now
        (whole_in (λ (e : Entry). IsFitRecord c.args.tree.now e.0 e.1) c.args.history.now c.args.history.now refl c.loop-node.node-index c.loop-node-test.false c.loop-node.invariant));
  }),
  (λ recorded. refl),
)
