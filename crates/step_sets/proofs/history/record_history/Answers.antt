use Rattle.std.proofs.Common.{◌≡◌, ◌∙◌, List, ℕ, get_or, sym, subst, take}
use Rattle.std.proofs.lemmas.List.{take_all}
use Rattle.step_sets.specs.Goals.{History}
use Rattle.step_sets.specs.History.{AreRenewed, Departure, IsRecordedNow}
use Rattle.step_sets.proofs.HistoryLemmas.{AreRenewed-then, decide_history_child, if_ok_both, recorded_more, renewed_all}
use Rattle.step_sets.proofs.history.record_history.Goals as goal

pub loop-parent-preserved : goal.loop-parent-preserved
loop-parent-preserved c =
    let nodes = c.args.tree.now in
    let exits = c.as_slice-parent-items.result.now in
    let i = c.loop-parent.parent-index in
    record {
      renewed = AreRenewed-then nodes c.args.active.now c.args.old.now c.loop-parent.records.entries c.record_children.new.records.entries (decide_history_child nodes (get_or exits i 0)) (λ h. recorded_more nodes exits i h c.loop-parent-test.true) c.loop-parent.invariant.renewed c.in_ok-record_children.ensures.records;
      named = c.in_ok-record_children.ensures.of_tree;
    }

pub returns-clause-history : goal.returns-clause-history
returns-clause-history c =
    let nodes = c.args.tree.now in
    let departure : Departure = record { active = c.args.active.now; exits = c.args.exits.now; recorded = c.args.old.now } in
    let exits = c.as_slice-parent-items.result.now in
    let all : take c.loop-parent.parent-index exits ≡ c.args.exits.now = take_all c.loop-parent.parent-index exits c.loop-parent-test.false ∙ c.as_slice-parent-items.ensures.nodes in
    let P : List ℕ → Type 0 = λ xs. AreRenewed nodes c.args.active.now (IsRecordedNow nodes xs) c.args.old.now c.loop-parent.records.entries in
    let renewed = subst P all c.loop-parent.invariant.renewed in
    if_ok_both c.in_document_order.result c.in_document_order.ensures.records c.in_document_order.ensures.rising
    (λ new same rising. let Q : History → Type 0 = λ x. AreRenewed nodes c.args.active.now (IsRecordedNow nodes c.args.exits.now) c.args.old.now x in
    renewed_all nodes departure new rising (subst Q (sym same) renewed))
