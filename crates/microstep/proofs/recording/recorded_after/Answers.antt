use Rattle.std.proofs.Common.{◌≡◌, ◌∙◌, [], length, arith, sym}
use Rattle.std.proofs.lemmas.Bool.{eqb-true}
use Rattle.step_sets.proofs.HistoryLemmas.{if_ok_both, none_left}
use Rattle.microstep.proofs.ExitLemmas.{if-ok}
use Rattle.microstep.proofs.RecordingLemmas.{both-put, new-beside-old, none-named, nothing-new}
use Rattle.microstep.proofs.recording.recorded_after.Goals as goal

pub record_history-requires-clause-old : goal.record_history-requires-clause-old
record_history-requires-clause-old c = rw c.new-nothing.ensures (none-named c.args.tree.now)

pub returns-then-is_empty-clause-history : goal.returns-then-is_empty-clause-history
returns-then-is_empty-clause-history c =
    let new = c.in_ok-new.new in
    let empty : length new ≡ 0 = eqb-true (length new) 0 (sym c.is_empty.ensures ∙ c.if-is_empty.true) in
    nothing-new c.args.tree.now c.args.active.now c.args.left.now c.args.old new c.requires.in_order (none_left new (λ some. omega (arith, some, empty)))
    (rw c.new-nothing.ensures at c.in_ok-new.ensures.history)

pub returns-clause-history : goal.returns-clause-history
returns-clause-history c =
    let none : c.new-records.result.entries ≡ [] = none_left c.new-records.result.entries (λ some. let len = c.new-records.ensures.len in omega (arith, some, len)) in
    if_ok_both c.in_document_order.result c.in_document_order.ensures.records c.in_document_order.ensures.rising
    (λ all same rising. new-beside-old c.args.tree.now c.args.active.now c.args.left.now c.args.old c.in_ok-new.new all rising
    (both-put c.args.old c.in_ok-new.new _ _ _ all none c.in_ok-put_all.ensures.records c.in_ok-put_all-2.ensures.records same)
    (rw c.new-nothing.ensures at c.in_ok-new.ensures.history))

pub returns-clause-of_tree : goal.returns-clause-of_tree
returns-clause-of_tree c =
    let nodes = c.args.tree.now in
    let none : c.new-records.result.entries ≡ [] = none_left c.new-records.result.entries (λ some. let len = c.new-records.ensures.len in omega (arith, some, len)) in
    if-ok c.in_document_order.result
    (λ all same. rw same (c.in_ok-put_all-2.ensures.of_tree nodes c.in_ok-new.ensures.of_tree
    (c.in_ok-put_all.ensures.of_tree nodes c.requires.old (rw none (none-named nodes)))))
    c.in_document_order.ensures.records
