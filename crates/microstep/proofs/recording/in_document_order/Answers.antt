use Rattle.std.proofs.Common.{◌≡◌, ◌∙◌, [], ◌++◌, ap, sym}
use Rattle.std.proofs.lemmas.List.{append-nil}
use Rattle.std.proofs.lemmas.Map.Keys.{IsStrictlyIncreasing-from_sorted}
use Rattle.step_sets.specs.History.{history_nodes}
use Rattle.step_sets.proofs.HistoryLemmas.{none_left}
use Rattle.microstep.proofs.recording.in_document_order.Goals as goal

pub returns-clause-rising : goal.returns-clause-rising
returns-clause-rising c =
    let list = c.loop-record.list.items in
    let none : c.loop-record.records.entries ≡ [] = none_left c.loop-record.records.entries (λ some. let has = c.in_default.ensures.variant.1 some in cc) in
    let all : list ≡ c.args.records.entries = sym (append-nil list) ∙ (ap (λ x. list ++ x) (sym none) ∙ c.loop-record.invariant) in
    rw (c.from_vec.ensures, all) (IsStrictlyIncreasing-from_sorted (history_nodes c.args.records.entries) c.len-records.ensures.ordered)
