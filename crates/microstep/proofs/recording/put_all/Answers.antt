use Rattle.std.proofs.Common.{arith}
use Rattle.step_sets.proofs.HistoryLemmas.{none_left}
use Rattle.microstep.proofs.RecordingLemmas.{all-put, put-more, put-start}
use Rattle.microstep.proofs.recording.put_all.Goals as goal

pub loop-record-init : goal.loop-record-init
loop-record-init c = put-start c.args.history c.args.records.now.entries c.into_vec-rest.result.items c.into_vec-rest.ensures

pub loop-record-preserved-in_ok-insert : goal.loop-record-preserved-in_ok-insert
loop-record-preserved-in_ok-insert c =
    put-more c.args.history c.args.records.now.entries c.loop-record.rest.items c.pop.new.self.items c.loop-record.records.entries c.insert.new.self.entries c.in-Some.record
    c.in-Some.ensures.items c.in_ok-insert.ensures.entries c.loop-record.invariant

pub loop-record-preserved : goal.loop-record-preserved
loop-record-preserved c =
    put-more c.args.history c.args.records.now.entries c.loop-record.rest.items c.pop.new.self.items c.loop-record.records.entries c.insert.new.self.entries c.in-Some.record
    c.in-Some.ensures.items c.in_ok-insert.ensures.entries c.loop-record.invariant

pub returns-clause-records : goal.returns-clause-records
returns-clause-records c =
    let cases = c.in_default.ensures.cases in
    all-put c.args.history c.args.records.now.entries c.loop-record.rest.items c.loop-record.records.entries
    (none_left c.loop-record.rest.items (λ some. omega (arith, some, cases.0))) c.loop-record.invariant

pub returns-clause-of_tree : goal.returns-clause-of_tree
returns-clause-of_tree c = λ nodes a b. (c.loop-record.invariant.named nodes a b).1
