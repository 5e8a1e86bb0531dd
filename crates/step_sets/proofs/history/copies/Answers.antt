use Rattle.std.proofs.Common.{◌≡◌, ◌∙◌, ◌+◌, ◌-◌, ◌<◌, length, arith}
use Rattle.step_sets.specs.History.{RecordsNodes}
use Rattle.step_sets.proofs.HistoryLemmas.{copied_back}
use Rattle.step_sets.proofs.history.copies.Goals as goal

pub loop-i-preserved-in_ok-insert : goal.loop-i-preserved-in_ok-insert
loop-i-preserved-in_ok-insert c =
    let i = c.loop-i.i in
    let list = c.as_slice-list.result.now in
    let first = c.loop-i-test.true in
    let within = c.loop-i.auto.i in
    let next : (i - 1) + 1 ≡ i = omega arith in
    let inside : i - 1 < length list = omega arith in
    let named : RecordsNodes c.args.tree.now list = rw c.as_slice-list.ensures c.requires in
    let back = copied_back c.args.tree.now list c.loop-i.records.entries c.insert.new.self.entries i (i - 1) c.index-list-i.result c.from_vec.result next inside c.index-list-i.is (c.from_vec.ensures ∙ (c.in_ok-nodes.ensures.items ∙ c.as_slice.ensures)) c.in_ok-insert.ensures.entries named c.loop-i.invariant.same c.loop-i.invariant.named in
    record { same = back.0; named = back.1 }

pub loop-i-preserved : goal.loop-i-preserved
loop-i-preserved c =
    let i = c.loop-i.i in
    let list = c.as_slice-list.result.now in
    let first = c.loop-i-test.true in
    let within = c.loop-i.auto.i in
    let next : (i - 1) + 1 ≡ i = omega arith in
    let inside : i - 1 < length list = omega arith in
    let named : RecordsNodes c.args.tree.now list = rw c.as_slice-list.ensures c.requires in
    let back = copied_back c.args.tree.now list c.loop-i.records.entries c.insert.new.self.entries i (i - 1) c.index-list-i.result c.from_vec.result next inside c.index-list-i.is (c.from_vec.ensures ∙ (c.in_ok-nodes.ensures.items ∙ c.as_slice.ensures)) c.in_ok-insert.ensures.entries named c.loop-i.invariant.same c.loop-i.invariant.named in
    record { same = back.0; named = back.1 }
