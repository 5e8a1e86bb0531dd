use Rattle.microstep.proofs.UnionLemmas.{behind}
use Rattle.microstep.proofs.node_sets.union.Goals as goal

pub returns-then-stands_before : goal.returns-then-stands_before
returns-then-stands_before c =
    let before = rw c.deref.ensures.value at c.stands_before.ensures c.if-stands_before.true in
    rw c.in_ok-extend_from_slice.ensures.items (behind c.args.all.items c.args.more.now c.requires.all c.requires.more before)

pub returns : goal.returns
returns c = rw c.deref-2.ensures.value at c.merge.ensures
