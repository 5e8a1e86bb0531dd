use Rattle.std.specs.Prelude.{codes}
use Rattle.office_types.proofs.EntryLemmas.{reads_decided, reads_no_entry, reads_step}
use Rattle.office_types.proofs.LineLemmas.{differs_from, same_as}
use Rattle.office_types.proofs.entry.read_entry.Goals as goal

pub returns-then-eq : goal.returns-then-eq
returns-then-eq c =
    let kind = c.in_ok-kind.kind.now in
    reads_decided c.args.payload.now kind c.in_ok-kind.rest.now c.in_ok-kind.ensures
    (same_as kind c.as_slice.result.now (codes "R") c.eq.result c.eq.ensures c.as_slice.ensures c.if-eq.true) c.read_decided.result c.read_decided.ensures

pub returns-then-eq-2 : goal.returns-then-eq-2
returns-then-eq-2 c =
    let kind = c.in_ok-kind.kind.now in
    reads_step c.args.payload.now kind c.in_ok-kind.rest.now c.in_ok-kind.ensures
    (same_as kind c.as_slice-2.result.now (codes "S") c.eq-2.result c.eq-2.ensures c.as_slice-2.ensures c.if-eq-2.true) c.read_step.result c.read_step.ensures

pub returns : goal.returns
returns c =
    let kind = c.in_ok-kind.kind.now in
    reads_no_entry c.args.payload.now kind c.in_ok-kind.rest.now c.in_ok-kind.ensures
    (differs_from kind c.as_slice.result.now (codes "R") c.eq.result c.eq.ensures c.as_slice.ensures c.if-eq.false)
    (differs_from kind c.as_slice-2.result.now (codes "S") c.eq-2.result c.eq-2.ensures c.as_slice-2.ensures c.if-eq-2.false)
