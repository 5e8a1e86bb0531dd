use Rattle.std.proofs.Common.{not, ap}
use Rattle.std.specs.Prelude.{codes}
use Rattle.flat_core.specs.LineParts.{IsNameText, IsStart}
use Rattle.flat_core.proofs.LineLemmas.{IsCut-unique, differs_from, not_of, same_as}
use Rattle.flat_core.proofs.RequestLemmas.{start_cut, start_from, start_name, reads_as}
use Rattle.flat_core.proofs.request_line.read_start.Goals as goal

pub returns-then-ne : goal.returns-then-ne
returns-then-ne c = λ machine is.
    let same = IsCut-unique c.args.bytes.now c.in_ok-machine.machine.now c.in_ok-machine.rest.now machine (codes "- null") c.in_ok-machine.ensures (start_cut c.args.bytes.now machine is) in
    differs_from c.in_ok-machine.rest.now c.as_slice.result.now (codes "- null") (not c.ne.result) (not_of _ _ c.ne.ensures) c.as_slice.ensures (ap not c.if-ne.true) same.1

pub returns : goal.returns
returns c =
    let null = same_as c.in_ok-machine.rest.now c.as_slice.result.now (codes "- null") (not c.ne.result) (not_of _ _ c.ne.ensures) c.as_slice.ensures (ap not c.if-ne.false) in
    reads_as (IsNameText c.in_ok-machine.machine.now) (IsStart c.args.bytes.now) c.read_name.result c.read_name.ensures
    (λ machine is. start_from c.args.bytes.now c.in_ok-machine.machine.now c.in_ok-machine.rest.now machine c.in_ok-machine.ensures null is)
    (λ machine is. start_name c.args.bytes.now c.in_ok-machine.machine.now c.in_ok-machine.rest.now machine c.in_ok-machine.ensures is)
