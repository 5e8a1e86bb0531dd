use Rattle.office_types.specs.LineParts.{IsNumberedText, IsShortText, SpellsNumber}
use Rattle.office_types.proofs.RequestLemmas.{numbered_parts, refused_at}
use Rattle.office_types.proofs.request_line.read_numbered.Goals as goal

pub returns-in_err-number-2 : goal.returns-in_err-number-2
returns-in_err-number-2 c =
    refused_at (SpellsNumber c.in_ok-number.number.now) (IsNumberedText c.args.bytes.now) c.from_residual-in_err-number-2.result _ c.from_residual-in_err-number-2.ensures.1 c.in_err-number-2.ensures
    (λ pair is. (pair.0, (numbered_parts c.args.bytes.now c.in_ok-number.number.now c.in_ok-number.json.now c.in_ok-number.ensures pair is).0))

pub returns-in_err-value : goal.returns-in_err-value
returns-in_err-value c =
    refused_at (IsShortText c.in_ok-number.json.now) (IsNumberedText c.args.bytes.now) c.from_residual-in_err-value.result _ c.from_residual-in_err-value.ensures.1 c.in_err-value.ensures
    (λ pair is. (pair.1, (numbered_parts c.args.bytes.now c.in_ok-number.number.now c.in_ok-number.json.now c.in_ok-number.ensures pair is).1))
