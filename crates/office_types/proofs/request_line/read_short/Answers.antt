use Rattle.std.proofs.Common.{sym, ◌∙◌}
use Rattle.office_types.specs.LineParts.{IsShortText}
use Rattle.office_types.proofs.RequestLemmas.{handed_on, no_value, not_short}
use Rattle.office_types.proofs.request_line.read_short.Goals as goal

pub returns-in_err-value : goal.returns-in_err-value
returns-in_err-value c = handed_on (IsShortText c.args.bytes.now) c.from_residual.result _ c.from_residual.ensures.1 (no_value c.args.bytes.now c.in_err-value.field-0.0 c.in_err-value.ensures.refused)

pub returns-then-not-is_short : goal.returns-then-not-is_short
returns-then-not-is_short c = not_short c.meaning_is_unique.ensures c.args.bytes.now c.in_ok-value.value c.in_ok-value.ensures.ok (sym c.is_short.ensures ∙ c.if-not-is_short.true)
