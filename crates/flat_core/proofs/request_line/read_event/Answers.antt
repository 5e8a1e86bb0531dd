use Rattle.std.proofs.Common.{◌≡◌, true, false, sym, ◌∙◌, ap}
use Rattle.std.specs.Prelude.{Some, None}
use Rattle.flat_core.specs.RequestLine.{IsEvent, is_sendable}
use Rattle.flat_core.proofs.RequestLemmas.{event_is, no_event, handed_on}
use Rattle.flat_core.proofs.request_line.read_event.Goals as goal

pub returns-in_default : goal.returns-in_default
returns-in_default c = λ event is.
    let found = event_is c.meaning_is_unique.ensures c.args.bytes.now c.in_ok-json.json c.in_ok-json.ensures.ok event is in
    let none : None ≡ Some event = c.in_default.ensures ∙ found.0 in
    cc

pub returns-then-not-is_sendable : goal.returns-then-not-is_sendable
returns-then-not-is_sendable c = λ event is.
    let found = event_is c.meaning_is_unique.ensures c.args.bytes.now c.in_ok-json.json c.in_ok-json.ensures.ok event is in
    let both : Some c.in-Some.kind.now ≡ Some event = c.in-Some.ensures ∙ found.0 in
    let same : c.in-Some.kind.now ≡ event = cc in
    let sendable = ap is_sendable (c.as_bytes.ensures ∙ same) ∙ found.1 in
    let refused : true ≡ false = sym sendable ∙ sym c.is_sendable.ensures ∙ c.if-not-is_sendable.true in
    cc

pub returns-in_err-json : goal.returns-in_err-json
returns-in_err-json c = handed_on (IsEvent c.args.bytes.now) c.from_residual.result _ c.from_residual.ensures.1 (no_event c.args.bytes.now c.in_err-json.field-0.0 c.in_err-json.ensures.refused)
