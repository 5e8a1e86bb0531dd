use Rattle.std.proofs.Common.{sym, ◌∙◌}
use Rattle.flat_core.proofs.LineLemmas.{begins, IsUtf8-number, IsNumber-parsed, no_number}
use Rattle.flat_core.proofs.request_line.read_number.Goals as goal

pub returns-then-not-begins_number : goal.returns-then-not-begins_number
returns-then-not-begins_number c = λ number is.
    let begun = begins c.args.bytes.now number is in
    cc (begun, c.begins_number.ensures, c.if-not-begins_number.true)

pub returns-in_default : goal.returns-in_default
returns-in_default c = λ number is. c.in_default.ensures.cases.0 (IsUtf8-number c.args.bytes.now number is)

pub returns-in_default-parse : goal.returns-in_default-parse
returns-in_default-parse c = λ number is. no_number c.args.bytes.now c.in-Ok.digits.now number c.parse.result _ c.parse.ensures.value.0 c.in_default-parse.is c.in-Ok.ensures.cases.0 is

pub returns : goal.returns
returns c = IsNumber-parsed c.args.bytes.now c.in-Ok.digits.now c.in-Ok-parse.number c.parse.result c.parse.ensures.value.0 c.in-Ok-parse.is c.in-Ok.ensures.cases.0 (sym c.begins_number.ensures ∙ c.if-not-begins_number.false)
