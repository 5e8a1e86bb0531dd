-- A line that is too long is of no form, and the buffer holds any other whole.
use Rattle.std.proofs.Common.{◌≡◌, ℕ, ◌^◌, ◌<◌, ◌≤◌, List, [], ◌∷◌, length, ap, ◌∙◌, arith}
use Rattle.std.specs.Prelude.{decimal, codes}
use Rattle.std.proofs.lemmas.Fmt.{length-decimal-le}
use Rattle.std.proofs.lemmas.List.{take_all}
use Rattle.flat_core.specs.declared.request_line.TheConstants.{MAX_LINE}
use Rattle.flat_core.specs.RequestLine.{spaced_text}
use Rattle.office_run.specs.declared.line_buffer.LineBuffer.{LineBuffer}
use Rattle.office_run.specs.declared.script.Line.{Line}
use Rattle.office_run.specs.declared.script.Line.TheVariants.{Request, Turn, Value, Malformed}
use Rattle.office_run.specs.LineBuffer.{Holds}
use Rattle.office_run.specs.Script.{IsForm}

value_short : (bytes : List ℕ) (actor : ℕ) → actor < 2 ^ 64 → bytes ≡ spaced_text (codes "value" ∷ decimal actor ∷ []) → length bytes ≤ 26
value_short bytes actor small spelled =
    omega (arith, length-decimal-le 20 actor (omega arith) (omega arith) small, ap length spelled)

pub long-no_form : (bytes : List ℕ) → MAX_LINE < length bytes → (line : Line) → IsForm bytes line → ⊥
long-no_form bytes long (Request request) form = omega (arith, form.short)
long-no_form bytes long Turn form = omega (arith, ap length form)
long-no_form bytes long (Value actor) form = omega (arith, value_short bytes actor form.0 form.1)
long-no_form bytes long Malformed form = form

pub holds-short : (buffer : LineBuffer) (bytes : List ℕ) → Holds buffer bytes → buffer.len ≤ MAX_LINE → buffer.bytes.items ≡ bytes
holds-short buffer bytes holds short = holds.bytes ∙ take_all MAX_LINE bytes (omega (arith, holds.len, short))
