use Rattle.std.proofs.Common.{◌<◌, List, ℕ, subst, sym, ◌∙◌, arith}
use Rattle.std.proofs.lemmas.Bool.{false≢true}
use Rattle.flat_core.specs.declared.request_line.TheConstants.{MAX_LINE}
use Rattle.office_run.specs.LineBuffer.{Holds}
use Rattle.office_run.specs.Script.{IsLine}
use Rattle.office_run.proofs.LineLemmas.{long-no_form, holds-short}
use Rattle.office_run.proofs.ReplyLemmas.{if_ok}
use Rattle.office_run.proofs.program.read_buffer.Goals as goal

pub returns-then-is_long : goal.returns-then-is_long
returns-then-is_long c = λ bytes holds line form.
    let long : MAX_LINE < c.args.buffer.now.len = c.is_long.ensures.0 c.if-is_long.true in
    long-no_form bytes (omega (arith, holds.len, long)) line form

pub returns : goal.returns
returns c =
    let short : MAX_LINE < c.args.buffer.now.len → ⊥ = λ long. false≢true (sym c.if-is_long.false ∙ c.is_long.ensures.1 long) in
    if_ok c.read_line.result _ (λ line. (bytes : List ℕ) → Holds c.args.buffer.now bytes → IsLine bytes line)
    (λ line is bytes holds. let whole = holds-short c.args.buffer.now bytes holds (omega (arith, short)) in subst (λ (b : List ℕ). IsLine b line) (c.as_slice.ensures.value ∙ whole) is)
    c.read_line.ensures
