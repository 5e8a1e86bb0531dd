use Rattle.std.proofs.Common.{◌≡◌, List, ℕ}
use Rattle.std.specs.Prelude.{string_bytes}
use Rattle.office_run.specs.declared.script.Line.{Line}
use Rattle.office_run.specs.LineBuffer.{Holds}
use Rattle.office_run.specs.Script.{IsLine}
use Rattle.office_run.specs.Replies.{answer_line, office_after}
use Rattle.office_run.proofs.ReplyLemmas.{if_ok_both}
use Rattle.office_run.proofs.program.answer_buffer.Goals as goal

pub returns-clause-answers : goal.returns-clause-answers
returns-clause-answers c =
    let core = c.args.core.now in
    if_ok_both c.answer_line.result _ _
    (λ text. (bytes : List ℕ) → Holds c.args.buffer.now bytes → (line : Line) × IsLine bytes line × (string_bytes text ≡ answer_line core.machines core.office line) × (c.answer_line.new.core.office ≡ office_after core.machines core.office line))
    (λ text told office bytes holds. (c.in_ok-line.line, c.in_ok-line.ensures bytes holds, told, office)) c.answer_line.ensures.text c.answer_line.ensures.office
