use Rattle.std.proofs.Common.{◌≡◌, ◌∙◌, Some, ap, append_assoc}
use Rattle.std.specs.Prelude.{string_bytes}
use Rattle.flat_core.specs.Office.{first_ready}
use Rattle.office_run.specs.Replies.{step_line}
use Rattle.office_run.proofs.ReplyLemmas.{if_ok}
use Rattle.office_run.proofs.replies.take_turn.Goals as goal

pub returns-clause-text : goal.returns-clause-text
returns-clause-text c =
    if_ok c.format.result _ (λ text. string_bytes text ≡ step_line (first_ready c.args.core.now.office))
    (λ text h. h ∙ (let told : _ ≡ step_line (Some c.in-Some.claim) = simp append_assoc in told) ∙ ap step_line c.in-Some.ensures) c.format.ensures.ok
