use Rattle.std.proofs.Common.{◌≡◌, ◌∙◌, append_assoc}
use Rattle.std.specs.Prelude.{string_bytes}
use Rattle.flat_core.specs.Shown.{shown_as}
use Rattle.office_run.specs.Replies.{value_line}
use Rattle.office_run.proofs.ReplyLemmas.{if_ok}
use Rattle.office_run.proofs.replies.value_line.Goals as goal

pub returns-in-Never : goal.returns-in-Never
returns-in-Never c =
    let is = c.in-Never.is in
    if_ok c.format.result _ (λ text. string_bytes text ≡ value_line c.args.actor (shown_as c.args.value)) (λ text h. h ∙ rw is (simp append_assoc)) c.format.ensures.ok

pub returns-in-Waiting : goal.returns-in-Waiting
returns-in-Waiting c =
    let is = c.in-Waiting.is in
    if_ok c.format-in-Waiting.result _ (λ text. string_bytes text ≡ value_line c.args.actor (shown_as c.args.value)) (λ text h. h ∙ rw is (simp append_assoc)) c.format-in-Waiting.ensures.ok

pub returns-in_ok-key-in-Key : goal.returns-in_ok-key-in-Key
returns-in_ok-key-in-Key c =
    let is = c.in-Key.is in
    let q = c.in_ok-key-in-Key.ensures in
    if_ok c.format-in-Key.result _ (λ text. string_bytes text ≡ value_line c.args.actor (shown_as c.args.value)) (λ text h. h ∙ rw is (simp (append_assoc, q))) c.format-in-Key.ensures.ok
