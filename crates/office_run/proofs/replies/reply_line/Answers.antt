use Rattle.std.proofs.Common.{◌≡◌, ◌∙◌, append_assoc}
use Rattle.std.specs.Prelude.{string_bytes}
use Rattle.office_run.specs.Replies.{reply_line}
use Rattle.office_run.proofs.ReplyLemmas.{if_ok}
use Rattle.office_run.proofs.replies.reply_line.Goals as goal

pub returns : goal.returns
returns c =
    if_ok c.format.result _ (λ text. string_bytes text ≡ reply_line c.args.request.now c.args.reply)
    (λ text h. h ∙ simp (append_assoc, c.as_str-caller.ensures, c.word_text-word.ensures)) c.format.ensures.ok
