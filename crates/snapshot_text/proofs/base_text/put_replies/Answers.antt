use Rattle.std.proofs.Common.{refl}
use Rattle.std.specs.Prelude.{codes}
use Rattle.snapshot_text.specs.BaseText.{reply_data}
use Rattle.snapshot_text.proofs.TokenLemmas.{keyed_list_written, on_ok}
use Rattle.snapshot_text.proofs.base_text.put_replies.Goals as goal

pub returns-clause-tokens : goal.returns-clause-tokens
returns-clause-tokens c =
    on_ok c.end_array.result
    (λ ended. keyed_list_written reply_data (codes "replies") c.args.replies.now c.args.replies.now c.loop-reply.reply-index c.args.writer.now.tokens c.loop-reply.writer.tokens c.end_array.new.self.tokens
    ended c.loop-reply.invariant.1 refl c.loop-reply-test.false)
    c.end_array.ensures.ok
