use Rattle.std.proofs.Common.{rules}
use Rattle.xs_model.proofs.SizeLemmas.{length-escape_byte}
use Rattle.xs_model.proofs.size.escaped_len.Goals as goal

pub returns-then-has_short_escape : goal.returns-then-has_short_escape
returns-then-has_short_escape c = search (rules, length-escape_byte)

pub returns-then-byte-lt32 : goal.returns-then-byte-lt32
returns-then-byte-lt32 c = search (rules, length-escape_byte)

pub returns-else-byte-lt32 : goal.returns-else-byte-lt32
returns-else-byte-lt32 c = search (rules, length-escape_byte)
