use Rattle.std.proofs.Common.{◌≡◌, length, min, ◌+◌, take, sum_by}
use Rattle.json.specs.Print.{escape_byte}
use Rattle.xs_model.proofs.size.quoted_len.Given as goal

abbrev pub invariant-loop-byte : goal.invariant-loop-byte
invariant-loop-byte l = l.len ≡ min (2 + sum_by (λ b. length (escape_byte b)) (take l.byte-index l.text)) 18446744073709551615
