use Rattle.std.proofs.Common.{◌≡◌, ◌+◌, length, min, take, sum_by}
use Rattle.xs_model.specs.Compact.{compact_text, keyed_text}
use Rattle.xs_model.proofs.size.+text_len.Given as goal

abbrev pub invariant-loop-member : goal.invariant-loop-member
invariant-loop-member l = l.len ≡ min (1 + sum_by (λ member. length (compact_text member) + 1) (take l.member-index l.member-items)) 18446744073709551615

abbrev pub invariant-loop-key : goal.invariant-loop-key
invariant-loop-key l = l.len ≡ min (1 + sum_by (λ member. length (keyed_text member) + 1) (take l.key-index l.key-items)) 18446744073709551615
