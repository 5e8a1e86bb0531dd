use Rattle.std.proofs.Common.{arith}
use Rattle.std.proofs.lemmas.List.{take_all}
use Rattle.xs_model.specs.Compact.{compact_text, keyed_text}
use Rattle.xs_model.proofs.CompactLemmas.{compact-List, compact-Map, length-bracketed_text}
use Rattle.xs_model.proofs.size.+text_len.Goals as goal

pub returns-after-loop-member : goal.returns-after-loop-member
returns-after-loop-member t c =
    let all = take_all c.loop-member.member-index c.as_slice-member-items.result.now (omega arith) in
    rw (c.max.ensures, c.loop-member.invariant, all, c.as_slice-member-items.ensures, c.in-List.is, compact-List, length-bracketed_text compact_text) (omega arith)

pub returns-after-loop-key : goal.returns-after-loop-key
returns-after-loop-key t c =
    let all = take_all c.loop-key.key-index c.as_slice-key-items.result.now (omega arith) in
    rw (c.max-in-Map.ensures, c.loop-key.invariant, all, c.as_slice-key-items.ensures.pairs, c.in-Map.is, compact-Map, length-bracketed_text keyed_text) (omega arith)
