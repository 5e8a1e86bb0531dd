use Rattle.std.proofs.Common.{◌≡◌, ◌⊎◌, ◌<◌, inl, inr, take, drop, arith, length-drop, refl}
use Rattle.std.proofs.lemmas.List.{length-take-le}
use Rattle.gate_journal.specs.declared.parts.TheConstants.{MAX_RECORD}
use Rattle.gate_journal.proofs.TextLemmas.{size_first, record_first}
use Rattle.gate_journal.proofs.parts.next_record.Goals as goal
use Rattle.gate_journal.proofs.parts.next_record.Goals.{then-size-eq0-via-then-size-eq0, then-size-eq0-via-else-size-eq0+then-size-gt-MAX_RECORD}

pub returns-then-size-eq0 : goal.returns-then-size-eq0
returns-then-size-eq0 c =
    let size = c.number_of_4-size.result in
    let wrong : (size ≡ 0) ⊎ (MAX_RECORD < size) = elim c.then-size-eq0.branch [
      | then-size-eq0-via-then-size-eq0 w ↦ inl w.if-size-eq0.true
      | then-size-eq0-via-else-size-eq0+then-size-gt-MAX_RECORD w ↦ inr (omega arith)
    ] in
    let whole = size_first c.args.text.now size (omega arith) (omega arith) c.number_of_4-size.ensures in
    (_, whole, (size, drop 5 c.args.text.now, c.number_of_4-size.type_inv, refl, wrong))

pub returns : goal.returns
returns c =
    let text = c.args.text.now in
    let size = c.number_of_4-size.result in
    let fits = length-take-le size (drop 5 text) (omega (arith, length-drop 5 text)) in
    let whole = record_first text size (omega arith) (omega arith) c.number_of_4-size.ensures fits in
    ((omega arith, omega arith), take size (drop 5 text), drop size (drop 5 text), fits, whole)
