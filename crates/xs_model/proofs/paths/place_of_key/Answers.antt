use Rattle.std.proofs.Common.{◌≡◌, length, get_or, arith, inl, inr, sym, ◌∙◌}
use Rattle.xs_model.proofs.PathLemmas.{no_place-empty, no_place-plus, no_place-zero, parsed, first_is, no_first}
use Rattle.xs_model.proofs.paths.place_of_key.Goals as goal
use Rattle.xs_model.proofs.paths.place_of_key.Goals.{then-first-eq43-via-then-first-eq43, then-first-eq43-via-else-first-eq43+then-key-gt1, then-first-eq48, else-first-eq48}

pub returns-in_err-first : goal.returns-in_err-first
returns-in_err-first c =
    let none = no_first c.as_bytes.result.now c.in_err-first.ensures.value in
    rw c.from_residual.ensures (no_place-empty c.args.key.now (rw (← c.as_bytes.ensures.value) none))

pub returns-then-first-eq43 : goal.returns-then-first-eq43
returns-then-first-eq43 c =
    let first = first_is c.args.key.now c.in_ok-first.field-0.now (rw (← c.as_bytes.ensures.value) c.in_ok-first.ensures.value) in
    elim c.then-first-eq43.branch [
      | then-first-eq43-via-then-first-eq43 w ↦ no_place-plus c.args.key.now first.1 (first.0 ∙ w.if-first-eq43.true)
      | then-first-eq43-via-else-first-eq43+then-key-gt1 w ↦ no_place-zero c.args.key.now (first.0 ∙ w.if-key-gt1.true.0) w.if-key-gt1.true.1
    ]

pub returns : goal.returns
returns c =
    let first = first_is c.args.key.now c.in_ok-first.field-0.now (rw (← c.as_bytes.ensures.value) c.in_ok-first.ensures.value) in
    let alone : get_or c.args.key.now 0 0 ≡ 48 → length c.args.key.now ≡ 1 = λ zero. elim c.if-key-gt1.either [
      | inl h ↦ omega (arith, h.1, first.1)
      | inr h ↦ absurd (h (sym first.0 ∙ zero))
    ] in
    rw c.ok.ensures.value (parsed c.args.key.now c.parse.result c.parse.ensures.value.0 (λ plus. c.if-first-eq43.false (sym first.0 ∙ plus)) alone)
