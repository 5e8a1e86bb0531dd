use Rattle.std.proofs.Common.{ap, inl, inr}
use Rattle.office_types.specs.declared.outcome.Own.{Own}
use Rattle.snapshot_text.proofs.ListLemmas.{if_ok_weaker}
use Rattle.snapshot_text.proofs.validity.own_parts.is_own_part.Goals as goal

pub returns-then-own : goal.returns-then-own
returns-then-own c =
    if_ok_weaker c.has_begun.result c.has_begun.ensures
    (λ valid tells. (
      (λ holds. inr (tells.0 holds)),
      (λ part. tells.1 (elim part [
        | inl unbegun ↦ absurd (let e = ap (λ (own : Own). own.begun) unbegun in let begun = c.if-own.true in cc)
        | inr begun ↦ begun
      ])),
    ))

pub returns-else-own : goal.returns-else-own
returns-else-own c = (
  (λ holds. inl (c.is_unbegun.ensures.0 holds)),
  (λ part. c.is_unbegun.ensures.1 (elim part [
    | inl unbegun ↦ unbegun
    | inr begun ↦ absurd (let e = begun.begun in let other = c.if-own.false in cc)
  ])),
)
