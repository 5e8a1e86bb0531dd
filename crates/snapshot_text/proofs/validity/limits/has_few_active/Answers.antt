use Rattle.std.proofs.Common.{true, ◌≡◌, ◌∙◌, arith, ap, sym}
use Rattle.office_types.specs.Records.{is_active}
use Rattle.snapshot_text.proofs.ListLemmas.{one_passes_more}
use Rattle.snapshot_text.proofs.validity.limits.has_few_active.Goals as goal

pub returns-then-left-eq0 : goal.returns-then-left-eq0
returns-then-left-eq0 c = (
  (λ yes. absurd cc),
  (λ few. absurd (
      let passes : is_active c.actor-item.result ≡ true = sym c.is_active.ensures ∙ c.if-is_active.true in
      let more = one_passes_more is_active c.args.actors.now c.loop-actor.actor-index c.actor-item.result (omega arith) (ap is_active (sym c.actor-item.is) ∙ passes) in
      omega arith)),
)
