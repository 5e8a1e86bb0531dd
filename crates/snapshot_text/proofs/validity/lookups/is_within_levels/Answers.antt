use Rattle.std.proofs.Common.{◌≡◌, ◌-◌, ◌∙◌, ℕ, sym, ap, arith}
use Rattle.office_types.specs.Effects.{is_within_levels}
use Rattle.snapshot_text.proofs.LookupLemmas.{level_up, no_level, top_level}
use Rattle.snapshot_text.proofs.validity.lookups.is_within_levels.Goals as goal

pub returns-in_default : goal.returns-in_default
returns-in_default c =
    sym (c.loop-left.invariant ∙ top_level c.args.state.now c.loop-left.left c.loop-left.number (omega arith) (sym c.in_default.ensures))

pub loop-left-preserved : goal.loop-left-preserved
loop-left-preserved c =
    c.loop-left.invariant ∙ level_up c.args.state.now c.loop-left.left (c.loop-left.left - 1) c.loop-left.number c.in-Some.parent (omega arith) (sym c.in-Some.ensures)

pub returns : goal.returns
returns c =
    let none : c.loop-left.left ≡ 0 = omega arith in
    sym (c.loop-left.invariant ∙ ap (λ (n : ℕ). is_within_levels c.args.state.now n c.loop-left.number) none ∙ no_level c.args.state.now c.loop-left.number)
