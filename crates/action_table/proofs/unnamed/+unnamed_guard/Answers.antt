use Rattle.std.proofs.Common.{sym, ap, ◌∙◌}
use Rattle.action_table.specs.Uses.{uses_of_guard}
use Rattle.std.specs.List.{flat_map}
use Rattle.action_table.specs.Unnamed.{least_unnamed}
use Rattle.action_table.proofs.UseLemmas.{unnamed-more, unnamed-all, uses-And, uses-Or}
use Rattle.action_table.proofs.unnamed.+unnamed_guard.Goals as goal

pub unnamed_in_guards-loop-guard-preserved : goal.unnamed_in_guards-loop-guard-preserved
unnamed_in_guards-loop-guard-preserved t c =
    c.least_of-least.ensures
    ∙ unnamed-more c.args.ids.now c.args.table.now uses_of_guard c.args.guards.now c.loop-guard.guard-index c.guard-item.result c.loop-guard.least c.unnamed_in_guard.result c.loop-guard-test.true c.guard-item.is c.loop-guard.invariant
    c.unnamed_in_guard.ensures

pub unnamed_in_guards-returns : goal.unnamed_in_guards-returns
unnamed_in_guards-returns t c = unnamed-all c.args.ids.now c.args.table.now uses_of_guard c.args.guards.now c.loop-guard.guard-index c.loop-guard.least c.loop-guard-test.false c.loop-guard.invariant

pub unnamed_in_guard-returns-in-And : goal.unnamed_in_guard-returns-in-And
unnamed_in_guard-returns-in-And t c =
    c.unnamed_in_guards.ensures ∙ ap (λ l. least_unnamed c.args.ids.now c.args.table.now (flat_map uses_of_guard l)) c.as_slice.ensures
    ∙ sym (ap (least_unnamed c.args.ids.now c.args.table.now) (ap uses_of_guard c.in-And.is ∙ uses-And c.in-And.parts))

pub unnamed_in_guard-returns-in-Or : goal.unnamed_in_guard-returns-in-Or
unnamed_in_guard-returns-in-Or t c =
    c.unnamed_in_guards-in-Or.ensures ∙ ap (λ l. least_unnamed c.args.ids.now c.args.table.now (flat_map uses_of_guard l)) c.as_slice-in-Or.ensures
    ∙ sym (ap (least_unnamed c.args.ids.now c.args.table.now) (ap uses_of_guard c.in-Or.is ∙ uses-Or c.in-Or.parts))
