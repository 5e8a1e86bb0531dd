use Rattle.std.proofs.Common.{sym, ◌∙◌}
use Rattle.macrostep.proofs.OutcomeLemmas.{unhandled_by}
use Rattle.macrostep.proofs.completion.is_unhandled.Goals as goal

pub returns : goal.returns
returns c =
    unhandled_by c.args.def.now c.args.own.now c.args.event.now c.in_ok-picked.picked.taken c.is_empty.result
    (sym c.is_child_error.ensures ∙ c.if-not-is_child_error.false) c.in_ok-picked.ensures.selected.1 c.is_empty.ensures
