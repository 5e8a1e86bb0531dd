use Rattle.std.proofs.Common.{◌∙◌}
use Rattle.action_table.specs.Uses.{uses_of_transition}
use Rattle.action_table.proofs.UseLemmas.{unnamed-more, unnamed-all}
use Rattle.action_table.proofs.unnamed.unnamed_in_transitions.Goals as goal

pub loop-transition-preserved : goal.loop-transition-preserved
loop-transition-preserved c =
    c.least_of-least.ensures
    ∙ unnamed-more c.args.ids.now c.args.table.now uses_of_transition c.args.transitions.now c.loop-transition.transition-index c.transition-item.result c.loop-transition.least c.unnamed_in_transition.result c.loop-transition-test.true c.transition-item.is c.loop-transition.invariant
    c.unnamed_in_transition.ensures

pub returns : goal.returns
returns c = unnamed-all c.args.ids.now c.args.table.now uses_of_transition c.args.transitions.now c.loop-transition.transition-index c.loop-transition.least c.loop-transition-test.false c.loop-transition.invariant
