use Rattle.std.proofs.Common.{sym, ◌∙◌}
use Rattle.action_table.specs.Uses.{Use, uses_of_action}
use Rattle.action_table.proofs.UseLemmas.{one-use, unnamed-more, unnamed-all}
use Rattle.action_table.proofs.unnamed.unnamed_in_actions.Goals as goal

pub loop-one-preserved : goal.loop-one-preserved
loop-one-preserved c =
    c.least_of-least.ensures
    ∙ unnamed-more c.args.ids.now c.args.table.now uses_of_action c.args.used.now c.loop-one.one-index c.one-item.result c.loop-one.least c.place_unless_held.result c.loop-one-test.true c.one-item.is c.loop-one.invariant
    (c.place_unless_held.ensures ∙ sym (one-use c.args.ids.now c.args.table.now (Use.OfAction c.one-item.result.action)))

pub returns : goal.returns
returns c = unnamed-all c.args.ids.now c.args.table.now uses_of_action c.args.used.now c.loop-one.one-index c.loop-one.least c.loop-one-test.false c.loop-one.invariant
