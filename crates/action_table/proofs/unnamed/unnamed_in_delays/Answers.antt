use Rattle.std.proofs.Common.{◌∙◌}
use Rattle.action_table.specs.Uses.{uses_of_delay}
use Rattle.action_table.proofs.UseLemmas.{unnamed-more, unnamed-all}
use Rattle.action_table.proofs.unnamed.unnamed_in_delays.Goals as goal

pub loop-delay-preserved : goal.loop-delay-preserved
loop-delay-preserved c =
    c.least_of-least.ensures
    ∙ unnamed-more c.args.ids.now c.args.table.now uses_of_delay c.args.delays.now c.loop-delay.delay-index c.delay-item.result c.loop-delay.least c.unnamed_in_delay.result c.loop-delay-test.true c.delay-item.is c.loop-delay.invariant
    c.unnamed_in_delay.ensures

pub returns : goal.returns
returns c = unnamed-all c.args.ids.now c.args.table.now uses_of_delay c.args.delays.now c.loop-delay.delay-index c.loop-delay.least c.loop-delay-test.false c.loop-delay.invariant
