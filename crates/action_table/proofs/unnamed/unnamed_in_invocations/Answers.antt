use Rattle.std.proofs.Common.{sym, ◌∙◌}
use Rattle.action_table.specs.Uses.{Use, uses_of_invocation}
use Rattle.action_table.proofs.UseLemmas.{one-use, unnamed-more, unnamed-all}
use Rattle.action_table.proofs.unnamed.unnamed_in_invocations.Goals as goal

pub loop-invocation-preserved : goal.loop-invocation-preserved
loop-invocation-preserved c =
    c.least_of-least.ensures
    ∙ unnamed-more c.args.ids.now c.args.table.now uses_of_invocation c.args.invocations.now c.loop-invocation.invocation-index c.invocation-item.result c.loop-invocation.least c.place_unless_listed.result c.loop-invocation-test.true c.invocation-item.is c.loop-invocation.invariant
    (c.place_unless_listed.ensures ∙ sym (one-use c.args.ids.now c.args.table.now (Use.OfActor c.invocation-item.result.src)))

pub returns : goal.returns
returns c = unnamed-all c.args.ids.now c.args.table.now uses_of_invocation c.args.invocations.now c.loop-invocation.invocation-index c.loop-invocation.least c.loop-invocation-test.false c.loop-invocation.invariant
