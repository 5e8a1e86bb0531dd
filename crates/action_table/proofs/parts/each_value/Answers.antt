use Rattle.machine_json.specs.Expressions.{MeansExpr}
use Rattle.action_table.proofs.TableLemmas.{under-more}
use Rattle.action_table.proofs.parts.each_value.Goals as goal

pub loop-member-preserved : goal.loop-member-preserved
loop-member-preserved c =
    under-more MeansExpr c.args.members.now c.loop-member.member-index c.member-item.result c.loop-member.values.items _ c.in_ok-key.key c.in_ok-value.value
    c.loop-member-test.true c.member-item.is c.loop-member.invariant c.in_ok-key.ensures c.in_ok-value.ensures c.in_ok-push.ensures.items
