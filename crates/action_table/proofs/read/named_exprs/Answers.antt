use Rattle.machine_json.specs.Expressions.{MeansExpr}
use Rattle.action_table.proofs.TableLemmas.{names-kept, names-more}
use Rattle.std.proofs.Common.{sym, ◌∙◌}
use Rattle.action_table.proofs.read.named_exprs.Goals as goal

pub loop-member-preserved-then-has_name : goal.loop-member-preserved-then-has_name
loop-member-preserved-then-has_name c =
    names-kept MeansExpr c.args.members.now c.loop-member.member-index c.member-item.result c.loop-member.names
    c.loop-member-test.true c.member-item.is c.loop-member.invariant (sym c.has_name.ensures ∙ c.if-has_name.true)

pub loop-member-preserved : goal.loop-member-preserved
loop-member-preserved c =
    names-more MeansExpr c.args.members.now c.loop-member.member-index c.member-item.result c.loop-member.names c.put_name.new.names c.in_ok-expr.expr
    c.loop-member-test.true c.member-item.is c.loop-member.invariant (sym c.has_name.ensures ∙ c.if-has_name.false) c.in_ok-expr.ensures c.in_ok-put_name.ensures
