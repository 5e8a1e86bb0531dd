use Rattle.std.proofs.Common.{List, subst}
use Rattle.ordered_json.specs.declared.json.OrderedJson.{OrderedJson}
use Rattle.ordered_json.specs.Words.{MemberParts}
use Rattle.action_table.specs.declared.role.TableRole.TheVariants as role
use Rattle.action_table.specs.Shapes.{members_in}
use Rattle.action_table.specs.TableMeaning.{MeansAction}
use Rattle.action_table.proofs.TableLemmas.{turn-more}
use Rattle.action_table.proofs.actions.each_form.Goals as goal

pub loop-item-preserved : goal.loop-item-preserved
loop-item-preserved c =
    turn-more (λ (part : OrderedJson). MeansAction (members_in role.Form part)) c.args.items.now c.loop-item.item-index c.item-item.result c.loop-item.forms.items _ c.in_ok-form.form
    c.loop-item-test.true c.item-item.is c.loop-item.invariant
    (subst (λ (ms : List MemberParts). MeansAction ms c.in_ok-form.form) c.members_of.ensures c.in_ok-form.ensures) c.in_ok-push.ensures.items
