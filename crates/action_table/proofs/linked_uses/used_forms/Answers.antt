use Rattle.action_table.specs.Linking.{linked_use}
use Rattle.action_table.proofs.ThereLemmas.{there-all, there-more}
use Rattle.action_table.proofs.linked_uses.used_forms.Goals as goal

pub loop-form-preserved : goal.loop-form-preserved
loop-form-preserved c =
    rw c.in_ok-push.ensures.items
    (there-more (linked_use c.args.table.now c.args.params.now) c.args.forms.now c.loop-form.form-index c.form-item.result c.loop-form.uses.items
    c.in_ok-one.one c.loop-form-test.true c.form-item.is c.loop-form.invariant c.in_ok-one.ensures)

pub returns : goal.returns
returns c = there-all (linked_use c.args.table.now c.args.params.now) c.args.forms.now c.loop-form.form-index c.loop-form.uses.items c.loop-form-test.false c.loop-form.invariant
