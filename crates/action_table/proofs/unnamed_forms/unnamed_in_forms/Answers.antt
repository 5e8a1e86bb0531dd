use Rattle.std.proofs.Common.{◌∙◌}
use Rattle.action_table.specs.Uses.{uses_of_form}
use Rattle.action_table.proofs.UseLemmas.{unnamed-more, unnamed-all}
use Rattle.action_table.proofs.unnamed_forms.unnamed_in_forms.Goals as goal

pub loop-form-preserved : goal.loop-form-preserved
loop-form-preserved c =
    c.least_of-least.ensures
    ∙ unnamed-more c.args.ids.now c.args.table.now uses_of_form c.args.forms.now c.loop-form.form-index c.form-item.result c.loop-form.least c.unnamed_in_form.result c.loop-form-test.true c.form-item.is c.loop-form.invariant
    c.unnamed_in_form.ensures

pub returns : goal.returns
returns c = unnamed-all c.args.ids.now c.args.table.now uses_of_form c.args.forms.now c.loop-form.form-index c.loop-form.least c.loop-form-test.false c.loop-form.invariant
