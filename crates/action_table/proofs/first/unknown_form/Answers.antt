use Rattle.std.proofs.Common.{sym, ap, ◌∙◌, Some}
use Rattle.machine_json.specs.declared.expressions.FormFault.{FormFault}
use Rattle.action_table.proofs.FirstLemmas.{read-none, read-unknown}
use Rattle.action_table.proofs.first.unknown_form.Goals as goal

pub returns-in-None : goal.returns-in-None
returns-in-None c = read-none c.args.json.now c.read_form.result c.read_form.ensures (sym c.err.ensures.value ∙ c.in-None.is)

pub returns-in-Some-Unknown : goal.returns-in-Some-Unknown
returns-in-Some-Unknown c =
    read-unknown c.args.json.now c.read_form.result c.in-Some-Unknown.place c.read_form.ensures
    (sym c.err.ensures.value ∙ c.in-Some-Unknown.is ∙ ap (λ (f : FormFault). Some f) c.in-Some-Unknown.field-0-is)
