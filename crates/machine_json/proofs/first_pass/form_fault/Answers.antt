use Rattle.std.proofs.Common.{Some, ap, sym, ◌∙◌}
use Rattle.machine_json.proofs.OwnLemmas.{reading_refused, reading_taken}
use Rattle.machine_json.proofs.first_pass.form_fault.Goals as goal

pub returns-in-None : goal.returns-in-None
returns-in-None c =
    reading_taken c.args.json.now c.read_expr.result c.read_expr.ensures (sym c.err.ensures.value ∙ c.in-None.is)

pub returns-in-Some-BadKind : goal.returns-in-Some-BadKind
returns-in-Some-BadKind c =
    reading_refused c.args.json.now c.read_expr.result c.in-Some-BadKind.place c.read_expr.ensures
    (sym c.err.ensures.value ∙ c.in-Some-BadKind.is ∙ ap Some c.in-Some-BadKind.field-0-is)
