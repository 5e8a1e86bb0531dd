use Rattle.std.proofs.Common.{◌≡◌, None, ◌∙◌, ap}
use Rattle.std.specs.String.{string_bytes}
use Rattle.xs_model.specs.Names.{named_values}
use Rattle.xs_model.specs.Rising.{get}
use Rattle.xs_model.proofs.NameLemmas.{insert-named_values}
use Rattle.xs_model.proofs.names.Names.put_last.Goals as goal
use Rattle.xs_model.proofs.names.Names.put_last.Goals.{in-Ok-insert, in-Err}

pub returns-clause-ok : goal.returns-clause-ok
returns-clause-ok g c =
    let entries = c.self.inside.values.entries in
    let is_key : (string_bytes c.in-Ok.name) ≡ c.args.key = c.in-Ok.ensures.ok ∙ c.as_str.ensures in
    let absent : get (string_bytes c.in-Ok.name) (named_values entries) ≡ None = rw (is_key, c.self.view_is) c.requires in
    elim c.match-insert.branch [
      | in-Ok-insert w ↦ rw (w.result-is, ← c.self.view_is, ← is_key) (ap named_values w.in-Ok-insert.ensures.entries ∙ insert-named_values entries c.in-Ok.name c.args.value absent)
      | in-Err w ↦ rw w.result-is tt
    ]
