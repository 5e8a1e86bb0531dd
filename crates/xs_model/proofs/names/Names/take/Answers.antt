use Rattle.std.proofs.Common.{◌∙◌, ap, sym}
use Rattle.xs_model.specs.Names.{named_values}
use Rattle.xs_model.proofs.NameLemmas.{get-named_values, get-no_text, remove-named_values, without-no_text}
use Rattle.xs_model.proofs.names.Names.take.Goals as goal

pub returns-in-Ok-clause-value : goal.returns-in-Ok-clause-value
returns-in-Ok-clause-value g c = rw (← c.self.view_is, ← c.in-Ok.ensures.cases.0) (c.shift_remove.ensures.value ∙ get-named_values _ c.self.inside.values.entries)

pub returns-in-Ok-clause-rest : goal.returns-in-Ok-clause-rest
returns-in-Ok-clause-rest g c = rw (← c.self.view_is, ← c.in-Ok.ensures.cases.0) (ap named_values c.shift_remove.ensures.entries ∙ remove-named_values _ c.self.inside.values.entries)

pub returns-in-Ok-clause-gone : goal.returns-in-Ok-clause-gone
returns-in-Ok-clause-gone g c = rw (← c.in-Ok.ensures.cases.0) (sym (get-named_values _ c.shift_remove.new.self.entries) ∙ c.shift_remove.ensures.updates.1)

pub returns-in-Err-clause-value : goal.returns-in-Err-clause-value
returns-in-Err-clause-value g c = rw (← c.self.view_is) (sym (get-no_text c.args.key.now c.in-Err.ensures.cases.0 c.self.inside.values.entries))

pub returns-in-Err-clause-rest : goal.returns-in-Err-clause-rest
returns-in-Err-clause-rest g c = rw (← c.self.view_is) (sym (without-no_text c.args.key.now c.in-Err.ensures.cases.0 c.self.inside.values.entries))

pub returns-in-Err-clause-gone : goal.returns-in-Err-clause-gone
returns-in-Err-clause-gone g c = rw (← c.self.view_is) (get-no_text c.args.key.now c.in-Err.ensures.cases.0 c.self.inside.values.entries)
