use Rattle.std.proofs.Common.{◌∙◌, sym}
use Rattle.xs_model.proofs.NameLemmas.{place-named_values, place-no_text}
use Rattle.xs_model.proofs.names.Names.place_of.Goals as goal

pub returns-in-Ok : goal.returns-in-Ok
returns-in-Ok g c = rw (← c.self.view_is, ← c.in-Ok.ensures.cases.0) (c.get_index_of.ensures.index ∙ place-named_values _ c.self.inside.values.entries)

pub returns-in-Err : goal.returns-in-Err
returns-in-Err g c = rw (← c.self.view_is) (sym (place-no_text c.args.key.now c.in-Err.ensures.cases.0 c.self.inside.values.entries))
