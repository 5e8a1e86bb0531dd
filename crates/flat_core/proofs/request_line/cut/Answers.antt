use Rattle.std.proofs.Common.{refl, sym, ◌∙◌}
use Rattle.flat_core.proofs.LineLemmas.{spaceless_unfound, cut_found}
use Rattle.flat_core.proofs.request_line.cut.Goals as goal

pub returns-in_default : goal.returns-in_default
returns-in_default c = (refl, spaceless_unfound c.args.bytes.now (sym c.first_space.ensures ∙ c.in_default.is))

pub returns : goal.returns
returns c = cut_found c.args.bytes.now c.in-Some.place (sym c.first_space.ensures ∙ c.in-Some.is)
