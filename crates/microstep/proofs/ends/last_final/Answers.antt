use Rattle.std.proofs.Common.{◌∙◌, sym, rules, tests}
use Rattle.std.proofs.lemmas.Iterator.{YieldsList-from_slice}
use Rattle.std.proofs.lemmas.Iterator.Consumers.{YieldsList-from_copied}
use Rattle.std.proofs.lemmas.Iterator.Search.{find_from_yields_List}
use Rattle.microstep.specs.Micro.{is_final_below_root}
use Rattle.microstep.proofs.EndLemmas.{option-same}
use Rattle.microstep.proofs.ends.last_final.Goals as goal

pub returns-in-Compound : goal.returns-in-Compound
returns-in-Compound c =
    rw (c.node.ensures, c.in-Compound.is)
    (sym (option-same c.find.result)
    ∙ find_from_yields_List (is_final_below_root c.args.tree.now) _ _ c.find.result c.find.ensures.ran (YieldsList-from_copied (YieldsList-from_slice c.args.configuration.now cc)) (λ x b q k. search (rules, tests)))
