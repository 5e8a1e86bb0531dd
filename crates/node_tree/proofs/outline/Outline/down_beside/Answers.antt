use Rattle.std.proofs.Common.{sym, ◌∙◌, ap}
use Rattle.node_tree.specs.Targets.{down, target_keys}
use Rattle.node_tree.proofs.TargetLemmas.{down-none}
use Rattle.node_tree.proofs.outline.Outline.down_beside.Goals as goal

pub returns-in-None-clause-led : goal.returns-in-None-clause-led
returns-in-None-clause-led c = sym (ap (λ from. down c.args.self.now from (target_keys c.args.keys.now)) (sym c.in-None.ensures.parent) ∙ down-none c.args.self.now (target_keys c.args.keys.now))
