use Rattle.std.proofs.Common.{sym, ◌∙◌}
use Rattle.std.specs.Prelude.{Some, None}
use Rattle.node_tree.specs.Targets.{target_keys}
use Rattle.node_tree.proofs.TargetLemmas.{down-none, down-step, down-last, child_of_inside}
use Rattle.node_tree.proofs.outline.Outline.down.Goals as goal

pub returns-in_err-at-clause-led : goal.returns-in_err-at-clause-led
returns-in_err-at-clause-led c =
    c.from_residual.ensures
    ∙ sym (down-none c.args.self.now (target_keys c.in-Some.others.now))
    ∙ sym (down-step c.args.self.now c.loop-key.at c.loop-key.rest.now c.in-Some.key.now c.in-Some.others.now None c.in-Some.ensures.some c.in_err-at.ensures.child)
    ∙ c.loop-key.invariant.leads

pub loop-key-preserved : goal.loop-key-preserved
loop-key-preserved c = record {
  inside = child_of_inside c.args.self.now c.loop-key.at c.in_ok-at.at c.in-Some.key.now (sym c.in_ok-at.ensures.child);
  leads =
      sym (down-step c.args.self.now c.loop-key.at c.loop-key.rest.now c.in-Some.key.now c.in-Some.others.now (Some c.in_ok-at.at) c.in-Some.ensures.some c.in_ok-at.ensures.child)
      ∙ c.loop-key.invariant.leads;
}

pub returns-clause-led : goal.returns-clause-led
returns-clause-led c = c.child-2.ensures.child ∙ sym (down-last c.args.self.now c.loop-key.at c.loop-key.rest.now c.in_default.ensures.none) ∙ c.loop-key.invariant.leads
