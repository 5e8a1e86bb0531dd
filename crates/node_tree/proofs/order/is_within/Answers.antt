use Rattle.std.proofs.Common.{◌<◌, ◌+◌, length, arith, inl, inr, ◌∙◌}
use Rattle.node_tree.specs.Nodes.{IsChild, child}
use Rattle.node_tree.proofs.TreeLemmas.{read_parent, root_is_below_none, above_first, within-trans, within-parent}
use Rattle.node_tree.proofs.order.is_within.Goals as goal

pub returns-in_default : goal.returns-in_default
returns-in_default c =
    let inside : c.loop-at.at < length c.args.nodes.now = let first = c.loop-at.invariant.inside in omega (arith, c.requires.inside) in (
      (λ never. cc),
      (λ within. elim (c.loop-at.invariant.kept within) [
        | inl same ↦ absurd (c.loop-at-test.true same)
        | inr below ↦ absurd (root_is_below_none c.args.nodes.now c.loop-at.at c.args.high (read_parent c.args.nodes.now c.loop-at.at _ inside ∙ c.in_default.is) below)
      ]),
    )

climbs : (c : goal.In-Some) → IsChild c.args.nodes.now c.loop-at.at c.in-Some.parent
climbs c =
    let inside : c.loop-at.at < length c.args.nodes.now = let first = c.loop-at.invariant.inside in omega (arith, c.requires.inside) in
    read_parent c.args.nodes.now c.loop-at.at _ inside ∙ c.in-Some.is

pub loop-at-smaller : goal.loop-at-smaller
loop-at-smaller c =
    above_first c.args.nodes.now (c.args.low + 1) c.requires.earlier c.loop-at.at c.in-Some.parent (let first = c.loop-at.invariant.inside in omega arith) (child c.loop-at.at c.in-Some.parent (climbs c))

pub loop-at-preserved : goal.loop-at-preserved
loop-at-preserved c = record {
  inside = let first = c.loop-at.invariant.inside in let less = loop-at-smaller c in omega arith;
  reached = within-trans c.args.nodes.now c.args.low c.loop-at.at c.in-Some.parent c.loop-at.invariant.reached (inr (child c.loop-at.at c.in-Some.parent (climbs c)));
  kept = λ within. elim (c.loop-at.invariant.kept within) [
    | inl same ↦ absurd (c.loop-at-test.true same)
    | inr below ↦ within-parent c.args.nodes.now c.loop-at.at c.in-Some.parent c.args.high (climbs c) below
  ];
}
