use Rattle.std.proofs.Common.{ℕ, List, arith, inl, inr, sym}
use Rattle.std.specs.List.{All}
use Rattle.node_tree.specs.declared.node.Node.{Node}
use Rattle.node_tree.specs.Nodes.{IsChild, IsBelow}
use Rattle.step_sets.proofs.TreeLemmas.{within_parent, above_child, above_parent}
use Rattle.step_sets.proofs.transition_domain.innermost_ancestor.Goals as goal

-- each target is below the node
abbrev AllBelow : List Node → List ℕ → ℕ → Type 0
AllBelow nodes targets p = All (λ t. IsBelow nodes t p) targets

pub returns-then-all_below-clause-ancestor : goal.returns-then-all_below-clause-ancestor
returns-then-all_below-clause-ancestor c =
    let nodes = c.args.tree.now in
    let n = c.loop-above.node in
    let p = c.in-Some.above in
    let ch : IsChild nodes n p = sym c.in-Some.ensures.parent in (
      (within_parent nodes c.args.source n p c.loop-above.invariant.climbed ch, c.all_below.ensures.0 c.if-all_below.true),
      (λ b common. above_parent nodes n p b ch (c.loop-above.invariant.passed b common)),
    )

pub returns-clause-ancestor : goal.returns-clause-ancestor
returns-clause-ancestor c = λ a common.
    let nodes = c.args.tree.now in
    let n = c.loop-above.node in
    let (p, ch, within) = above_child nodes n a (c.loop-above.invariant.passed a common) in
    let no-parent = c.in_default.ensures.parent in
    cc

pub loop-above-preserved : goal.loop-above-preserved
loop-above-preserved c =
    let nodes = c.args.tree.now in
    let n = c.loop-above.node in
    let p = c.in-Some.above in
    let ch : IsChild nodes n p = sym c.in-Some.ensures.parent in
    record {
      inside = let before = c.in-Some.ensures.first in let here = c.loop-above.invariant.inside in omega arith;
      climbed = inr (within_parent nodes c.args.source n p c.loop-above.invariant.climbed ch);
      passed = λ a common. elim (above_parent nodes n p a ch (c.loop-above.invariant.passed a common)) [
        | inl e ↦ absurd (let all : AllBelow nodes c.args.targets.now p = rw e common.1 in let yes = c.all_below.ensures.1 all in let no-more = c.if-all_below.false in cc)
        | inr b ↦ b
      ];
    }
