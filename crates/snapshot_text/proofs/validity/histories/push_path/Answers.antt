use Rattle.std.proofs.Common.{◌↔◌, ◌⊎◌, ℕ, inl, inr, refl, sym, subst, arith}
use Rattle.std.specs.List.{Contains}
use Rattle.node_tree.specs.Nodes.{IsChild, IsWithin}
use Rattle.step_sets.proofs.TreeLemmas.{above_child, above_parent, below_inside, within_parent}
use Rattle.snapshot_text.proofs.ConfigurationLemmas.{within_upto}
use Rattle.snapshot_text.proofs.FitLemmas.{path_more, path_start}
use Rattle.snapshot_text.proofs.validity.histories.push_path.Goals as goal

pub loop-node-init : goal.loop-node-init
loop-node-init c = record {
  low = inl refl;
  top = inr c.requires;
  same = path_start c.args.tree.now c.len-count.ensures.tree (λ n. Contains c.args.nodes.now.items n) c.args.low c.args.nodes.now.items c.push.new.self.items (λ n. ((λ x. x), (λ x. x))) c.in_ok-push.ensures.items;
}

pub parent-requires : goal.parent-requires
parent-requires c =
    let le = within_upto c.args.tree.now c.len-count.ensures.tree c.args.low c.loop-node.node c.loop-node.invariant.low in
    let inside = below_inside c.args.tree.now c.args.low c.args.top c.requires in
    omega arith

pub returns-in_default : goal.returns-in_default
returns-in_default c = absurd (elim c.loop-node.invariant.top [
  | inl same ↦ c.loop-node-test.true same
  | inr below ↦ (let (p, is, _) = above_child c.args.tree.now c.loop-node.node c.args.top below in let none = c.in_default.ensures.parent in cc)
])

pub loop-node-preserved : goal.loop-node-preserved
loop-node-preserved c =
    let nodes = c.args.tree.now in
    let tree = c.len-count.ensures.tree in
    let is : IsChild nodes c.loop-node.node c.in-Some.parent = sym c.in-Some.ensures.parent in
    record {
      low = inr (within_parent nodes c.args.low c.loop-node.node c.in-Some.parent c.loop-node.invariant.low is);
      top = elim c.loop-node.invariant.top [
        | inl same ↦ absurd (c.loop-node-test.true same)
        | inr below ↦ above_parent nodes c.loop-node.node c.in-Some.parent c.args.top is below
      ];
      same = path_more nodes tree (λ n. Contains c.args.nodes.now.items n) c.args.low c.loop-node.nodes.items _ c.loop-node.node c.in-Some.parent c.loop-node.invariant.low is c.loop-node.invariant.same c.in_ok-push-2.ensures.items;
    }

pub returns : goal.returns
returns c =
    let P : ℕ → Type 0 = λ x. (n : ℕ) → Contains c.loop-node.nodes.items n ↔ (Contains c.args.nodes.now.items n ⊎ (IsWithin c.args.tree.now c.args.low n × IsWithin c.args.tree.now n x)) in
    subst P c.loop-node-test.false c.loop-node.invariant.same
