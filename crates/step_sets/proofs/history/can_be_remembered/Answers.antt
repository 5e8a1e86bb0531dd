use Rattle.std.proofs.Common.{◌≡◌, Some, ap, ◌∙◌}
use Rattle.std.specs.Option.{option_map}
use Rattle.node_tree.specs.declared.node.Kind.TheVariants.{Shallow, Deep}
use Rattle.node_tree.specs.declared.node.Node.{Node}
use Rattle.node_tree.specs.Kinds.{kind_of}
use Rattle.step_sets.proofs.RememberedLemmas.{tells_child, tells_leaf}
use Rattle.step_sets.proofs.history.can_be_remembered.Goals as goal

pub returns-in-Shallow : goal.returns-in-Shallow
returns-in-Shallow c =
    let shallow : kind_of c.args.tree.now c.args.history ≡ Some (Shallow c.in-Shallow.default) = ap (option_map (λ (x : Node). x.kind)) c.node.ensures ∙ ap Some c.in-Shallow.is in
    tells_child c.args.tree.now c.args.history c.args.parent c.requires.child c.in-Shallow.default shallow c.args.node c.is_child.result c.is_child.ensures

pub returns-in-Deep : goal.returns-in-Deep
returns-in-Deep c =
    let deep : kind_of c.args.tree.now c.args.history ≡ Some (Deep c.in-Deep.default) = ap (option_map (λ (x : Node). x.kind)) c.node.ensures ∙ ap Some c.in-Deep.is in
    tells_leaf c.args.tree.now c.args.history c.args.parent c.requires.child c.in-Deep.default deep c.args.node c.is_leaf.result c.requires.below c.is_leaf.ensures
