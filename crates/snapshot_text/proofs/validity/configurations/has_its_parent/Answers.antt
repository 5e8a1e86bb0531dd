use Rattle.std.proofs.Common.{◌≡◌, ◌∙◌, Some, ap, sym}
use Rattle.std.specs.Option.{option_map}
use Rattle.node_tree.specs.declared.node.Kind.TheVariants.{Compound}
use Rattle.node_tree.specs.declared.node.Node.{Node}
use Rattle.node_tree.specs.Kinds.{kind_of}
use Rattle.snapshot_text.proofs.ConfigurationLemmas.{parent_compound, parent_other}
use Rattle.snapshot_text.proofs.validity.configurations.has_its_parent.Goals as goal

pub returns-in-Compound : goal.returns-in-Compound
returns-in-Compound c =
    let kind : kind_of c.args.tree.now c.in-Some.parent ≡ Some (Compound c.in-Compound.initial) = ap (option_map (λ (node : Node). node.kind)) c.node.ensures ∙ ap Some c.in-Compound.is in
    parent_compound c.args.tree.now c.args.nodes.now c.args.top c.args.node c.in-Some.parent c.if-node-top.false (sym c.in-Some.ensures.parent) c.is_next.result c.in-Compound.initial kind c.is_next.ensures

pub returns-in_default-kind : goal.returns-in_default-kind
returns-in_default-kind c =
    parent_other c.args.tree.now c.args.nodes.now c.args.top c.args.node c.in-Some.parent c.if-node-top.false (sym c.in-Some.ensures.parent) c.has.result
    (λ initial kind. c.in_default-kind.not-Compound initial (let e : Some c.node.result.now.kind ≡ Some (Compound initial) = ap (option_map (λ (node : Node). node.kind)) (sym c.node.ensures) ∙ kind in cc)) c.has.ensures
