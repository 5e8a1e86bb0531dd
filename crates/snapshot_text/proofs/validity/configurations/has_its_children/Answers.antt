use Rattle.std.proofs.Common.{◌≡◌, ◌∙◌, ◌↔◌, IsTrue, Some, ap}
use Rattle.std.specs.List.{All, Contains}
use Rattle.std.specs.Option.{option_map}
use Rattle.node_tree.specs.declared.node.Kind.TheVariants.{Parallel}
use Rattle.node_tree.specs.declared.node.Node.{Node}
use Rattle.node_tree.specs.Kinds.{kind_of}
use Rattle.snapshot_text.proofs.ConfigurationLemmas.{children_parallel}
use Rattle.snapshot_text.proofs.validity.configurations.has_its_children.Goals as goal

pub returns-in_ok-regions-in-Parallel : goal.returns-in_ok-regions-in-Parallel
returns-in_ok-regions-in-Parallel c =
    let kind : kind_of c.args.tree.now c.args.node ≡ Some Parallel = ap (option_map (λ (node : Node). node.kind)) c.node.ensures ∙ ap Some c.in-Parallel.is in
    let list = c.in_ok-regions-in-Parallel.field-0.items in
    let tells : IsTrue c.are_among.result ↔ All (Contains c.args.nodes.now) list = rw (← c.deref.ensures.value) c.are_among.ensures in
    children_parallel c.args.tree.now c.args.nodes.now list c.args.node kind c.in_ok-regions-in-Parallel.ensures c.are_among.result tells
