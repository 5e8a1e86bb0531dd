use Rattle.std.proofs.Common.{List, inl, map, subst, sym}
use Rattle.node_tree.specs.declared.node.Node.{Node}
use Rattle.node_tree.specs.Nodes.{HaveNewIds}
use Rattle.machine_json.specs.Nodes.{node_parts}
use Rattle.machine_json.proofs.DefaultLemmas.{ids_new}
use Rattle.machine_json.proofs.reading.machine_of.Goals as goal

pub tree_of-requires-clause-ids : goal.tree_of-requires-clause-ids
tree_of-requires-clause-ids c =
    let nodes = map node_parts c.args.nodes.now in
    subst (λ (rows : List Node). HaveNewIds rows) (sym c.requires.outline)
    (ids_new nodes (λ fault is. c.requires.second_pass fault (nodes, c.requires.nodes, inl is)))
