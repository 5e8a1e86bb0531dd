use Rattle.std.proofs.Common.{◌<◌, length, ap, ◌∙◌}
use Rattle.node_tree.specs.Nodes.{child_of}
use Rattle.node_tree.specs.Tables.{node_named}
use Rattle.std.proofs.Common.{◌&&◌}
use Rattle.std.specs.Prelude.{Some, nat_eq}
use Rattle.std.specs.Option.{option_eq}
use Rattle.std.specs.Str.{bytes_eq}
use Rattle.node_tree.proofs.PlaceLemmas.{found_inside}
use Rattle.node_tree.proofs.outline.Outline.child.Goals as goal

pub returns-clause-child : goal.returns-clause-child
returns-clause-child c =
    let inside : c.args.n < length c.self.inside.nodes.items = rw c.self.view_is c.requires in
    c.copied.ensures ∙ c.get.ensures.value ∙ ap (λ names. node_named names c.args.key.now) c.index.ensures
    ∙ c.self.invariant.by_key.keys c.args.n c.index.result.now c.args.key.now inside
    ∙ ap (λ nodes. child_of nodes c.args.n c.args.key.now) c.self.view_is

pub returns-clause-inside : goal.returns-clause-inside
returns-clause-inside c =
    found_inside (λ node. option_eq nat_eq node.parent (Some c.args.n) && bytes_eq node.key c.args.key.now) c.args.self.now c.copied.result (returns-clause-child c)
