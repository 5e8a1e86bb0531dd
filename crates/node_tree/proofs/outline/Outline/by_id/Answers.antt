use Rattle.std.proofs.Common.{◌∙◌, ap}
use Rattle.std.specs.Str.{bytes_eq}
use Rattle.node_tree.specs.Nodes.{id_at}
use Rattle.node_tree.proofs.PlaceLemmas.{found_inside}
use Rattle.node_tree.proofs.outline.Outline.by_id.Goals as goal

pub returns-clause-inside : goal.returns-clause-inside
returns-clause-inside c =
    found_inside (λ node. bytes_eq node.id c.args.id.now) c.args.self.now c.copied.result
    (c.copied.ensures ∙ c.get.ensures.value ∙ c.self.invariant.by_id c.args.id.now ∙ ap (λ nodes. id_at nodes c.args.id.now) c.self.view_is)
