use Rattle.std.proofs.Common.{◌≡◌, ◌<◌, List, length, refl, sym, ap, ◌∙◌}
use Rattle.std.specs.Prelude.{Some, slice_get, slice_set}
use Rattle.std.proofs.lemmas.Option.{slice_get_read}
use Rattle.node_tree.specs.declared.node.Node.{Node}
use Rattle.node_tree.specs.Kinds.{IsHistory, with_default_at}
use Rattle.node_tree.proofs.DefaultLemmas.{SameLinks, same_links, default_set, default_outline, ends-along, ids-along, children-along, repeated-along, history_inside}
use Rattle.node_tree.proofs.outline.Outline.set_default.Goals as goal

read : (c : goal.After-self-1) → slice_get c.self.inside.nodes.items c.args.history ≡ Some c.index_mut-row.result.now
read c =
    let history : IsHistory c.self.inside.nodes.items c.args.history = rw c.self.view_is c.requires.history in
    slice_get_read c.self.inside.nodes.items (length c.self.inside.nodes.items) c.args.history c.index_mut-row.result.now refl (history_inside c.self.inside.nodes.items c.args.history history) c.index_mut-row.ensures.value

pub invariant_of-self : goal.invariant_of-self
invariant_of-self c =
    let nodes : List Node = c.self.inside.nodes.items in
    let node : Node = c.index_mut-row.result.now in
    let new : List Node = slice_set nodes c.args.history (record node { kind = c.with_default-row.result }) in
    let same : SameLinks nodes new = same_links nodes c.args.history node c.with_default-row.result c.index_mut-row.ensures.value in
    let history : IsHistory nodes c.args.history = rw c.self.view_is c.requires.history in
    let inside : c.args.node < length nodes = rw c.self.view_is c.requires.node in
    record {
      rows = default_outline nodes c.args.history c.args.node node c.with_default-row.result c.index_mut-row.ensures.value (read c) c.with_default-row.ensures history inside c.self.invariant.rows;
      ends_len = c.self.invariant.ends_len ∙ sym same.len;
      below = ends-along nodes new c.self.inside.ends.items same c.self.invariant.below;
      by_id = ids-along nodes new c.self.inside.ids same c.self.invariant.by_id;
      repeated = repeated-along nodes new c.self.inside.repeated same c.self.invariant.repeated;
      by_key = children-along nodes new c.self.inside.children.items same c.self.invariant.by_key;
    }

pub returns : goal.returns
returns c =
    default_set c.self.inside.nodes.items c.args.history c.args.node c.index_mut-row.result.now c.with_default-row.result c.index_mut-row.ensures.value (read c) c.with_default-row.ensures
    ∙ ap (λ nodes. with_default_at nodes c.args.history c.args.node) c.self.view_is
