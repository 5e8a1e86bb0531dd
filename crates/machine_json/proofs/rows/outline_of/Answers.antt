use Rattle.std.proofs.Common.{◌∙◌, ◌<◌, ◌^◌, List, ap, length, map, subst, sym}
use Rattle.std.specs.Prelude.{Err}
use Rattle.node_tree.specs.declared.node.Node.{Node}
use Rattle.node_tree.specs.Nodes.{IsFirstMisplaced}
use Rattle.machine_json.specs.Nodes.{node_parts}
use Rattle.machine_json.specs.Rows.{open_rows}
use Rattle.machine_json.proofs.OutlineLemmas.{earlier_parents, is_outline}
use Rattle.machine_json.proofs.rows.outline_of.Goals as goal

pub open_rows-requires : goal.open_rows-requires
open_rows-requires c = earlier_parents (map node_parts c.args.nodes.now) c.requires

pub build-requires-clause-few : goal.build-requires-clause-few
build-requires-clause-few c =
    let outline = is_outline (map node_parts c.args.nodes.now) c.requires in
    subst (λ (rows : List Node). length rows < 2 ^ 32) (sym c.in_ok-rows.ensures) outline.few

pub unreachable-requires : goal.unreachable-requires
unreachable-requires c =
    let outline = is_outline (map node_parts c.args.nodes.now) c.requires in
    let n = c.in-Err-NoNode.field-0-0 in
    let misplaced = (c.build.ensures.no_node n).0 (c.in-Err-NoNode.is ∙ ap Err c.in-Err-NoNode.field-0-is) in
    let first : IsFirstMisplaced (open_rows (map node_parts c.args.nodes.now)) n = subst (λ (rows : List Node). IsFirstMisplaced rows n) c.in_ok-rows.ensures misplaced in
    first.broken (outline.rows n first.inside)
