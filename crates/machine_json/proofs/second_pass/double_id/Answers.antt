use Rattle.std.proofs.Common.{◌∙◌, ap, sym}
use Rattle.node_tree.specs.Nodes.{id_at}
use Rattle.machine_json.specs.Nodes.{node_parts}
use Rattle.machine_json.proofs.SecondLemmas.{id_is_new, id_is_old, is_found, is_not_found}
use Rattle.machine_json.proofs.second_pass.double_id.Goals as goal

pub returns-then-eq : goal.returns-then-eq
returns-then-eq c =
    id_is_new c.args.outline.now c.args.n c.node.result.now (node_parts c.args.node.now) c.node.ensures c.by_id-first.result
    (c.by_id-first.ensures.node ∙ ap (id_at c.args.outline.now) c.as_bytes.ensures)
    (is_found c.by_id-first.result c.args.n (sym c.eq.ensures ∙ c.if-eq.true))

pub returns-else-eq : goal.returns-else-eq
returns-else-eq c =
    rw c.id_place.ensures
    (id_is_old c.args.outline.now c.args.n c.node.result.now (node_parts c.args.node.now) c.node.ensures c.by_id-first.result
    (c.by_id-first.ensures.node ∙ ap (id_at c.args.outline.now) c.as_bytes.ensures)
    (is_not_found c.by_id-first.result c.args.n (sym c.eq.ensures ∙ c.if-eq.false)))
