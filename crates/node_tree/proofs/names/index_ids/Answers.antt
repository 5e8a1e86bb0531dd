use Rattle.std.proofs.Common.{◌≡◌, ap, sym, ◌∙◌}
use Rattle.node_tree.specs.Tables.{node_named}
use Rattle.node_tree.specs.declared.node.Node.{Node}
use Rattle.node_tree.proofs.NameLemmas.{id_entered, repeats_next}
use Rattle.node_tree.proofs.names.index_ids.Goals as goal

pub loop-n-preserved : goal.loop-n-preserved
loop-n-preserved c =
    let name : c.as_bytes.result.now ≡ c.index-nodes-n.result.id = c.as_bytes.ensures ∙ ap (λ (x : Node). x.id) (sym c.index-nodes-n.is) in
    let there = sym (c.loop-n.invariant.entered c.index-nodes-n.result.id) ∙ ap (node_named c.loop-n.ids) (sym name) ∙ sym c.in_ok-before.ensures.before in
    record {
      entered = id_entered c.args.nodes.now c.loop-n.n c.index-nodes-n.result c.as_bytes.result.now (node_named c.loop-n.ids) (node_named c.enter.new.names) c.loop-n-test.true c.index-nodes-n.is c.as_bytes.ensures c.loop-n.invariant.entered c.in_ok-before.ensures.after;
      repeated = rw (c.or-repeated.ensures, c.and.ensures) (repeats_next c.args.nodes.now c.loop-n.n c.index-nodes-n.result c.loop-n.repeated c.in_ok-before.before c.loop-n-test.true c.index-nodes-n.is there c.loop-n.invariant.repeated);
    }
