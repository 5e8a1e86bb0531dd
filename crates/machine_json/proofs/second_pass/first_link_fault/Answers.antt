use Rattle.std.proofs.Common.{◌≡◌, ◌∙◌, ◌<◌, ◌≤◌, ap, arith, length, map, refl}
use Rattle.std.specs.Prelude.{option_map}
use Rattle.std.proofs.lemmas.List.{length-map}
use Rattle.std.proofs.lemmas.Option.{slice_get-map, slice_get_read}
use Rattle.machine_json.specs.Nodes.{node_parts}
use Rattle.machine_json.proofs.NumberLemmas.{below_next_number}
use Rattle.machine_json.proofs.SecondLemmas.{IsNodeFaultAt, all_nodes, node_at, rows_and_nodes}
use Rattle.machine_json.proofs.second_pass.first_link_fault.Goals as goal

pub bounds-nodes-n : goal.bounds-nodes-n
bounds-nodes-n c =
    let count : c.len-n-end.result ≡ length (map node_parts c.args.nodes.now) = c.len-n-end.ensures.count ∙ ap length c.requires ∙ rows_and_nodes (map node_parts c.args.nodes.now) in
    let mapped : length (map node_parts c.args.nodes.now) ≡ length c.args.nodes.now = simp length-map in
    let less = c.loop-n-test.true in
    omega arith

pub loop-n-preserved : goal.loop-n-preserved
loop-n-preserved c =
    let parts = map node_parts c.args.nodes.now in
    let count : c.len-n-end.result ≡ length (map node_parts c.args.nodes.now) = c.len-n-end.ensures.count ∙ ap length c.requires ∙ rows_and_nodes (map node_parts c.args.nodes.now) in
    let mapped : length (map node_parts c.args.nodes.now) ≡ length c.args.nodes.now = simp length-map in
    let less = c.loop-n-test.true in
    let inside : c.loop-n.n < length c.args.nodes.now = omega arith in
    let there = slice_get_read c.args.nodes.now (length c.args.nodes.now) c.loop-n.n c.index-nodes-n.result refl inside c.index-nodes-n.is in
    rw c.earlier-first.ensures
    (below_next_number (IsNodeFaultAt c.args.outline.now parts) c.loop-n.n c.loop-n.first c.in_ok-first_of_node.field-0 c.loop-n.invariant
    (node_at c.args.outline.now parts c.loop-n.n (node_parts c.index-nodes-n.result) c.in_ok-first_of_node.field-0
    (slice_get-map node_parts c.args.nodes.now c.loop-n.n ∙ ap (option_map node_parts) there) c.in_ok-first_of_node.ensures))

pub returns : goal.returns
returns c =
    let count = c.len-n-end.ensures.count in
    let end = c.loop-n-test.false in
    let past : length c.args.outline.now ≤ c.loop-n.n = omega arith in
    all_nodes c.args.outline.now (map node_parts c.args.nodes.now) c.loop-n.n c.loop-n.first c.requires past c.loop-n.invariant
