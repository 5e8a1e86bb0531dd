use Rattle.std.proofs.Common.{◌≡◌, ◌<◌, arith, length, map}
use Rattle.std.proofs.lemmas.List.{length-map}
use Rattle.std.proofs.lemmas.Option.{slice_get_within}
use Rattle.machine_json.specs.Nodes.{node_parts}
use Rattle.machine_json.proofs.DefaultLemmas.{one_more_named}
use Rattle.machine_json.proofs.RowLemmas.{node_at}
use Rattle.machine_json.proofs.defaults.named_defaults.Goals as goal

pub loop-n-preserved : goal.loop-n-preserved
loop-n-preserved c =
    let inside : c.loop-n.n < length c.args.nodes.now = omega (arith, c.requires, c.len-n-end.ensures.count, c.loop-n-test.true) in
    one_more_named c.args.outline.now (map node_parts c.args.nodes.now) c.loop-n.n (node_parts c.index-nodes-n.result) c.loop-n.defaults.items c.push.new.self.items
    c.named_default.result (node_at c.args.nodes.now c.loop-n.n c.index-nodes-n.result inside c.index-nodes-n.is) c.in_ok-push.ensures.items
    c.named_default.ensures.default c.named_default.ensures.inside c.loop-n.invariant

pub returns-clause-each : goal.returns-clause-each
returns-clause-each c n node at =
    let within : n < length (map node_parts c.args.nodes.now) = slice_get_within (map node_parts c.args.nodes.now) n node at in
    let count : length (map node_parts c.args.nodes.now) ≡ length c.args.nodes.now = length-map c.args.nodes.now node_parts in
    let before : n < c.loop-n.n = omega (arith, c.requires, c.len-n-end.ensures.count, c.loop-n-test.false) in
    c.loop-n.invariant.each n node before at
