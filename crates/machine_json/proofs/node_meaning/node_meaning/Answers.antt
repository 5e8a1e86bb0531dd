use Rattle.std.proofs.Common.{◌∙◌, map}
use Rattle.ordered_json.specs.Words.{member_parts}
use Rattle.machine_json.specs.Nodes.{node_parts}
use Rattle.machine_json.proofs.NodeMeaningLemmas.{for_node, is_row, node_means, row_id}
use Rattle.machine_json.proofs.RowLemmas.{node_at}
use Rattle.machine_json.proofs.node_meaning.node_meaning.Goals as goal

pub node-requires : goal.node-requires
node-requires c = is_row c.args.nodes.now c.args.n c.args.outline.now c.requires.outline c.requires.inside

pub candidates_of-requires : goal.candidates_of-requires
candidates_of-requires c = is_row c.args.nodes.now c.args.n c.args.outline.now c.requires.outline c.requires.inside

pub always_of-requires : goal.always_of-requires
always_of-requires c = is_row c.args.nodes.now c.args.n c.args.outline.now c.requires.outline c.requires.inside

pub returns : goal.returns
returns c =
    let nodes = map node_parts c.args.nodes.now in
    let n = c.args.n in
    let item = node_parts c.index-nodes-n.result in
    let there = node_at c.args.nodes.now n c.index-nodes-n.result c.requires.inside c.index-nodes-n.is in
    for_node nodes n item _ there
    (node_means nodes n item c.args.outline.now c.as_str-id.result.now (map member_parts c.members_of-members.result.now) c.invocation_texts.result.now _
    c.requires.outline c.requires.faultless there (c.as_str-id.ensures ∙ row_id nodes n item c.args.outline.now c.node.result.now c.requires.outline there c.node.ensures)
    c.members_of-members.ensures c.invocation_texts.ensures
    c.in_ok-actions_under.ensures c.in_ok-actions_under-2.ensures c.in_ok-candidates_of.ensures c.in_ok-always_of.ensures
    c.in_ok-delays_of.ensures c.in_ok-each_invocation.ensures c.in_ok-expr_under.ensures c.in_ok-tags_of.ensures)
