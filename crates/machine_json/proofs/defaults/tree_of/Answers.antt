use Rattle.std.proofs.Common.{◌≡◌, ◌∙◌, ◌<◌, ◌≤◌, Some, ap, arith, length, map, refl, sym}
use Rattle.std.specs.Prelude.{slice_get}
use Rattle.std.proofs.lemmas.List.{length-map}
use Rattle.std.proofs.lemmas.Option.{slice_get_read}
use Rattle.machine_json.specs.Nodes.{node_parts}
use Rattle.machine_json.proofs.DefaultLemmas.{named_inside, new_ids_kept, one_more_set, tree_made}
use Rattle.machine_json.proofs.OutlineLemmas.{length_rows}
use Rattle.machine_json.proofs.defaults.tree_of.Goals as goal

pub named_defaults-requires : goal.named_defaults-requires
named_defaults-requires c = ap length c.requires.rows ∙ length_rows (map node_parts c.args.nodes.now) ∙ length-map c.args.nodes.now node_parts

pub index-requires : goal.index-requires
index-requires c =
    let rows : length c.args.outline ≡ length c.args.nodes.now = ap length c.requires.rows ∙ length_rows (map node_parts c.args.nodes.now) ∙ length-map c.args.nodes.now node_parts in
    omega (arith, c.in_ok-defaults.ensures.count, c.len-n-end.ensures.count, c.loop-n-test.true)

pub set_named-requires-clause-named : goal.set_named-requires-clause-named
set_named-requires-clause-named c =
    let rows : length c.args.outline ≡ length c.args.nodes.now = ap length c.requires.rows ∙ length_rows (map node_parts c.args.nodes.now) ∙ length-map c.args.nodes.now node_parts in
    let defaults = c.in_ok-defaults.defaults.items in
    let inside : c.loop-n.n < length defaults = omega (arith, c.in_ok-defaults.ensures.count, c.len-n-end.ensures.count, c.loop-n-test.true) in
    let at : slice_get defaults c.loop-n.n ≡ Some c.index.result.now = slice_get_read defaults (length defaults) c.loop-n.n c.index.result.now refl inside c.index.ensures in
    named_inside c.args.outline c.loop-n.outline defaults c.loop-n.n c.index.result.now c.loop-n.invariant.count at c.in_ok-defaults.ensures.inside

pub loop-n-preserved : goal.loop-n-preserved
loop-n-preserved c =
    let rows : length c.args.outline ≡ length c.args.nodes.now = ap length c.requires.rows ∙ length_rows (map node_parts c.args.nodes.now) ∙ length-map c.args.nodes.now node_parts in
    let defaults = c.in_ok-defaults.defaults.items in
    let inside : c.loop-n.n < length defaults = omega (arith, c.in_ok-defaults.ensures.count, c.len-n-end.ensures.count, c.loop-n-test.true) in
    let in_rows : c.loop-n.n < length c.args.outline = omega (arith, c.len-n-end.ensures.count, c.loop-n-test.true) in
    let at : slice_get defaults c.loop-n.n ≡ Some c.index.result.now = slice_get_read defaults (length defaults) c.loop-n.n c.index.result.now refl inside c.index.ensures in
    one_more_set c.args.outline c.loop-n.outline c.set_named.new.outline defaults c.loop-n.n c.index.result.now in_rows at c.loop-n.invariant c.set_named.ensures

pub into_tree-requires : goal.into_tree-requires
into_tree-requires c =
    let rows : length c.args.outline ≡ length c.args.nodes.now = ap length c.requires.rows ∙ length_rows (map node_parts c.args.nodes.now) ∙ length-map c.args.nodes.now node_parts in
    let past : length c.args.outline ≤ c.loop-n.n = omega (arith, c.len-n-end.ensures.count, c.loop-n-test.false) in
    let count : length c.in_ok-defaults.defaults.items ≡ length c.args.outline = c.in_ok-defaults.ensures.count ∙ sym rows in
    new_ids_kept c.args.outline c.loop-n.outline c.in_ok-defaults.defaults.items c.loop-n.n past count c.loop-n.invariant c.requires.ids

pub returns : goal.returns
returns c =
    let past : length c.args.outline ≤ c.loop-n.n = omega (arith, c.len-n-end.ensures.count, c.loop-n-test.false) in
    rw c.into_tree.ensures
    (tree_made (map node_parts c.args.nodes.now) c.args.outline c.loop-n.outline c.in_ok-defaults.defaults.items c.loop-n.n c.requires.rows past c.loop-n.invariant c.in_ok-defaults.ensures.each)
