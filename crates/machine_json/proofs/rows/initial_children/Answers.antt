use Rattle.std.proofs.Common.{◌≡◌, ◌∙◌, ◌+◌, ◌<◌, ◌^◌, ◌&&◌, ℕ, List, Option, Some, Vec, Global, cond, map, sym, ap, subst, arith, length, take}
use Rattle.std.specs.Prelude.{is_none}
use Rattle.std.specs.Str.{bytes_eq}
use Rattle.std.proofs.lemmas.List.{length-map}
use Rattle.machine_json.specs.Nodes.{node_parts}
use Rattle.machine_json.specs.Rows.{initial_key}
use Rattle.machine_json.proofs.RowLemmas.{AreFound, earlier_parent, found_more, found_same, node_at}
use Rattle.machine_json.proofs.rows.initial_children.Goals as goal
use Rattle.machine_json.proofs.rows.initial_children.Goals.{in-Some, in_default}

pub offset_bounds-nodes-parent : goal.offset_bounds-nodes-parent
offset_bounds-nodes-parent c =
    let nodes = map node_parts c.args.nodes.now in
    let at = node_at c.args.nodes.now c.loop-n.n c.index-nodes-n.result c.loop-n-test.true c.index-nodes-n.is in
    let before : c.in-Some.parent < c.loop-n.n = earlier_parent nodes c.loop-n.n c.in-Some.parent (node_parts c.index-nodes-n.result) c.requires at c.in-Some.is in
    let few : length nodes < 2 ^ 32 = c.requires.few in
    let same : length nodes ≡ length c.args.nodes.now = length-map c.args.nodes.now node_parts in
    omega arith

pub bounds-nodes-parent : goal.bounds-nodes-parent
bounds-nodes-parent c =
    let at = node_at c.args.nodes.now c.loop-n.n c.index-nodes-n.result c.loop-n-test.true c.index-nodes-n.is in
    let before : c.in-Some.parent < c.loop-n.n =
    earlier_parent (map node_parts c.args.nodes.now) c.loop-n.n c.in-Some.parent (node_parts c.index-nodes-n.result) c.requires at c.in-Some.is in
    omega arith

pub index-requires : goal.index-requires
index-requires c =
    let at = node_at c.args.nodes.now c.loop-n.n c.index-nodes-n.result c.loop-n-test.true c.index-nodes-n.is in
    let before : c.in-Some.parent < c.loop-n.n =
    earlier_parent (map node_parts c.args.nodes.now) c.loop-n.n c.in-Some.parent (node_parts c.index-nodes-n.result) c.requires at c.in-Some.is in
    let count : length c.loop-n.found.items ≡ length c.args.nodes.now = c.loop-n.invariant.count ∙ length-map c.args.nodes.now node_parts in
    omega arith

pub index_mut-requires : goal.index_mut-requires
index_mut-requires c =
    let at = node_at c.args.nodes.now c.loop-n.n c.index-nodes-n.result c.loop-n-test.true c.index-nodes-n.is in
    let before : c.in-Some.parent < c.loop-n.n =
    earlier_parent (map node_parts c.args.nodes.now) c.loop-n.n c.in-Some.parent (node_parts c.index-nodes-n.result) c.requires at c.in-Some.is in
    let count : length c.loop-n.found.items ≡ length c.args.nodes.now = c.loop-n.invariant.count ∙ length-map c.args.nodes.now node_parts in
    omega arith

pub loop-n-preserved : goal.loop-n-preserved
loop-n-preserved c =
    let nodes = map node_parts c.args.nodes.now in
    let at = node_at c.args.nodes.now c.loop-n.n c.index-nodes-n.result c.loop-n-test.true c.index-nodes-n.is in
    elim c.match-node.branch [
      | in-Some w ↦
          let parent = w.in-Some.parent in
          let before : parent < c.loop-n.n = earlier_parent nodes c.loop-n.n parent (node_parts c.index-nodes-n.result) c.requires at w.in-Some.is in
          let inside : parent < length c.args.nodes.now = omega arith in
          let up_at = node_at c.args.nodes.now parent w.index-nodes-parent.result inside w.index-nodes-parent.is in
          let found = w.index.result.now in
          let chosen : w.or_child.result ≡ cond (is_none found && bytes_eq c.index-nodes-n.result.key.now (initial_key (node_parts w.index-nodes-parent.result))) (Some c.loop-n.n) found =
          w.or_child.ensures ∙ ap (λ (key : List ℕ). cond (is_none found && bytes_eq c.index-nodes-n.result.key.now key) (Some c.loop-n.n) found) w.initial_key-wanted.ensures in
          found_more nodes c.loop-n.n parent (node_parts c.index-nodes-n.result) (node_parts w.index-nodes-parent.result) c.loop-n.found.items c.match-node.found.items
          found w.or_child.result at w.in-Some.is up_at w.index.ensures chosen (ap (λ (v : Vec (Option ℕ) Global). v.items) w.found-is) c.loop-n.invariant
      | in_default w ↦
          let P : Vec (Option ℕ) Global → Type 0 = λ v. AreFound nodes (take (c.loop-n.n + 1) nodes) v.items in
          subst P (sym w.found-is) (found_same nodes c.loop-n.n (node_parts c.index-nodes-n.result) c.loop-n.found.items at w.in_default.is c.loop-n.invariant)
    ]
