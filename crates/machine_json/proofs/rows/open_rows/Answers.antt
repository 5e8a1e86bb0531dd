use Rattle.std.proofs.Common.{◌≡◌, ◌∙◌, ◌<◌, ◌≤◌, ◌^◌, ◌++◌, ◌∷◌, [], ℕ, List, ap, arith, length, map, sym, subst, take}
use Rattle.std.specs.Prelude.{IfSome, unwrap_or}
use Rattle.std.proofs.lemmas.List.{length-map, length-take-le}
use Rattle.std.proofs.lemmas.Option.{IfSome_then, get_or_from_slice_get}
use Rattle.node_tree.specs.declared.node.Node.{Node}
use Rattle.machine_json.specs.NodeKinds.{node_kind}
use Rattle.machine_json.specs.Nodes.{node_parts}
use Rattle.machine_json.specs.Rows.{initial_child, kind_with_initial, node_paths, path_below}
use Rattle.machine_json.proofs.RowLemmas.{length_paths, node_at, paths_more, row_is, rows_pushed}
use Rattle.machine_json.proofs.rows.open_rows.Goals as goal

pub path_below-requires : goal.path_below-requires
path_below-requires c =
    let nodes = map node_parts c.args.nodes.now in
    let n = c.loop-n.n in
    let node = node_parts c.index-nodes-n.result in
    let at = node_at c.args.nodes.now n c.index-nodes-n.result c.loop-n-test.true c.index-nodes-n.is in
    let count : length nodes ≡ length c.args.nodes.now = length-map c.args.nodes.now node_parts in
    let front : n ≤ length nodes = omega arith in
    let len : length c.deref.result.now ≡ n = ap length (c.deref.ensures.value ∙ c.loop-n.invariant.paths) ∙ length_paths (take n nodes) ∙ length-take-le n nodes front in
    subst (λ m. IfSome node.parent (λ p. p < m)) (sym len) (c.requires.parents n node at)

pub number_of-requires : goal.number_of-requires
number_of-requires c =
    let nodes = map node_parts c.args.nodes.now in
    let n = c.loop-n.n in
    let node = node_parts c.index-nodes-n.result in
    let at = node_at c.args.nodes.now n c.index-nodes-n.result c.loop-n-test.true c.index-nodes-n.is in
    let count : length nodes ≡ length c.args.nodes.now = length-map c.args.nodes.now node_parts in
    let few : length nodes < 2 ^ 32 = c.requires.few in
    IfSome_then node.parent (c.requires.parents n node at) (λ p before. omega arith)

pub loop-n-preserved : goal.loop-n-preserved
loop-n-preserved c =
    let nodes = map node_parts c.args.nodes.now in
    let n = c.loop-n.n in
    let node = node_parts c.index-nodes-n.result in
    let at = node_at c.args.nodes.now n c.index-nodes-n.result c.loop-n-test.true c.index-nodes-n.is in
    let path : c.in_ok-path.path ≡ path_below (node_paths (take n nodes)) node =
    c.in_ok-path.ensures ∙ ap (λ (l : List (List ℕ)). path_below l node) (c.deref.ensures.value ∙ c.loop-n.invariant.paths) in
    let found : c.index.result.now ≡ initial_child nodes n node =
    c.index.ensures ∙ get_or_from_slice_get c.in_ok-initials.initials.items n (initial_child nodes n node) c.index.result.now (c.in_ok-initials.ensures.each n node at) in
    let kind : c.row_kind.result ≡ kind_with_initial (unwrap_or c.index.result.now 0) node (node_kind node.json) =
    c.row_kind.ensures ∙ ap (λ (i : ℕ). kind_with_initial i node (node_kind node.json)) c.unwrap_or.ensures in
    let row : Node = record { parent = c.number_of.result; kind = c.row_kind.result; key = c.in_ok-from_str.field-0; id = c.in_ok-node_id.field-0 } in
    record {
      paths = c.in_ok-push-2.ensures.items ∙ ap (λ (l : List (List ℕ)). l ++ c.in_ok-path.path ∷ []) c.loop-n.invariant.paths
          ∙ ap (λ (p : List ℕ). node_paths (take n nodes) ++ p ∷ []) path ∙ sym (paths_more nodes n node at);
      rows = rows_pushed nodes n node row c.loop-n.rows.items c.push.new.self.items at c.in_ok-push.ensures.items c.loop-n.invariant.rows
          (row_is nodes n node row c.in_ok-path.path c.in_ok-root.root c.index.result.now at path c.in_ok-root.ensures found
          c.number_of.ensures kind c.in_ok-from_str.ensures c.in_ok-node_id.ensures);
    }
