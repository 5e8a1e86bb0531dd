use Rattle.std.proofs.Common.{length, get_or, arith, sym, ◌∙◌, ap, inl, inr, length-set, eq-eqb}
use Rattle.std.specs.Prelude.{Some, nat_eq}
use Rattle.std.specs.Option.{option_eq}
use Rattle.std.proofs.lemmas.Bool.{cases_eq, ne_eqb}
use Rattle.std.proofs.lemmas.List.{get_or-set_other}
use Rattle.std.proofs.lemmas.Grind.{get_or-set_at}
use Rattle.node_tree.specs.Nodes.{child}
use Rattle.node_tree.specs.Tables.{node_named}
use Rattle.node_tree.specs.declared.node.Node.{Node}
use Rattle.node_tree.proofs.TreeLemmas.{read_parent, above_first}
use Rattle.node_tree.proofs.NameLemmas.{key_entered, child_elsewhere}
use Rattle.node_tree.proofs.names.index_children.Goals as goal
use Rattle.node_tree.proofs.names.index_children.Goals.{in-Some+in_ok-enter, in_default}

pub index_mut-requires : goal.index_mut-requires
index_mut-requires c =
    let is_child = read_parent c.args.nodes.now c.loop-n.n c.index-nodes-n.result c.loop-n-test.true ∙ ap (λ (x : Node). x.parent) (sym c.index-nodes-n.is) ∙ c.in-Some.is in
    let first = above_first c.args.nodes.now (length c.args.nodes.now) c.requires.placed c.loop-n.n c.in-Some.parent c.loop-n-test.true (child c.loop-n.n c.in-Some.parent is_child) in
    let len = c.loop-n.invariant.len in
    let held = c.loop-n.children.ok.0 in
    omega arith

pub loop-n-preserved : goal.loop-n-preserved
loop-n-preserved c = elim c.match-node.branch [
  | in-Some+in_ok-enter w ↦ rw w.children-is (record {
    len = rw length-set c.loop-n.invariant.len;
    keys = λ m d key inside. elim (cases_eq m w.in-Some.parent) [
      | inl same ↦ let before = w.index_mut.result.now in
          ap (λ names. node_named names key) (get_or-set_at c.loop-n.children.items w.in-Some.parent m w.enter.new.names d same (let len = c.loop-n.invariant.len in omega arith))
          ∙ key_entered c.args.nodes.now c.loop-n.n c.index-nodes-n.result m w.as_bytes.result.now (node_named before) (node_named w.enter.new.names) c.loop-n-test.true c.index-nodes-n.is
          (ap (λ o. option_eq nat_eq o (Some m)) w.in-Some.is ∙ eq-eqb w.in-Some.parent m (sym same))
          w.as_bytes.ensures
          (λ q. ap (λ names. node_named names q) (w.index_mut.ensures.value ∙ ap (λ i. get_or c.loop-n.children.items i before) (sym same)) ∙ c.loop-n.invariant.keys m before q inside)
          w.in_ok-enter.ensures.after key
      | inr other ↦ rw get_or-set_other (c.loop-n.invariant.keys m d key inside
          ∙ child_elsewhere c.args.nodes.now c.loop-n.n c.index-nodes-n.result m c.loop-n-test.true c.index-nodes-n.is
          (ap (λ o. option_eq nat_eq o (Some m)) w.in-Some.is ∙ ne_eqb w.in-Some.parent m (λ e. other (sym e))) key)
    ];
  })
  | in_default w ↦ rw w.children-is (record {
    len = c.loop-n.invariant.len;
    keys = λ m d key inside. c.loop-n.invariant.keys m d key inside
        ∙ child_elsewhere c.args.nodes.now c.loop-n.n c.index-nodes-n.result m c.loop-n-test.true c.index-nodes-n.is
        (ap (λ o. option_eq nat_eq o (Some m)) w.in_default.is) key;
  })
]
