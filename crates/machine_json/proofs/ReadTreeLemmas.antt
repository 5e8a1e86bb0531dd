-- What linking may rely on of the tree of a machine that was read.
use Rattle.std.proofs.Common.{◌≡◌, ◌<◌, ℕ, suc, List, [], ◌∷◌, ◌++◌, Option, None, Some, All, length, map, refl, sym, ap, ◌∙◌, subst, arith, inl, inr}
use Rattle.std.specs.Prelude.{IsSomeAnd, codes, option_map, slice_get, unwrap_or}
use Rattle.std.specs.List.{AllByRecursion}
use Rattle.std.proofs.lemmas.List.Elements.{All-from_recursion}
use Rattle.std.proofs.lemmas.Option.{slice_get_cases, slice_get_within}
use Rattle.ordered_json.specs.declared.json.OrderedJson.{OrderedJson}
use Rattle.ordered_json.specs.OwnKeys.{HasOwnKeys}
use Rattle.ordered_json.specs.Words.{MemberParts, get_object}
use Rattle.node_tree.specs.declared.node.Kind.{Kind}
use Rattle.node_tree.specs.declared.node.Kind.TheVariants as kind
use Rattle.node_tree.specs.declared.node.Node.{Node}
use Rattle.node_tree.specs.Kinds.{IsHistory, kind_of}
use Rattle.node_tree.specs.Nodes.{IsChild}
use Rattle.step_sets.specs.Statechart.{IsParentKind}
use Rattle.step_sets.proofs.TreeLemmas.{child_inside}
use Rattle.guard_eval.specs.Definitions.{IsAfterType, IsParent, IsRootKind, node_key}
use Rattle.machine_json.specs.declared.kind_word.NodeKind.TheVariants.{Compound}
use Rattle.machine_json.specs.declared.machine.Machine.{Machine}
use Rattle.machine_json.specs.declared.machine.UnlinkedDelay.{UnlinkedDelay}
use Rattle.machine_json.specs.declared.machine.UnlinkedNode.{UnlinkedNode}
use Rattle.machine_json.specs.Fields.{is_history}
use Rattle.machine_json.specs.Machines.{MeansMachine}
use Rattle.machine_json.specs.Meaning.{delays_of, timed_of}
use Rattle.machine_json.specs.NodeKinds.{children_of, members_of, node_kind}
use Rattle.machine_json.specs.Nodes.{AreFaultlessAtFirst, NodeParts}
use Rattle.machine_json.specs.ReadMachine.{HasUnlinkedAfterTypes}
use Rattle.machine_json.specs.Rows.{fields_in, initial_key, initial_number, node_id}
use Rattle.machine_json.specs.SecondPass.{node_role}
use Rattle.machine_json.proofs.DocumentLemmas.{child_is_node, some_node}
use Rattle.machine_json.proofs.NodeFaultLemmas.{HasNoFaultAs, initial_member, names_child, node_faultless}
use Rattle.machine_json.proofs.OutlineLemmas.{earlier_parents, initial_there, item_at}
use Rattle.machine_json.proofs.OwnKeyLemmas.{children_apart, node_owns}
use Rattle.machine_json.proofs.ReadChildLemmas.{is_member_of_parent, one_of_key}
use Rattle.machine_json.proofs.ReadFaultLemmas.{inner_root, other_child_there, with_child_may}
use Rattle.machine_json.proofs.ReadKindLemmas.{compound_kind, key_in_tree, may_have_children, not_history_in_tree, of_kind, parent_in_tree, parent_kind, root_kind, to_kind, tree_kind, IsKindOf}
use Rattle.machine_json.proofs.RowLemmas.{earlier_parent}

-- ---- lists

-- what holds of each item holds of the list
each_one : {X : Type 0} (P : X → Type 0) (xs : List X) → ((n : ℕ) (x : X) → slice_get xs n ≡ Some x → P x) → AllByRecursion P xs
each_one P [] each = tt
each_one P (x ∷ xs) each = (each 0 x refl, each_one P xs (λ n y at. each (suc n) y at))

-- the event of each delay has the type of one
timed_types : (id : List ℕ) (members : List MemberParts) → AllByRecursion (λ (delay : List ℕ × UnlinkedDelay). IsAfterType delay.0) (map (timed_of id) members)
timed_types id [] = tt
timed_types id (m ∷ members) = ((m.key ++ codes "." ++ id, refl), timed_types id members)

-- ---- the nodes of the machine

module _ (text : OrderedJson) (machine : Machine) (means : MeansMachine text machine) where
  abbrev nodes : List NodeParts
  nodes = means.nodes

  at_first : AreFaultlessAtFirst nodes
  at_first = record { text = text; are_nodes = means.are_nodes; first_pass = means.first_pass }

  clean : (n : ℕ) (x : NodeParts) → slice_get nodes n ≡ Some x → HasNoFaultAs (node_role x) x.json
  clean n x at = node_faultless 0 None [] text nodes means.are_nodes (λ fault has. means.first_pass fault (inl has)) n x at

  -- a row of the tree is that of a node
  node_of_row : (n : ℕ) → n < length machine.tree → (x : NodeParts) × (slice_get nodes n ≡ Some x)
  node_of_row n inside = item_at nodes n (subst (λ m. n < m) means.tree.count inside)

  node_of_child : (n p : ℕ) → IsChild machine.tree n p → (x : NodeParts) × (slice_get nodes n ≡ Some x) × (x.parent ≡ Some p)
  node_of_child n p is =
      let x = node_of_row n (child_inside machine.tree n p is) in
      (x.0, x.1, sym (parent_in_tree nodes machine.tree means.tree n x.0 x.1) ∙ is)

  node_of_parent : (n p : ℕ) (x : NodeParts) → slice_get nodes n ≡ Some x → x.parent ≡ Some p → (y : NodeParts) × (slice_get nodes p ≡ Some y)
  node_of_parent n p x at up =
      let before : p < n = earlier_parent nodes n p x (earlier_parents nodes at_first) at up in
      let inside : n < length nodes = slice_get_within nodes n x at in
      item_at nodes p (omega arith)

  -- a row whose kind is known is one of the tree
  row_inside : (n : ℕ) (P : Kind → Type 0) → IsSomeAnd (kind_of machine.tree n) P → n < length machine.tree
  row_inside n P holds = elim (slice_get_cases machine.tree n).1 [
    | inl found ↦ slice_get_within machine.tree n found.0 found.2
    | inr past ↦
        let nothing : kind_of machine.tree n ≡ None = ap (option_map (λ (row : Node). row.kind)) past.1 in
        let never : ⊥ = subst (λ (o : Option Kind). IsSomeAnd o P) nothing holds in absurd never
  ]

  -- ---- the fields

  pub one_each : length machine.nodes ≡ length machine.tree
  one_each = means.count ∙ sym means.tree.count

  pub root : IsSomeAnd (kind_of machine.tree 0) IsRootKind
  root =
      let x = item_at nodes 0 (some_node text nodes means.are_nodes) in
      let told = tree_kind nodes machine.tree means.tree 0 x.0 x.1 in
      let no_parent : x.0.parent ≡ None = root_parent x.0 x.1 in
      let P : Option ℕ → Type 0 = λ o. HasNoFaultAs (node_role (record x.0 { parent = o })) x.0.json in
      of_kind machine.tree 0 told.0 IsRootKind told.1
      (root_kind (initial_number nodes 0 x.0) (node_kind x.0.json) told.0 told.2 (inner_root x.0.json (subst P no_parent (clean 0 x.0 x.1))))
    where
      root_parent : (x : NodeParts) → slice_get nodes 0 ≡ Some x → x.parent ≡ None
      root_parent x at = by_parent x.parent refl
        where
          by_parent : (o : Option ℕ) → x.parent ≡ o → x.parent ≡ None
          by_parent None is = is
          by_parent (Some p) is =
              let before : p < 0 = earlier_parent nodes 0 p x (earlier_parents nodes at_first) at is in absurd (omega arith)

  pub parents : (n p : ℕ) → IsChild machine.tree n p → IsParent machine.tree p
  parents n p is =
      let x = node_of_child n p is in
      let y = node_of_parent n p x.0 x.1 x.2 in
      let member = is_member_of_parent text nodes means.are_nodes p y.0 y.1 n x.0 x.1 x.2 in
      let told = tree_kind nodes machine.tree means.tree p y.0 y.1 in
      of_kind machine.tree p told.0 IsParentKind told.1
      (parent_kind (initial_number nodes p y.0) (node_kind y.0.json) told.0 told.2 (with_child_may y.0 member.0 member.1 (clean p y.0 y.1) member.2))

  pub children : (p : ℕ) → IsParent machine.tree p → (n : ℕ) × IsChild machine.tree n p × ¬ IsHistory machine.tree n
  children p parental =
      let y = node_of_row p (row_inside p IsParentKind parental) in
      let told = tree_kind nodes machine.tree means.tree p y.0 y.1 in
      let may = may_have_children (initial_number nodes p y.0) (node_kind y.0.json) told.0 told.2 (to_kind machine.tree p told.0 IsParentKind told.1 parental) in
      let other = other_child_there y.0 (clean p y.0 y.1) may in
      let there = child_is_node text nodes means.are_nodes p y.0 y.1 other.0 other.1 other.2 in
      let it : NodeParts = record { parent = Some p; key = other.1.key; json = other.1.value } in (
        there.0,
        parent_in_tree nodes machine.tree means.tree there.0 it there.1,
        not_history_in_tree nodes machine.tree there.0 it means.tree there.1 other.3,
      )

  pub keys : HasOwnKeys text → (a b p : ℕ) → IsChild machine.tree a p → IsChild machine.tree b p → node_key machine.tree a ≡ node_key machine.tree b → a ≡ b
  keys own a b p a_is b_is same =
      let x = node_of_child a p a_is in
      let z = node_of_child b p b_is in
      let y = node_of_parent a p x.0 x.1 x.2 in
      let apart = children_apart y.0.json (node_owns 0 None [] text nodes means.are_nodes own p y.0 y.1) in
      let keys : Some x.0.key ≡ Some z.0.key =
      sym (key_in_tree nodes machine.tree means.tree a x.0 x.1) ∙ same ∙ key_in_tree nodes machine.tree means.tree b z.0 z.1 in
      let key : x.0.key ≡ z.0.key = cc in
      one_of_key text nodes means.are_nodes p y.0 y.1 apart a b x.0 z.0 x.1 z.1 x.2 z.2 key

  -- the initial child of a compound node is no history node
  no_history_initial : HasOwnKeys text → (p : ℕ) (y : NodeParts) → slice_get nodes p ≡ Some y → node_kind y.json ≡ Compound
      → ¬ IsHistory machine.tree (initial_number nodes p y)
  no_history_initial own p y at compound =
      let it = initial_there nodes p y at_first at compound in
      let named = names_child y compound (clean p y at) in
      let wanted = initial_member (children_of (members_of y.json)) named.0 named.2 in
      let member = is_member_of_parent text nodes means.are_nodes p y at (initial_number nodes p y) it.0 it.1 it.2 in
      let apart = children_apart y.json (node_owns 0 None [] text nodes means.are_nodes own p y at) in
      let key : initial_key y ≡ named.0 = ap (λ (o : Option (List ℕ)). unwrap_or o []) named.1 in
      let same : member.0 ≡ wanted.0 = apart member.0 wanted.0 member.1 wanted.1 member.2 wanted.2 (member.3 ∙ it.3 ∙ key ∙ sym wanted.3) in
      let both : Some member.1 ≡ Some wanted.1 =
      sym member.2 ∙ ap (slice_get (children_of (members_of y.json))) same ∙ wanted.2 in
      let one : member.1 ≡ wanted.1 = cc in
      let json : it.0.json ≡ wanted.1.value = sym member.4 ∙ ap (λ (m : MemberParts). m.value) one in
      not_history_in_tree nodes machine.tree (initial_number nodes p y) it.0 means.tree it.1 (ap (λ (j : OrderedJson). is_history (node_kind j)) json ∙ wanted.4)

  pub initials : HasOwnKeys text → (p initial : ℕ) → kind_of machine.tree p ≡ Some (kind.Compound initial) → ¬ IsHistory machine.tree initial
  initials own p initial is =
      let Is : Kind → Type 0 = λ k. k ≡ kind.Compound initial in
      let y = node_of_row p (row_inside p Is (of_kind machine.tree p (kind.Compound initial) Is is refl)) in
      let told = tree_kind nodes machine.tree means.tree p y.0 y.1 in
      let both : Some told.0 ≡ Some (kind.Compound initial) = sym told.1 ∙ is in
      let it : told.0 ≡ kind.Compound initial = cc in
      let P : Kind → Type 0 = λ k. IsKindOf (initial_number nodes p y.0) (node_kind y.0.json) k in
      let named = compound_kind (initial_number nodes p y.0) (node_kind y.0.json) initial (subst P it told.2) in
      subst (λ n. ¬ IsHistory machine.tree n) (sym named.1) (no_history_initial own p y.0 y.1 named.0)

  -- the delays of a node have types of their own
  node_after : (n : ℕ) (said : UnlinkedNode) → slice_get machine.nodes n ≡ Some said → HasUnlinkedAfterTypes said
  node_after n said at =
      let x = item_at nodes n (subst (λ m. n < m) means.count (slice_get_within machine.nodes n said at)) in
      let id = node_id nodes n x.0 in
      let delays : said.after ≡ delays_of id (fields_in x.0) = (means.said n x.0 said x.1 at).after in
      let P : List (List ℕ × UnlinkedDelay) → Type 0 = λ l. All (λ (delay : List ℕ × UnlinkedDelay). IsAfterType delay.0) l in
      subst P (sym delays) (All-from_recursion _ _ (timed_types id (unwrap_or (get_object (codes "after") (fields_in x.0)) [])))

  pub after : All HasUnlinkedAfterTypes machine.nodes
  after = All-from_recursion HasUnlinkedAfterTypes machine.nodes (each_one HasUnlinkedAfterTypes machine.nodes node_after)
