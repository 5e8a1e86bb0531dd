-- No two targets of a transition of a machine that was read clash.
use Rattle.std.proofs.Common.{◌≡◌, ◌⊎◌, ◌<◌, ℕ, zero, suc, Bool, true, false, List, [], ◌∷◌, Some, None, Option, refl, ap, sym, ◌∙◌, subst, inl, inr, arith, length, get_or}
use Rattle.std.specs.Prelude.{codes, slice_get, unwrap_or, if◌then◌else◌}
use Rattle.std.specs.Option.{option_map_or}
use Rattle.std.proofs.lemmas.Option.{slice_get-get_or, slice_get_within}
use Rattle.ordered_json.specs.declared.json.OrderedJson.{OrderedJson}
use Rattle.ordered_json.specs.Words.{as_list, get, place_of}
use Rattle.node_tree.specs.declared.node.Node.{Node}
use Rattle.node_tree.specs.Nodes.{IsBelow, IsChild, IsOutline, IsTree, IsWithin, parent_of}
use Rattle.node_tree.proofs.TreeLemmas.{parent_first}
use Rattle.step_sets.specs.Statechart.{AreOrthogonal, CountsFor, DoNotClash}
use Rattle.step_sets.proofs.TreeLemmas.{parent_inside, within_parent}
use Rattle.machine_json.specs.declared.fault.MachineFault.{MachineFault}
use Rattle.machine_json.specs.declared.fault.MachineFault.TheVariants.{Clash}
use Rattle.machine_json.specs.declared.machine.Machine.{Machine}
use Rattle.machine_json.specs.declared.machine.UnlinkedTransition.{UnlinkedTransition}
use Rattle.machine_json.specs.declared.role.Role.TheVariants as role
use Rattle.machine_json.specs.Faultless.{IsFaultlessAs}
use Rattle.machine_json.specs.FirstPass.{items_of}
use Rattle.machine_json.specs.Machines.{IsTreeOf, MeansMachine, MeansTransition, target_texts}
use Rattle.machine_json.specs.Meaning.{listed}
use Rattle.machine_json.specs.NodeKinds.{members_of}
use Rattle.machine_json.specs.Nodes.{NodeParts}
use Rattle.machine_json.specs.ReadMachine.{EachUnlinked}
use Rattle.machine_json.specs.Roles.{is_text}
use Rattle.machine_json.specs.Rows.{open_rows}
use Rattle.machine_json.specs.SecondPass.{DoClash, IsClash, led_to}
use Rattle.machine_json.specs.SecondPass.HasLinkFault.{own_link}
use Rattle.machine_json.proofs.FaultlessLemmas.{of_member}
use Rattle.machine_json.proofs.ReadNumberLemmas.{led_inside, target_text}
use Rattle.machine_json.proofs.ReadRowLemmas.{faultless_nodes, length_tree, rows_below, rows_history, rows_tree, rows_within, tree_below, tree_history, tree_parallel, tree_parent, tree_within}
use Rattle.machine_json.proofs.ReadTransitionLemmas.{each_unlinked}
use Rattle.machine_json.proofs.RegionLemmas.{decide_parallel, decide_within, part_in_one, part_in_two, within_root}

-- ---- different regions

module _ (rows : List Node) (outline : IsOutline rows) (x y : ℕ) (x_inside : x < length rows) (y_inside : y < length rows) where
  -- whether two nodes are in different regions can be decided
  abbrev Decided : Type 0
  Decided = AreOrthogonal rows y x ⊎ (AreOrthogonal rows y x → ⊥)

  -- at the parent of a node that the one is within and the other isn't
  decide_at_parent : (c p : ℕ) → IsChild rows c p → IsWithin rows x c → (IsWithin rows y c → ⊥)
      → ((IsWithin rows y p → ⊥) → Decided) → Decided
  decide_at_parent c p is at_c apart above = elim (decide_within rows outline y p) [
    | inl (inl same) ↦
        inr (λ orthogonal. orthogonal.apart_too
        (inr (let P : ℕ → Type 0 = λ n. IsBelow rows x n in subst P (sym same) (within_parent rows x c p at_c is))))
    | inl (inr below) ↦ elim (decide_parallel rows outline p) [
      | inl parallel ↦ inl (part_in_two rows outline x y p c parallel is at_c below apart)
      | inr other ↦ inr (part_in_one rows outline x y p c other is at_c (inr below) apart)
    ]
    | inr none ↦ above none
  ]

  decide_by_parent : (c : ℕ) (parent : Option ℕ) → c < length rows → parent_of rows c ≡ parent → IsWithin rows x c → (IsWithin rows y c → ⊥)
      → ((p : ℕ) → p < c → IsWithin rows x p → (IsWithin rows y p → ⊥) → Decided) → Decided
  decide_by_parent c None inside is at_c apart above = absurd (apart (within_root rows outline c y is inside y_inside))
  decide_by_parent c (Some p) inside is at_c apart above =
      decide_at_parent c p is at_c apart (λ none. above p (parent_first rows outline c p is) (inr (within_parent rows x c p at_c is)) none)

  decide_from : (fuel c : ℕ) → c < fuel → c < length rows → IsWithin rows x c → (IsWithin rows y c → ⊥) → Decided
  decide_from zero c less inside at_c apart = absurd (omega arith)
  decide_from (suc fuel) c less inside at_c apart =
      decide_by_parent c (parent_of rows c) inside refl at_c apart
      (λ p before at_p none. decide_from fuel p (omega arith) (omega arith) at_p none)

  pub decide_orthogonal : Decided
  decide_orthogonal = elim (decide_within rows outline y x) [
    | inl within ↦ inr (λ orthogonal. orthogonal.apart within)
    | inr none ↦ decide_from (suc x) x (omega arith) x_inside (inl refl) none
  ]

-- ---- clashes

-- what counts for a node is a node
counted_inside : (rows : List Node) → IsTree rows → (s a : ℕ) → s < length rows → CountsFor rows s a → a < length rows
counted_inside rows tree s a inside (inl plain) = subst (λ n. n < length rows) plain.0 inside
counted_inside rows tree s a inside (inr history) = parent_inside rows tree s a history.1

-- two nodes that do not clash
apart_unless : (rows : List Node) → IsTree rows → (s t : ℕ) → s < length rows → t < length rows → (DoClash rows s t → ⊥)
    → (a b : ℕ) → CountsFor rows s a → CountsFor rows t b → AreOrthogonal rows a b
apart_unless rows tree s t s_inside t_inside none a b at_a at_b =
    elim (decide_orthogonal rows tree.outline b a (counted_inside rows tree t b t_inside at_b) (counted_inside rows tree s a s_inside at_a)) [
      | inl orthogonal ↦ orthogonal
      | inr not_so ↦ absurd (none (λ all. not_so (all a b at_a at_b)))
    ]

one_place : {X : Type 0} (x : X) (j : ℕ) (y : X) → slice_get (x ∷ []) j ≡ Some y → j < 1
one_place x j y at = slice_get_within (x ∷ []) j y at

module _ (rows : List Node) (source : ℕ) where
  clash_by_list : (target : OrderedJson) (list : Option (List OrderedJson)) (fault : MachineFault) → as_list target ≡ list
      → IsFaultlessAs rows source role.Targets target → IsClash rows source (unwrap_or list (target ∷ [])) fault → ⊥
  clash_by_list target (Some items) fault is sound clash =
      let same : items_of target ≡ items = ap (λ o. unwrap_or o []) is in
      let P : List OrderedJson → Type 0 = λ l. IsClash rows source l fault in
      sound.second_pass fault (own_link role.Targets target fault (inr (subst P (sym same) clash)))
  clash_by_list target None fault is sound clash =
      absurd (omega (arith, clash.6, one_place target clash.1 clash.3 clash.8))

  clash_by_target : (json : OrderedJson) (target : Option OrderedJson) (fault : MachineFault) → get (codes "target") (members_of json) ≡ target
      → IsFaultlessAs rows source role.Transition json → IsClash rows source (option_map_or listed target []) fault → ⊥
  clash_by_target json None fault is sound clash = let at : None ≡ Some clash.2 = clash.7 in absurd (cc)
  clash_by_target json (Some target) fault is sound clash =
      clash_by_list target (as_list target) fault refl (of_member rows source role.Transition role.Targets json (codes "target") target sound is refl refl) clash

  clash_by_test : (json : OrderedJson) (test : Bool) (fault : MachineFault) → IsFaultlessAs rows source role.Transition json
      → IsClash rows source (if test then json ∷ [] else option_map_or listed (get (codes "target") (members_of json)) []) fault → ⊥
  clash_by_test json true fault sound clash = absurd (omega (arith, clash.6, one_place json clash.1 clash.3 clash.8))
  clash_by_test json false fault sound clash = clash_by_target json (get (codes "target") (members_of json)) fault refl sound clash

  -- the targets of a transition without faults do not clash
  no_clash : (json : OrderedJson) (fault : MachineFault) → IsFaultlessAs rows source role.Transition json → IsClash rows source (target_texts json) fault → ⊥
  no_clash json fault sound clash = clash_by_test json (is_text json) fault sound clash

  targets_apart : IsTree rows → source < length rows → (descriptor : List ℕ) (json : OrderedJson) (t : UnlinkedTransition) → IsFaultlessAs rows source role.Transition json
      → MeansTransition rows source descriptor json t → DoNotClash rows t.targets
  targets_apart tree inside descriptor json t sound means = λ i j d before within.
      let first = get_or t.targets i d in
      let second = get_or t.targets j d in
      let (earlier, at_i, led) = target_text (led_to rows source) t.targets (target_texts json) i first means.targets (slice_get-get_or t.targets i d (omega arith)) in
      let (later, at_j, led_too) = target_text (led_to rows source) t.targets (target_texts json) j second means.targets (slice_get-get_or t.targets j d within) in
      apart_unless rows tree first second
      (led_inside rows tree.outline source earlier first inside led) (led_inside rows tree.outline source later second inside led_too)
      (λ clash. no_clash json (Clash (place_of later)) sound (i, j, earlier, later, first, second, before, at_i, at_j, led, led_too, clash, refl))

-- ---- in the tree

module _ (nodes : List NodeParts) (tree : List Node) (is : IsTreeOf nodes tree) where
  counts_in_rows : (s a : ℕ) → CountsFor tree s a → CountsFor (open_rows nodes) s a
  counts_in_rows s a (inl plain) = inl (plain.0, λ history. plain.1 (tree_history nodes tree is s history))
  counts_in_rows s a (inr history) = inr (rows_history nodes tree is s history.0, sym (tree_parent nodes tree is s) ∙ history.1)

  orthogonal_in_tree : (a b : ℕ) → AreOrthogonal (open_rows nodes) a b → AreOrthogonal tree a b
  orthogonal_in_tree a b orthogonal =
      let (p, below, below_too, parallel, innermost) = orthogonal.parallel in
      record {
        apart = λ within. orthogonal.apart (rows_within nodes tree is a b within);
        apart_too = λ within. orthogonal.apart_too (rows_within nodes tree is b a within);
        parallel = (
          p,
          tree_below nodes tree is a p below,
          tree_below nodes tree is b p below_too,
          tree_parallel nodes tree is p parallel,
          λ q a_q b_q. tree_within nodes tree is p q (innermost q (rows_below nodes tree is a q a_q) (rows_below nodes tree is b q b_q)),
        );
      }

  apart_in_tree : (targets : List ℕ) → DoNotClash (open_rows nodes) targets → DoNotClash tree targets
  apart_in_tree targets apart = λ i j d before within a b at_a at_b.
      orthogonal_in_tree a b (apart i j d before within a b (counts_in_rows (get_or targets i d) a at_a) (counts_in_rows (get_or targets j d) b at_b))

-- no two targets of a transition clash
pub targets_read : (text : OrderedJson) (machine : Machine) → MeansMachine text machine → EachUnlinked machine (λ n transition. DoNotClash machine.tree transition.targets)
targets_read text machine m =
    let rows = open_rows m.nodes in
    let count : length machine.tree ≡ length rows = length_tree m.nodes machine.tree m.tree in
    let tree = rows_tree m.nodes (faultless_nodes text machine m) in
    each_unlinked text machine m (λ n transition. DoNotClash machine.tree transition.targets) (λ n inside descriptor json t sound means.
    apart_in_tree m.nodes machine.tree m.tree t.targets (targets_apart rows n tree (subst (λ k. n < k) count inside) descriptor json t sound means))
