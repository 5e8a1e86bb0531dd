-- State values, made from the last node to the first.
use Rattle.std.proofs.Common.{◌≡◌, ◌≢◌, ◌∙◌, ◌<◌, ◌≤◌, ◌+◌, ℕ, Bool, true, false, List, [], ◌∷◌, ◌++◌, ap, arith, cond, drop, get_or, inl, inr, length, map, refl, set, suc, sym, subst}
use Rattle.std.specs.Prelude.{Option, Some, Result, Ok, Err, nat_eq, slice_get}
use Rattle.std.specs.Ordering.{nat_cmp}
use Rattle.std.specs.Option.{option_eq, option_map_or}
use Rattle.std.specs.List.Sorted.{IsBinarySearchResult, IsStrictlyIncreasing}
use Rattle.std.proofs.lemmas.List.Sorted.{searched}
use Rattle.std.proofs.Math.Seq.{drop-cons, get_or-append_seam}
use Rattle.std.proofs.Math.ListN.{drop_of_length-le, get_or-append}
use Rattle.std.proofs.lemmas.Bool.{cases_eq, cases_lt, eq-eqb, ne_eqb}
use Rattle.std.proofs.lemmas.List.{get_or-set_other, length-append, reverse-append}
use Rattle.std.proofs.lemmas.List.Kept.{AllPairs-from_increasing}
use Rattle.std.proofs.lemmas.Grind.{get_or-set_at}
use Rattle.std.proofs.lemmas.Option.{slice_get_past}
use Rattle.node_tree.proofs.RisingLemmas.{rises}
use Rattle.node_tree.specs.declared.node.Node.{Node}
use Rattle.xs_model.specs.declared.value.Value.{Value}
use Rattle.xs_model.specs.declared.value.Value.TheVariants as value
use Rattle.office_types.specs.declared.state_values.ChildValue.{ChildValue}
use Rattle.office_types.specs.ChildValues.{child_value, last_first}
use Rattle.office_types.specs.StateValue.{ActiveNode, active_nodes, children_among, first_value, state_value, value_by_kind}

-- ---- the nodes from a place on

-- the children of a node
abbrev children_from : List Node → List ℕ → ℕ → List ActiveNode
children_from nodes active place = children_among (get_or active place 0) (active_nodes nodes (drop (place + 1) active))

-- those from a place on
from_here : (active : List ℕ) (place : ℕ) → place < length active → drop place active ≡ get_or active place 0 ∷ drop (place + 1) active
from_here active place inside =
    let next : suc place ≡ place + 1 = omega arith in
    drop-cons active place 0 inside ∙ ap (λ k. get_or active place 0 ∷ drop k active) next

-- a node of the tree stands before those after it
node_here : (nodes : List Node) (active : List ℕ) (place : ℕ) (node : Node) → place < length active → slice_get nodes (get_or active place 0) ≡ Some node
    → active_nodes nodes (drop place active) ≡ record { node = node; value = value_by_kind node.kind (children_from nodes active place) } ∷ active_nodes nodes (drop (place + 1) active)
unfolding active_nodes
node_here nodes active place node inside is =
    let later = active_nodes nodes (drop (place + 1) active) in
    ap (active_nodes nodes) (from_here active place inside)
    ∙ ap (λ (o : Option Node). option_map_or (λ (n : Node). let here : ActiveNode = record { node = n; value = value_by_kind n.kind (children_from nodes active place) } in here ∷ later) o later) is

-- a node that the tree doesn't have counts for nothing
node_gone : (nodes : List Node) (active : List ℕ) (place : ℕ) → place < length active → length nodes ≤ get_or active place 0
    → active_nodes nodes (drop place active) ≡ active_nodes nodes (drop (place + 1) active)
unfolding active_nodes
node_gone nodes active place inside past =
    let later = active_nodes nodes (drop (place + 1) active) in
    ap (active_nodes nodes) (from_here active place inside)
    ∙ ap (λ (o : Option Node). option_map_or (λ (n : Node). let here : ActiveNode = record { node = n; value = value_by_kind n.kind (children_from nodes active place) } in here ∷ later) o later)
    (slice_get_past nodes (get_or active place 0) past)

none_inside : (nodes : List Node) (active : List ℕ) → ((k : ℕ) → k < length active → length nodes ≤ get_or active k 0) → active_nodes nodes active ≡ []
unfolding active_nodes
none_inside nodes [] past = refl
none_inside nodes (n ∷ active) past = node_gone nodes (n ∷ active) 0 (omega arith) (past 0 (omega arith)) ∙ none_inside nodes active (λ k inside. past (suc k) (omega (arith, inside)))

-- where no node is active, the value is null
pub none_active : (nodes : List Node) (active : List ℕ) → length active ≡ 0 → state_value nodes active ≡ value.Null
unfolding active_nodes
none_active nodes [] none = refl
none_active nodes (n ∷ active) none = absurd (omega (arith, none))

-- where the first one isn't in the tree, the value is null
pub first_gone : (nodes : List Node) (active : List ℕ) → IsStrictlyIncreasing active → length nodes ≤ get_or active 0 0 → state_value nodes active ≡ value.Null
first_gone nodes active up past = ap first_value (none_inside nodes active (λ k inside. let above = rises active up 0 k (omega arith) inside in omega (arith, above, past)))

-- the value of the first one
pub first_here : (nodes : List Node) (active : List ℕ) (place : ℕ) (node : Node) → place ≡ 0 → place < length active → slice_get nodes (get_or active place 0) ≡ Some node
    → value_by_kind node.kind (children_from nodes active place) ≡ state_value nodes active
first_here nodes active place node first inside is =
    ap first_value (sym (node_here nodes active place node inside is)) ∙ ap (λ p. first_value (active_nodes nodes (drop p active))) first

-- ---- those that wait

-- what waits for a node: its active children, where these are the later nodes
abbrev pub waiting_for : List Node → ℕ → List ℕ → List ChildValue
waiting_for nodes n later = last_first (children_among n (active_nodes nodes later))

-- what waits for the nodes before a place
abbrev pub WaitFor : List Node → List ℕ → List (List ChildValue) → ℕ → Type 0
WaitFor nodes active waiting place = (j : ℕ) → j < length waiting → get_or waiting j [] ≡ waiting_for nodes (get_or active j 0) (drop place active)

pub none_wait : (nodes : List Node) (active : List ℕ) (waiting : List (List ChildValue)) → length waiting ≡ length active
    → ((j : ℕ) → j < length active → get_or waiting j [] ≡ []) → WaitFor nodes active waiting (length waiting)
unfolding active_nodes
none_wait nodes active waiting len empty = λ j inside.
    empty j (omega (arith, len, inside))
    ∙ ap (λ (l : List ℕ). waiting_for nodes (get_or active j 0) l) (sym (drop_of_length-le active (omega (arith, len))))

-- what is left when the last one that is held is taken
pub record IsTaken (nodes : List Node) (active : List ℕ) (held left : List (List ChildValue)) (children : List ChildValue) : Type 0 where
  pub count : length held ≡ length left + 1
  pub taken : children ≡ waiting_for nodes (get_or active (length left) 0) (drop (length left + 1) active)
  pub wait : WaitFor nodes active left (length left + 1)

pub last_taken : (nodes : List Node) (active : List ℕ) (held left : List (List ChildValue)) (children : List ChildValue) → held ≡ left ++ children ∷ []
    → WaitFor nodes active held (length held) → IsTaken nodes active held left children
last_taken nodes active held left children is wait =
    let count : length held ≡ length left + 1 = ap length is ∙ length-append left (children ∷ []) in
    record {
      count = count;
      taken = sym (ap (λ (l : List (List ChildValue)). get_or l (length left) []) is ∙ get_or-append_seam left children [] [])
          ∙ wait (length left) (omega (arith, count))
          ∙ ap (λ p. waiting_for nodes (get_or active (length left) 0) (drop p active)) count;
      wait = λ j inside. sym (ap (λ (l : List (List ChildValue)). get_or l j []) is ∙ get_or-append left (children ∷ []) [] j inside)
          ∙ wait j (omega (arith, count, inside))
          ∙ ap (λ p. waiting_for nodes (get_or active j 0) (drop p active)) count;
    }

-- a child more, or none
waits_if : (b : Bool) (x : ActiveNode) (xs : List ActiveNode) → last_first (cond b (x ∷ xs) xs) ≡ cond b (last_first xs ++ child_value x ∷ []) (last_first xs)
waits_if true x xs = reverse-append (child_value x ∷ []) (map child_value xs)
waits_if false x xs = refl

-- a node waits for its parent
pub wait_more : (nodes : List Node) (active : List ℕ) (place : ℕ) (node : Node) (value : Value) (child : ChildValue) (left new : List (List ChildValue))
    → place < length active → slice_get nodes (get_or active place 0) ≡ Some node
    → value ≡ value_by_kind node.kind (children_from nodes active place)
    → child ≡ child_value (record { node = node; value = value })
    → length new ≡ length left
    → ((j : ℕ) → j < length left → get_or new j [] ≡ cond (option_eq nat_eq node.parent (Some (get_or active j 0))) (get_or left j [] ++ child ∷ []) (get_or left j []))
    → WaitFor nodes active left (place + 1) → WaitFor nodes active new place
wait_more nodes active place node value child left new inside is made child_is len added wait = λ j within.
    let before : j < length left = omega (arith, len, within) in
    let later = active_nodes nodes (drop (place + 1) active) in
    let here : ActiveNode = record { node = node; value = value } in
    let p = get_or active j 0 in
    added j before
    ∙ ap (λ (l : List ChildValue). cond (option_eq nat_eq node.parent (Some p)) (l ++ child ∷ []) l) (wait j before)
    ∙ ap (λ (x : ChildValue). cond (option_eq nat_eq node.parent (Some p)) (waiting_for nodes p (drop (place + 1) active) ++ x ∷ []) (waiting_for nodes p (drop (place + 1) active))) child_is
    ∙ sym (waits_if (option_eq nat_eq node.parent (Some p)) here (children_among p later))
    ∙ ap (λ (v : Value). let one : ActiveNode = record { node = node; value = v } in last_first (children_among p (one ∷ later))) made
    ∙ sym (ap (λ (l : List ActiveNode). last_first (children_among p l)) (node_here nodes active place node inside is))

-- a node that the tree doesn't have waits for none
pub wait_same : (nodes : List Node) (active : List ℕ) (place : ℕ) (left : List (List ChildValue)) → place < length active → length nodes ≤ get_or active place 0
    → WaitFor nodes active left (place + 1) → WaitFor nodes active left place
wait_same nodes active place left inside past wait = λ j within.
    wait j within ∙ sym (ap (λ (l : List ActiveNode). last_first (children_among (get_or active j 0) l)) (node_gone nodes active place inside past))

-- ---- a child under its parent

-- no other one of the active nodes is the one at this place
other_node : (active : List ℕ) (place parent j : ℕ) → IsStrictlyIncreasing active → place < length active → get_or active place 0 ≡ parent → j < length active → j ≢ place
    → nat_eq parent (get_or active j 0) ≡ false
other_node active place parent j up inside is within other = ne_eqb parent (get_or active j 0) (λ same. elim (cases_lt j place) [
  | inl before ↦ let less = AllPairs-from_increasing active up j place 0 before inside in omega (arith, less, is, same)
  | inr after ↦ let less = AllPairs-from_increasing active up place j 0 (omega (arith, after, other)) within in omega (arith, less, is, same)
])

-- what a child added at a place makes of what waits
pub added_at : (active : List ℕ) (waiting : List (List ChildValue)) (place parent : ℕ) (child : ChildValue) (new : List ChildValue)
    → IsStrictlyIncreasing active → length waiting ≤ length active → place < length waiting → get_or active place 0 ≡ parent → new ≡ get_or waiting place [] ++ child ∷ []
    → (j : ℕ) → j < length waiting → get_or (set waiting place new) j [] ≡ cond (nat_eq parent (get_or active j 0)) (get_or waiting j [] ++ child ∷ []) (get_or waiting j [])
added_at active waiting place parent child new up within inside is made = λ j before. elim (cases_eq j place) [
  | inl same ↦
      get_or-set_at waiting place j new [] same inside
      ∙ made ∙ ap (λ k. get_or waiting k [] ++ child ∷ []) (sym same)
      ∙ ap (λ b. cond b (get_or waiting j [] ++ child ∷ []) (get_or waiting j [])) (sym (eq-eqb parent (get_or active j 0) (sym is ∙ ap (λ k. get_or active k 0) (sym same))))
  | inr other ↦
      get_or-set_other waiting place j new [] other
      ∙ ap (λ b. cond b (get_or waiting j [] ++ child ∷ []) (get_or waiting j [])) (sym (other_node active place parent j up (omega (arith, within, inside)) is (omega (arith, within, before)) other))
]

-- where the parent stands behind those that have no value yet, none of these gets a child
pub added_behind : (active : List ℕ) (waiting : List (List ChildValue)) (place parent : ℕ) (child : ChildValue)
    → IsStrictlyIncreasing active → length waiting ≤ length active → length waiting ≤ place → place < length active → get_or active place 0 ≡ parent
    → (j : ℕ) → j < length waiting → get_or waiting j [] ≡ cond (nat_eq parent (get_or active j 0)) (get_or waiting j [] ++ child ∷ []) (get_or waiting j [])
added_behind active waiting place parent child up within behind inside is = λ j before.
    ap (λ b. cond b (get_or waiting j [] ++ child ∷ []) (get_or waiting j [])) (sym (other_node active place parent j up inside is (omega (arith, within, before)) (λ e. absurd (omega (arith, e, behind, before)))))

-- where the parent isn't active, none gets a child
pub added_nowhere : (active : List ℕ) (waiting : List (List ChildValue)) (parent : ℕ) (child : ChildValue)
    → length waiting ≤ length active → ((j : ℕ) → j < length active → get_or active j 0 ≢ parent)
    → (j : ℕ) → j < length waiting → get_or waiting j [] ≡ cond (nat_eq parent (get_or active j 0)) (get_or waiting j [] ++ child ∷ []) (get_or waiting j [])
added_nowhere active waiting parent child within none = λ j before.
    ap (λ b. cond b (get_or waiting j [] ++ child ∷ []) (get_or waiting j [])) (sym (ne_eqb parent (get_or active j 0) (λ e. none j (omega (arith, within, before)) (sym e))))

-- where a search by halves finds a number
pub sought_at : (active : List ℕ) (parent place : ℕ) (answer : Result ℕ ℕ) → IsStrictlyIncreasing active → answer ≡ Ok place
    → IsBinarySearchResult (λ y. nat_cmp y parent) active answer → (place < length active) × (get_or active place 0 ≡ parent)
sought_at active parent place answer up is search =
    let at = searched active parent (Ok place) (subst (λ (r : Result ℕ ℕ). IsBinarySearchResult (λ y. nat_cmp y parent) active r) is search) (rises active up) in
    (at.0, at.1)

-- a number that a search by halves doesn't find is nowhere
pub sought_nowhere : (active : List ℕ) (parent place : ℕ) (answer : Result ℕ ℕ) → IsStrictlyIncreasing active → answer ≡ Err place
    → IsBinarySearchResult (λ y. nat_cmp y parent) active answer → (j : ℕ) → j < length active → get_or active j 0 ≢ parent
sought_nowhere active parent place answer up is search = λ j inside same.
    let at = searched active parent (Err place) (subst (λ (r : Result ℕ ℕ). IsBinarySearchResult (λ y. nat_cmp y parent) active r) is search) (rises active up) in
    absurd (elim (cases_lt j place) [
      | inl before ↦ let below = at.1 j before in omega (arith, below, same)
      | inr after ↦ let above = at.2 j after inside in omega (arith, above, same)
    ])
