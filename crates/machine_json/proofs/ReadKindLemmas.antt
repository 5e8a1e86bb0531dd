-- The kinds of a tree's nodes, as the texts of the nodes give them.
use Rattle.std.proofs.Common.{◌≡◌, ℕ, Bool, true, false, List, Option, None, Some, refl, sym, ap, ◌∙◌, subst}
use Rattle.std.specs.Prelude.{IsSomeAnd, option_and_then, option_map, slice_get, ⊤}
use Rattle.node_tree.specs.declared.node.Kind.{Kind}
use Rattle.node_tree.specs.declared.node.Kind.TheVariants as kind
use Rattle.node_tree.specs.declared.node.Node.{Node}
use Rattle.node_tree.specs.Kinds.{IsHistory, IsHistoryKind, kind_of, with_default}
use Rattle.node_tree.specs.Nodes.{parent_of}
use Rattle.step_sets.specs.Statechart.{IsParentKind}
use Rattle.guard_eval.specs.Definitions.{IsPassiveKind, IsRootKind, node_key}
use Rattle.machine_json.specs.declared.kind_word.NodeKind.{NodeKind}
use Rattle.machine_json.specs.declared.kind_word.NodeKind.TheVariants.{Atomic, Compound, Parallel, Final, History}
use Rattle.machine_json.specs.Fields.{is_history, is_inner}
use Rattle.machine_json.specs.Machines.{IsTreeOf, named_default, row_with_default}
use Rattle.machine_json.specs.NodeKinds.{node_kind}
use Rattle.machine_json.specs.Nodes.{NodeParts}
use Rattle.machine_json.specs.Rows.{initial_number, is_deep, kind_with_initial, open_rows, row_of}
use Rattle.machine_json.proofs.RowLemmas.{row_at}

-- ---- the kind of one node

-- the kind of a tree's node is one that the kind of a text gives
abbrev pub IsKindOf : ℕ → NodeKind → Kind → Type 0
IsKindOf initial Atomic it = it ≡ kind.Atomic
IsKindOf initial Compound it = it ≡ kind.Compound initial
IsKindOf initial Parallel it = it ≡ kind.Parallel
IsKindOf initial Final it = it ≡ kind.Final
IsKindOf initial History it = IsHistoryKind it

-- a kind with a default, where there is one
abbrev kind_given : Option ℕ → Kind → Kind
kind_given None it = it
kind_given (Some d) it = with_default it d

given_is : (named : Option ℕ) (initial : ℕ) (x : NodeParts) (deep : Bool) (given : NodeKind) → is_deep x ≡ deep
    → IsKindOf initial given (kind_given named (kind_with_initial initial x given))
given_is None initial x deep Atomic is = refl
given_is None initial x deep Compound is = refl
given_is None initial x deep Parallel is = refl
given_is None initial x deep Final is = refl
given_is None initial x true History is = rw is tt
given_is None initial x false History is = rw is tt
given_is (Some d) initial x deep Atomic is = refl
given_is (Some d) initial x deep Compound is = refl
given_is (Some d) initial x deep Parallel is = refl
given_is (Some d) initial x deep Final is = refl
given_is (Some d) initial x true History is = rw is tt
given_is (Some d) initial x false History is = rw is tt

with_kind : (named : Option ℕ) (row : Node) → (row_with_default named row).kind ≡ kind_given named row.kind
with_kind None row = refl
with_kind (Some d) row = refl

with_parent : (named : Option ℕ) (row : Node) → (row_with_default named row).parent ≡ row.parent
with_parent None row = refl
with_parent (Some d) row = refl

with_key : (named : Option ℕ) (row : Node) → (row_with_default named row).key ≡ row.key
with_key None row = refl
with_key (Some d) row = refl

-- ---- the nodes of a tree

module _ (nodes : List NodeParts) (tree : List Node) (is : IsTreeOf nodes tree) (n : ℕ) (x : NodeParts) (at : slice_get nodes n ≡ Some x) where
  tree_at : slice_get tree n ≡ Some (row_with_default (named_default (open_rows nodes) n x) (row_of nodes n x))
  tree_at = is.rows n x (row_of nodes n x) at (row_at nodes n x at)

  -- a node of the tree has the parent, the key and the kind of its text
  pub parent_in_tree : parent_of tree n ≡ x.parent
  parent_in_tree =
      ap (option_and_then (λ (row : Node). row.parent)) tree_at ∙ with_parent (named_default (open_rows nodes) n x) (row_of nodes n x)

  pub key_in_tree : node_key tree n ≡ Some x.key
  key_in_tree =
      ap (option_map (λ (row : Node). row.key)) tree_at ∙ ap Some (with_key (named_default (open_rows nodes) n x) (row_of nodes n x))

  pub tree_kind : (it : Kind) × (kind_of tree n ≡ Some it) × IsKindOf (initial_number nodes n x) (node_kind x.json) it
  tree_kind =
      let initial = initial_number nodes n x in
      let named = named_default (open_rows nodes) n x in (
        kind_given named (kind_with_initial initial x (node_kind x.json)),
        ap (option_map (λ (row : Node). row.kind)) tree_at ∙ ap Some (with_kind named (row_of nodes n x)),
        given_is named initial x (is_deep x) (node_kind x.json) refl,
      )

-- what holds of the kind of a node, and of the one that it has
pub of_kind : (tree : List Node) (n : ℕ) (it : Kind) (P : Kind → Type 0) → kind_of tree n ≡ Some it → P it → IsSomeAnd (kind_of tree n) P
of_kind tree n it P is holds = subst (λ (o : Option Kind). IsSomeAnd o P) (sym is) holds

pub to_kind : (tree : List Node) (n : ℕ) (it : Kind) (P : Kind → Type 0) → kind_of tree n ≡ Some it → IsSomeAnd (kind_of tree n) P → P it
to_kind tree n it P is holds = subst (λ (o : Option Kind). IsSomeAnd o P) is holds

-- ---- what kinds are

-- compound or parallel
abbrev pub MayHaveChildren : NodeKind → Type 0
MayHaveChildren Compound = ⊤
MayHaveChildren Parallel = ⊤
MayHaveChildren Atomic = ⊥
MayHaveChildren Final = ⊥
MayHaveChildren History = ⊥

pub parent_kind : (initial : ℕ) (given : NodeKind) (it : Kind) → IsKindOf initial given it → MayHaveChildren given → IsParentKind it
parent_kind initial Compound it is may = subst IsParentKind (sym is) tt
parent_kind initial Parallel it is may = subst IsParentKind (sym is) tt
parent_kind initial Atomic it is may = absurd may
parent_kind initial Final it is may = absurd may
parent_kind initial History it is may = absurd may

no_history_parent : (it : Kind) → IsHistoryKind it → IsParentKind it → ⊥
no_history_parent kind.Atomic history parental = history
no_history_parent (kind.Compound initial) history parental = history
no_history_parent kind.Parallel history parental = history
no_history_parent kind.Final history parental = history
no_history_parent (kind.Shallow default) history parental = parental
no_history_parent (kind.Deep default) history parental = parental

pub may_have_children : (initial : ℕ) (given : NodeKind) (it : Kind) → IsKindOf initial given it → IsParentKind it → MayHaveChildren given
may_have_children initial Compound it is parental = tt
may_have_children initial Parallel it is parental = tt
may_have_children initial Atomic it is parental = let never : ⊥ = subst IsParentKind is parental in absurd never
may_have_children initial Final it is parental = let never : ⊥ = subst IsParentKind is parental in absurd never
may_have_children initial History it is parental = absurd (no_history_parent it is parental)

pub root_kind : (initial : ℕ) (given : NodeKind) (it : Kind) → IsKindOf initial given it → is_inner given ≡ true → IsRootKind it
root_kind initial Atomic it is inner = subst IsRootKind (sym is) tt
root_kind initial Compound it is inner = subst IsRootKind (sym is) tt
root_kind initial Parallel it is inner = subst IsRootKind (sym is) tt
root_kind initial Final it is inner = absurd (cc)
root_kind initial History it is inner = absurd (cc)

pub passive_kind : (initial : ℕ) (given : NodeKind) (it : Kind) → IsKindOf initial given it → IsPassiveKind it → is_inner given ≡ false
passive_kind initial Atomic it is passive = let never : ⊥ = subst IsPassiveKind is passive in absurd never
passive_kind initial Compound it is passive = let never : ⊥ = subst IsPassiveKind is passive in absurd never
passive_kind initial Parallel it is passive = let never : ⊥ = subst IsPassiveKind is passive in absurd never
passive_kind initial Final it is passive = refl
passive_kind initial History it is passive = refl

pub no_history_kind : (initial : ℕ) (given : NodeKind) (it : Kind) → IsKindOf initial given it → is_history given ≡ false → IsHistoryKind it → ⊥
no_history_kind initial Atomic it is other history = let never : ⊥ = subst IsHistoryKind is history in never
no_history_kind initial Compound it is other history = let never : ⊥ = subst IsHistoryKind is history in never
no_history_kind initial Parallel it is other history = let never : ⊥ = subst IsHistoryKind is history in never
no_history_kind initial Final it is other history = let never : ⊥ = subst IsHistoryKind is history in never
no_history_kind initial History it is other history = let never : true ≡ false = other in absurd (cc)

pub compound_kind : (initial : ℕ) (given : NodeKind) (named : ℕ) → IsKindOf initial given (kind.Compound named) → (given ≡ Compound) × (named ≡ initial)
compound_kind initial Compound named is = (refl, cc)
compound_kind initial Atomic named is = absurd (cc)
compound_kind initial Parallel named is = absurd (cc)
compound_kind initial Final named is = absurd (cc)
compound_kind initial History named is = absurd is

-- a node whose text isn't a history node's is none
pub not_history_in_tree : (nodes : List NodeParts) (tree : List Node) (n : ℕ) (x : NodeParts) → IsTreeOf nodes tree → slice_get nodes n ≡ Some x
    → is_history (node_kind x.json) ≡ false → ¬ IsHistory tree n
not_history_in_tree nodes tree n x is at other history =
    let told = tree_kind nodes tree is n x at in
    no_history_kind (initial_number nodes n x) (node_kind x.json) told.0 told.2 other (to_kind tree n told.0 IsHistoryKind told.1 history)
