-- What a well-formed definition names is there, and its tree is a statechart.
use Rattle.std.proofs.Common.{◌≡◌, ◌<◌, ℕ, List, Option, Some, None, length, All, IfSome, IsSomeAnd, refl, sym, subst}
use Rattle.std.specs.List.{slice_get}
use Rattle.std.proofs.lemmas.Option.{get_or_from_slice_get, slice_get_within}
use Rattle.node_tree.specs.declared.node.Kind.{Kind}
use Rattle.node_tree.specs.declared.node.Kind.TheVariants.{Atomic, Compound, Parallel, Final, Shallow, Deep}
use Rattle.node_tree.specs.declared.node.Node.{Node}
use Rattle.node_tree.specs.Nodes.{IsTree, NamesNodes}
use Rattle.node_tree.specs.Kinds.{IsHistoryKind}
use Rattle.step_sets.specs.Statechart.{HasDefault, IsParentKind, IsStatechart}
use Rattle.step_sets.proofs.TreeLemmas.{child_inside, initial_child, kind_names}
use Rattle.guard_eval.specs.declared.def.Def.{Def}
use Rattle.guard_eval.specs.Definitions.{IsNodeOf, IsRootKind, IsWellFormed}
use Rattle.guard_eval.specs.Laws.{NamesItsNodes, WellFormedIsStatechart}

-- what holds of each item holds of the one at a place
at_place : {X : Type 0} (P : X → Type 0) (xs : List X) (n : ℕ) (x : X) → All P xs → slice_get xs n ≡ Some x → P x
at_place P xs n x all is = subst P (get_or_from_slice_get xs n x x is) (all n x (slice_get_within xs n x is))

default_inside : (nodes : List Node) (h d : ℕ) (kind : Kind) → NamesNodes nodes h kind → HasDefault kind d → d < length nodes
default_inside nodes h d Atomic names has = absurd has
default_inside nodes h d (Compound initial) names has = absurd has
default_inside nodes h d Parallel names has = absurd has
default_inside nodes h d Final names has = absurd has
default_inside nodes h d (Shallow default) names has = subst (λ o. IfSome o (λ d. d < length nodes)) has names
default_inside nodes h d (Deep default) names has = subst (λ o. IfSome o (λ d. d < length nodes)) has names

pub names_its_nodes : (actors : ℕ) (def : Def) → IsTree def.tree → IsWellFormed actors def → NamesItsNodes actors def
names_its_nodes actors def tree well = record {
  transitions = λ n node said. (at_place (IsNodeOf (length def.tree) actors) def.nodes n node well.numbers said).transitions;
  initials = λ p initial is. child_inside def.tree initial p (initial_child def.tree tree p initial is);
  defaults = λ h d kind is has. default_inside def.tree h d kind (kind_names def.tree tree h kind is) has;
}

-- the kind that there is
kind_there : (o : Option Kind) → IsSomeAnd o IsParentKind → (kind : Kind) × (o ≡ Some kind) × IsParentKind kind
kind_there None parent = absurd parent
kind_there (Some kind) parent = (kind, refl, parent)

no_history : (o : Option Kind) → IsSomeAnd o IsRootKind → IsSomeAnd o IsHistoryKind → ⊥
no_history None root history = root
no_history (Some Atomic) root history = history
no_history (Some (Compound initial)) root history = history
no_history (Some Parallel) root history = history
no_history (Some Final) root history = root
no_history (Some (Shallow default)) root history = root
no_history (Some (Deep default)) root history = root

pub is_statechart : WellFormedIsStatechart
is_statechart actors def well = record {
  root = no_history _ well.root;
  parents = λ n p child. kind_there _ (well.parents n p child);
  regions = λ p parallel. well.children p (subst (λ o. IsSomeAnd o IsParentKind) (sym parallel) tt);
  initials = well.initials;
  defaults = well.defaults;
}
