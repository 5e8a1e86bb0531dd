-- What follows from the definitions, in the words of one who reads a machine.
use Rattle.std.specs.Prelude.{◌≡◌, ◌<◌, ℕ, Some, length}
use Rattle.node_tree.specs.declared.node.Kind.{Kind}
use Rattle.node_tree.specs.declared.node.Kind.TheVariants.{Compound}
use Rattle.node_tree.specs.Kinds.{kind_of}
use Rattle.step_sets.specs.Statechart.{HasDefault, IsStatechart}
use Rattle.guard_eval.specs.declared.def.Def.{Def}
use Rattle.guard_eval.specs.Definitions.{EachTransition, IsTransitionOf, IsWellFormed}

-- whatever a definition names as a node is one of its tree
pub record NamesItsNodes (actors : ℕ) (def : Def) : Type 0 where
  -- sources, targets and the nodes that guards ask for
  pub transitions : EachTransition def (λ n transition. IsTransitionOf (length def.tree) actors transition)
  -- initial children
  pub initials : (p initial : ℕ) → kind_of def.tree p ≡ Some (Compound initial)
      → initial < length def.tree
  -- history defaults
  pub defaults : (h d : ℕ) (kind : Kind) → kind_of def.tree h ≡ Some kind → HasDefault kind d
      → d < length def.tree

-- a well-formed definition names nodes of its tree
abbrev pub WellFormedNamesItsNodes : Def → Type 0
WellFormedNamesItsNodes def = (actors : ℕ) → IsWellFormed actors def → NamesItsNodes actors def

-- the tree of a well-formed definition is a statechart, as the laws on legal configurations ask
abbrev pub WellFormedIsStatechart : Type 0
WellFormedIsStatechart = (actors : ℕ) (def : Def) → IsWellFormed actors def → IsStatechart def.tree
