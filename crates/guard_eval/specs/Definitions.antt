-- Which definitions are well formed: those that linking gives, and that each step is taken in.
use Rattle.std.specs.Prelude.{◌≡◌, ◌<◌, ℕ, List, [], ◌++◌, Option, Some, length, slice_get, All, IfSome, IsSomeAnd, codes, ⊤}
use Rattle.std.specs.Option.{option_map}
use Rattle.xs_model.specs.declared.action.Action.{Action}
use Rattle.xs_model.specs.declared.action.Action.TheFolds.{every-Action}
use Rattle.xs_model.specs.declared.action.Action.TheOpen.{Action-F, ActionItem-F}
use Rattle.xs_model.specs.declared.action.ActionItem.{ActionItem}
use Rattle.xs_model.specs.declared.expr.Expr.{Expr}
use Rattle.node_tree.specs.declared.node.Kind.{Kind}
use Rattle.node_tree.specs.declared.node.Kind.TheVariants.{Atomic, Compound, Parallel, Final, Shallow, Deep}
use Rattle.node_tree.specs.declared.node.Node.{Node}
use Rattle.node_tree.specs.Nodes.{IsBelow, IsChild}
use Rattle.node_tree.specs.Kinds.{Nodes, kind_of, IsHistory}
use Rattle.step_sets.specs.Statechart.{DoNotClash, HasDefault, IsParentKind}
use Rattle.guard_eval.specs.declared.def.Def.{Def}
use Rattle.guard_eval.specs.declared.def.Invocation.{Invocation}
use Rattle.guard_eval.specs.declared.def.NodeDef.{NodeDef}
use Rattle.guard_eval.specs.declared.guard.GuardUse.{GuardUse}
use Rattle.guard_eval.specs.declared.guard.GuardUse.TheFolds.{every-GuardUse}
use Rattle.guard_eval.specs.declared.guard.GuardUse.TheOpen.{GuardUse-F}
use Rattle.guard_eval.specs.declared.transition.ActionUse.{ActionUse}
use Rattle.guard_eval.specs.declared.transition.Transition.{Transition}

-- ---- the numbers of nodes and actors

-- the node that the form asks for, if it asks for one, is one of so many
abbrev pub AsksForNode : ℕ → GuardUse-F GuardUse → Type 0
AsksForNode nodes (GuardUse-F.In node) = node < nodes
AsksForNode nodes _ = ⊤

-- each node that a guard asks for, at any depth, is one of so many
abbrev pub AsksForNodes : ℕ → GuardUse → Type 0
AsksForNodes nodes = every-GuardUse (AsksForNode nodes)

-- the actor that the form starts, if it starts one, is one of so many
abbrev pub StartsActor : ℕ → Action-F Action ActionItem → Type 0
StartsActor actors (Action-F.SpawnChild src id input system) = src < actors
StartsActor actors _ = ⊤

-- an item of `enqueueActions` starts no actor but through its actions
abbrev pub StartsNone : ActionItem-F Action ActionItem → Type 0
StartsNone _ = ⊤

-- each actor that an action starts, at any depth, is one of so many
abbrev pub StartsActors : ℕ → ActionUse → Type 0
StartsActors actors action_use = every-Action (StartsActor actors) StartsNone action_use.action

-- each number in the transition is one of so many nodes or actors
pub record IsTransitionOf (nodes actors : ℕ) (transition : Transition) : Type 0 where
  pub source : transition.source < nodes
  pub targets : All (λ target. target < nodes) transition.targets
  pub guard : IfSome transition.guard (AsksForNodes nodes)
  pub actions : All (StartsActors actors) transition.actions

-- the transitions of a node: those for events, and those without
abbrev pub transitions_of : NodeDef → List Transition
transitions_of node = node.transitions ++ node.always

-- each number in what is said of a node is one of so many nodes or actors
pub record IsNodeOf (nodes actors : ℕ) (node : NodeDef) : Type 0 where
  pub entry : All (StartsActors actors) node.entry
  pub exit : All (StartsActors actors) node.exit
  pub transitions : All (IsTransitionOf nodes actors) (transitions_of node)
  pub invoke : All (λ (invocation : Invocation). invocation.src < actors) node.invoke

-- ---- the tree

-- atomic, compound or parallel
abbrev pub IsRootKind : Kind → Type 0
IsRootKind Atomic = ⊤
IsRootKind (Compound initial) = ⊤
IsRootKind Parallel = ⊤
IsRootKind Final = ⊥
IsRootKind (Shallow default) = ⊥
IsRootKind (Deep default) = ⊥

-- final, or a history node
abbrev pub IsPassiveKind : Kind → Type 0
IsPassiveKind Atomic = ⊥
IsPassiveKind (Compound initial) = ⊥
IsPassiveKind Parallel = ⊥
IsPassiveKind Final = ⊤
IsPassiveKind (Shallow default) = ⊤
IsPassiveKind (Deep default) = ⊤

-- compound or parallel
abbrev pub IsParent : Nodes → ℕ → Type 0
IsParent nodes n = IsSomeAnd (kind_of nodes n) IsParentKind

-- the key of a node
abbrev pub node_key : Nodes → ℕ → Option (List ℕ)
node_key nodes n = option_map (λ (node : Node). node.key) (slice_get nodes n)

-- what is said of a node
abbrev pub IsSaidOf : Def → ℕ → NodeDef → Type 0
IsSaidOf def n node = slice_get def.nodes n ≡ Some node

-- each transition of each node is so
abbrev pub EachTransition : Def → (ℕ → Transition → Type 0) → Type 0
EachTransition def IsSo =
    (n : ℕ) (node : NodeDef) → IsSaidOf def n node → All (IsSo n) (transitions_of node)

-- ---- delays

-- a type of the events that delays make
abbrev pub IsAfterType : List ℕ → Type 0
IsAfterType type = (rest : List ℕ) × (type ≡ codes "xstate.after." ++ rest)

-- each delay of a node makes an event of such a type
abbrev pub HasAfterTypes : NodeDef → Type 0
HasAfterTypes node = All (λ (delay : List ℕ × Expr). IsAfterType delay.0) node.after

-- ---- well-formed definitions

-- a definition that is well formed beside a table of so many actors
pub record IsWellFormed (actors : ℕ) (def : Def) : Type 0 where
  -- it says something of each node of its tree, and of no other
  pub one_each : length def.nodes ≡ length def.tree
  -- each node and each actor that it names is one of the tree or of the table
  pub numbers : All (IsNodeOf (length def.tree) actors) def.nodes
  -- the root is neither final nor a history node
  pub root : IsSomeAnd (kind_of def.tree 0) IsRootKind
  -- atomic, final and history nodes have no children
  pub parents : (n p : ℕ) → IsChild def.tree n p → IsParent def.tree p
  -- no two children of one node have the same key
  pub keys : (a b p : ℕ) → IsChild def.tree a p → IsChild def.tree b p
      → node_key def.tree a ≡ node_key def.tree b → a ≡ b
  -- compound and parallel nodes have a child that is no history node
  pub children : (p : ℕ) → IsParent def.tree p
      → (n : ℕ) × IsChild def.tree n p × ¬ IsHistory def.tree n
  -- no initial child is a history node
  pub initials : (p initial : ℕ) → kind_of def.tree p ≡ Some (Compound initial)
      → ¬ IsHistory def.tree initial
  -- no history default is a history node, and each is below its history node's parent
  pub defaults : (h d p : ℕ) (kind : Kind) → kind_of def.tree h ≡ Some kind → HasDefault kind d
      → IsChild def.tree h p → IsBelow def.tree d p × ¬ IsHistory def.tree d
  -- each transition has the node that it is said of as its source
  pub sources : EachTransition def (λ n transition. transition.source ≡ n)
  -- final and history nodes have no transitions
  pub passive : (n : ℕ) (node : NodeDef) → IsSaidOf def n node
      → IsSomeAnd (kind_of def.tree n) IsPassiveKind → transitions_of node ≡ []
  -- the events of delays have types that are theirs alone
  pub after : All HasAfterTypes def.nodes
  -- no two targets of a transition clash
  pub targets : EachTransition def (λ n transition. DoNotClash def.tree transition.targets)
