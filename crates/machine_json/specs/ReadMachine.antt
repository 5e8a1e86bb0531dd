-- What linking may rely on of a machine that was read.
use Rattle.std.specs.Prelude.{◌≡◌, ◌<◌, ℕ, List, [], ◌++◌, Some, length, slice_get, All, IfSome, IsSomeAnd, ⊤}
use Rattle.node_tree.specs.declared.node.Kind.{Kind}
use Rattle.node_tree.specs.declared.node.Kind.TheVariants.{Compound}
use Rattle.node_tree.specs.Nodes.{IsBelow, IsChild}
use Rattle.node_tree.specs.Kinds.{IsHistory, kind_of}
use Rattle.step_sets.specs.Statechart.{DoNotClash, HasDefault}
use Rattle.guard_eval.specs.Definitions.{IsAfterType, IsParent, IsPassiveKind, IsRootKind, node_key}
use Rattle.machine_json.specs.declared.machine.Machine.{Machine}
use Rattle.machine_json.specs.declared.machine.UnlinkedDelay.{UnlinkedDelay}
use Rattle.machine_json.specs.declared.machine.UnlinkedGuard.{UnlinkedGuard}
use Rattle.machine_json.specs.declared.machine.UnlinkedGuard.TheFolds.{every-UnlinkedGuard}
use Rattle.machine_json.specs.declared.machine.UnlinkedGuard.TheOpen.{UnlinkedGuard-F}
use Rattle.machine_json.specs.declared.machine.UnlinkedNode.{UnlinkedNode}
use Rattle.machine_json.specs.declared.machine.UnlinkedTransition.{UnlinkedTransition}

-- ---- the numbers of nodes

-- the node that the form of a guard asks for, if it asks for one, is one of so many
abbrev pub AsksInside : ℕ → UnlinkedGuard-F UnlinkedGuard → Type 0
AsksInside nodes (UnlinkedGuard-F.In node) = node < nodes
AsksInside nodes _ = ⊤

-- each node that a guard asks for, at any depth, is one of so many
abbrev pub GuardStaysInside : ℕ → UnlinkedGuard → Type 0
GuardStaysInside nodes = every-UnlinkedGuard (AsksInside nodes)

-- each node that a transition names is one of so many
pub record StaysInside (nodes : ℕ) (transition : UnlinkedTransition) : Type 0 where
  pub source : transition.source < nodes
  pub targets : All (λ target. target < nodes) transition.targets
  pub guard : IfSome transition.guard (GuardStaysInside nodes)

-- ---- what is said of the nodes

-- the transitions of a node: those for events, and those without
abbrev pub unlinked_transitions : UnlinkedNode → List UnlinkedTransition
unlinked_transitions node = node.transitions ++ node.always

-- what is said of a node
abbrev pub IsUnlinkedOf : Machine → ℕ → UnlinkedNode → Type 0
IsUnlinkedOf machine n node = slice_get machine.nodes n ≡ Some node

-- each transition of each node is so
abbrev pub EachUnlinked : Machine → (ℕ → UnlinkedTransition → Type 0) → Type 0
EachUnlinked machine IsSo =
    (n : ℕ) (node : UnlinkedNode) → IsUnlinkedOf machine n node → All (IsSo n) (unlinked_transitions node)

-- each delay of a node makes an event of a type that is a delay's alone
abbrev pub HasUnlinkedAfterTypes : UnlinkedNode → Type 0
HasUnlinkedAfterTypes node = All (λ (delay : List ℕ × UnlinkedDelay). IsAfterType delay.0) node.after

-- ---- machines that were read

-- a machine that is well formed but for the names of the table
pub record IsReadMachine (machine : Machine) : Type 0 where
  -- it says something of each node of its tree, and of no other
  pub one_each : length machine.nodes ≡ length machine.tree
  -- each node that its transitions name is one of the tree
  pub numbers : EachUnlinked machine (λ n transition. StaysInside (length machine.tree) transition)
  -- the root is neither final nor a history node
  pub root : IsSomeAnd (kind_of machine.tree 0) IsRootKind
  -- atomic, final and history nodes have no children
  pub parents : (n p : ℕ) → IsChild machine.tree n p → IsParent machine.tree p
  -- no two children of one node have the same key
  pub keys : (a b p : ℕ) → IsChild machine.tree a p → IsChild machine.tree b p
      → node_key machine.tree a ≡ node_key machine.tree b → a ≡ b
  -- compound and parallel nodes have a child that is no history node
  pub children : (p : ℕ) → IsParent machine.tree p
      → (n : ℕ) × IsChild machine.tree n p × ¬ IsHistory machine.tree n
  -- no initial child is a history node
  pub initials : (p initial : ℕ) → kind_of machine.tree p ≡ Some (Compound initial)
      → ¬ IsHistory machine.tree initial
  -- no history default is a history node, and each is below its history node's parent
  pub defaults : (h d p : ℕ) (kind : Kind) → kind_of machine.tree h ≡ Some kind → HasDefault kind d
      → IsChild machine.tree h p → IsBelow machine.tree d p × ¬ IsHistory machine.tree d
  -- each transition has the node that it is said of as its source
  pub sources : EachUnlinked machine (λ n transition. transition.source ≡ n)
  -- final and history nodes have no transitions
  pub passive : (n : ℕ) (node : UnlinkedNode) → IsUnlinkedOf machine n node
      → IsSomeAnd (kind_of machine.tree n) IsPassiveKind → unlinked_transitions node ≡ []
  -- the events of delays have types that are theirs alone
  pub after : All HasUnlinkedAfterTypes machine.nodes
  -- no two targets of a transition clash
  pub targets : EachUnlinked machine (λ n transition. DoNotClash machine.tree transition.targets)
