-- The nodes of a machine text in document order: a parent before its children, and those in the
-- order of
-- the text.
use Rattle.std.specs.Prelude.{◌≡◌, ◌⊎◌, ℕ, ◌+◌, List, [], ◌∷◌, ◌++◌, length, Option, None, Some, slice_get}
use Rattle.ordered_json.specs.declared.json.OrderedJson.{OrderedJson}
use Rattle.ordered_json.specs.Words.{MemberParts, place_of}
use Rattle.machine_json.specs.declared.fault.MachineFault.{MachineFault}
use Rattle.machine_json.specs.declared.fault.MachineFault.TheVariants.{TooMany}
use Rattle.machine_json.specs.declared.nodes.TheConstants.{MAX_NODES}
use Rattle.machine_json.specs.declared.nodes.NodeText.{NodeText}
use Rattle.machine_json.specs.declared.role.Role.TheVariants as role
use Rattle.machine_json.specs.FirstPass.{HasFaultAs}
use Rattle.machine_json.specs.NodeKinds.{children_of, members_of}

-- a node: the number of its parent, its key, and its text
pub record NodeParts : Type 0 where
  pub parent : Option ℕ
  pub key : List ℕ
  pub json : OrderedJson

-- the node that a text of one is
abbrev pub node_parts : NodeText → NodeParts
node_parts node = record { parent = node.parent; key = node.key.now; json = node.json.now }

mutual
  -- a value is a node of a number and a parent; behind it come the nodes below it
  pub data AreNodes : ℕ → Option ℕ → List ℕ → OrderedJson → List NodeParts → Type 0 where
    node : (number : ℕ) (parent : Option ℕ) (key : List ℕ) (json : OrderedJson) (below : List NodeParts)
        → AreNodesBelow (number + 1) number (children_of (members_of json)) below
        → AreNodes number parent key json ((record { parent = parent; key = key; json = json }) ∷ below)

  -- the children of a node, each with those below it
  pub data AreNodesBelow : ℕ → ℕ → List MemberParts → List NodeParts → Type 0 where
    none : (next parent : ℕ) → AreNodesBelow next parent [] []
    more : (next parent : ℕ) (child : MemberParts) (children : List MemberParts) (nodes later : List NodeParts)
        → AreNodes next (Some parent) child.key child.value nodes
        → AreNodesBelow (next + length nodes) parent children later
        → AreNodesBelow next parent (child ∷ children) (nodes ++ later)

-- the new nodes are the old ones, and behind them some that are so
abbrev pub AddsNodes : List NodeParts → List NodeParts → (List NodeParts → Type 0) → Type 0
AddsNodes old new AreAdded = (added : List NodeParts) × (new ≡ old ++ added) × AreAdded added

-- one node more than a machine may have, at that node
abbrev pub IsTooMany : OrderedJson → MachineFault → Type 0
IsTooMany text fault =
    (nodes : List NodeParts) × AreNodes 0 None [] text nodes
    × (extra : NodeParts) × (slice_get nodes MAX_NODES ≡ Some extra) × (fault ≡ TooMany (place_of extra.json))

-- a fault of the first pass
abbrev pub HasFirstPassFault : OrderedJson → MachineFault → Type 0
HasFirstPassFault text fault = HasFaultAs role.Root text fault ⊎ IsTooMany text fault

-- the nodes are those of a text in which the first pass finds no fault
pub record AreFaultlessAtFirst (nodes : List NodeParts) : Type 0 where
  pub text : OrderedJson
  pub are_nodes : AreNodes 0 None [] text nodes
  pub first_pass : (fault : MachineFault) → ¬ HasFirstPassFault text fault
