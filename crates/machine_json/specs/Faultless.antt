-- Machine texts, and values in them, in which neither pass finds a fault.
use Rattle.std.specs.Prelude.{◌≡◌, ℕ, List, [], None, Some, slice_get}
use Rattle.ordered_json.specs.declared.json.OrderedJson.{OrderedJson}
use Rattle.ordered_json.specs.Words.{MemberParts}
use Rattle.node_tree.specs.declared.node.Node.{Node}
use Rattle.machine_json.specs.declared.fault.MachineFault.{MachineFault}
use Rattle.machine_json.specs.declared.role.Role.{Role}
use Rattle.machine_json.specs.FirstPass.{HasFaultAs}
use Rattle.machine_json.specs.Nodes.{AreNodes, HasFirstPassFault, NodeParts}
use Rattle.machine_json.specs.SecondPass.{HasLinkFault, HasSecondPassFault}

-- the nodes are those of a text in which neither pass finds a fault
pub record AreFaultless (nodes : List NodeParts) : Type 0 where
  pub text : OrderedJson
  pub are_nodes : AreNodes 0 None [] text nodes
  pub first_pass : (fault : MachineFault) → ¬ HasFirstPassFault text fault
  pub second_pass : (fault : MachineFault) → ¬ HasSecondPassFault text fault

-- neither pass finds a fault in a value of a role that is said of the source
pub record IsFaultlessAs (rows : List Node) (source : ℕ) (role : Role) (json : OrderedJson) : Type 0 where
  pub first_pass : (fault : MachineFault) → ¬ HasFaultAs role json fault
  pub second_pass : (fault : MachineFault) → ¬ HasLinkFault rows source role json fault

-- and in each of several values
abbrev pub AreFaultlessAs : List Node → ℕ → Role → List OrderedJson → Type 0
AreFaultlessAs rows source role jsons =
    (k : ℕ) (json : OrderedJson) → slice_get jsons k ≡ Some json → IsFaultlessAs rows source role json

-- and in what stands under each of several keys
abbrev pub AreFaultlessUnder : List Node → ℕ → Role → List MemberParts → Type 0
AreFaultlessUnder rows source role members =
    (k : ℕ) (member : MemberParts) → slice_get members k ≡ Some member
    → IsFaultlessAs rows source role member.value
