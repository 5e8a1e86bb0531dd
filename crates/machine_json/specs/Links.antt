-- The faults of texts that lead to nodes, by the parts in which they stand.
use Rattle.std.specs.Prelude.{◌≡◌, ◌⊎◌, ◌<◌, ℕ, true, List, Some, option_map, slice_get}
use Rattle.ordered_json.specs.declared.json.OrderedJson.{OrderedJson}
use Rattle.ordered_json.specs.Words.{MemberParts}
use Rattle.node_tree.specs.declared.node.Node.{Node}
use Rattle.node_tree.specs.Nodes.{id_of}
use Rattle.machine_json.specs.declared.fault.MachineFault.{MachineFault}
use Rattle.machine_json.specs.declared.fault.MachineFault.TheVariants.{DoubleId}
use Rattle.machine_json.specs.declared.kind_word.NodeKind.{NodeKind}
use Rattle.machine_json.specs.declared.role.Role.{Role}
use Rattle.machine_json.specs.Fields.{is_history}
use Rattle.machine_json.specs.NodeKinds.{node_kind}
use Rattle.machine_json.specs.Nodes.{NodeParts}
use Rattle.machine_json.specs.Roles.{member_role}
use Rattle.machine_json.specs.Rows.{id_place}
use Rattle.machine_json.specs.SecondPass.{HasLinkFault, IsBadDefault, node_role, said_role}

-- one of several items in one role has the fault
abbrev pub IsAmongLinkItems : List Node → ℕ → Role → List OrderedJson → MachineFault → Type 0
IsAmongLinkItems rows source role items fault =
    (k : ℕ) × (item : OrderedJson) × (slice_get items k ≡ Some item) × HasLinkFault rows source role item fault

-- the value of a member has the fault, in what the member is there for
abbrev pub HasMemberLinkFault : List Node → ℕ → Role → NodeKind → MemberParts → MachineFault → Type 0
HasMemberLinkFault rows source role kind member fault =
    (part : Role) × (option_map said_role (member_role role kind member.key) ≡ Some part)
    × HasLinkFault rows source part member.value fault

-- one of the members of an object has the fault
abbrev pub IsAmongLinkMembers : List Node → ℕ → Role → NodeKind → List MemberParts → MachineFault → Type 0
IsAmongLinkMembers rows source role kind members fault =
    (k : ℕ) × (member : MemberParts) × (slice_get members k ≡ Some member)
    × HasMemberLinkFault rows source role kind member fault

-- an earlier row has the id of a node
abbrev pub HasOldId : List Node → ℕ → NodeParts → MachineFault → Type 0
HasOldId rows n node fault =
    (earlier : ℕ) × (earlier < n) × (id_of rows n ≡ id_of rows earlier) × (fault ≡ DoubleId (id_place node))

-- the default of a node that is a history node may not be that
abbrev pub HasBadDefault : List Node → ℕ → NodeParts → MachineFault → Type 0
HasBadDefault rows n node fault =
    (is_history (node_kind node.json) ≡ true) × IsBadDefault rows n node.json fault

-- a node has a fault of the second pass
abbrev pub HasNodeFault : List Node → ℕ → NodeParts → MachineFault → Type 0
HasNodeFault rows n node fault =
    HasOldId rows n node fault
    ⊎ (HasLinkFault rows n (node_role node) node.json fault ⊎ HasBadDefault rows n node fault)
