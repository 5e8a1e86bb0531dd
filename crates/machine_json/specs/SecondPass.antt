-- The faults of the second pass: ids that stand twice, texts that lead to no node, targets that
-- clash.
use Rattle.std.specs.Prelude.{◌≡◌, ◌⊎◌, ◌<◌, ℕ, true, ◌&&◌, List, [], Contains, Option, None, Some, codes, is_none, option_map, slice_get}
use Rattle.std.specs.List.{flat_map}
use Rattle.std.specs.Option.{option_map_or}
use Rattle.ordered_json.specs.declared.json.OrderedJson.{OrderedJson}
use Rattle.ordered_json.specs.Words.{MemberParts, get, place_of}
use Rattle.node_tree.specs.declared.node.Node.{Node}
use Rattle.node_tree.specs.Kinds.{IsHistory}
use Rattle.node_tree.specs.Nodes.{IsBelow, IsChild, id_of}
use Rattle.node_tree.specs.Targets.{target_of}
use Rattle.step_sets.specs.Statechart.{AreOrthogonal, CountsFor}
use Rattle.machine_json.specs.declared.fault.MachineFault.{MachineFault}
use Rattle.machine_json.specs.declared.fault.MachineFault.TheVariants.{DoubleId, NoTarget, Clash}
use Rattle.machine_json.specs.declared.role.Role.{Role}
use Rattle.machine_json.specs.declared.role.Role.TheVariants as role
use Rattle.machine_json.specs.Fields.{is_history}
use Rattle.machine_json.specs.FirstPass.{fault_if, items_of}
use Rattle.machine_json.specs.Meaning.{listed, text_of}
use Rattle.machine_json.specs.NodeKinds.{members_of, node_kind}
use Rattle.machine_json.specs.Nodes.{AreNodes, NodeParts}
use Rattle.machine_json.specs.Roles.{is_text, item_role, member_role}
use Rattle.machine_json.specs.Rows.{id_place, open_rows}

-- ---- ids

-- a node whose id an earlier one has, at its id
abbrev pub IsDoubleId : List NodeParts → MachineFault → Type 0
IsDoubleId nodes fault =
    (n earlier : ℕ) × (node : NodeParts) × (earlier < n) × (slice_get nodes n ≡ Some node)
    × (id_of (open_rows nodes) n ≡ id_of (open_rows nodes) earlier) × (fault ≡ DoubleId (id_place node))

-- ---- texts that lead to nodes

-- where a text leads from a source
abbrev pub led_to : List Node → ℕ → OrderedJson → Option ℕ
led_to rows source json = target_of rows source (text_of json)

-- a text that leads to no node
abbrev pub text_faults : List Node → ℕ → OrderedJson → List MachineFault
text_faults rows source json =
    fault_if (is_text json && is_none (led_to rows source json)) (NoTarget (place_of json))

-- two nodes clash: those that count for them aren't in different regions
abbrev pub DoClash : List Node → ℕ → ℕ → Type 0
DoClash rows s t = ¬ ((a b : ℕ) → CountsFor rows s a → CountsFor rows t b → AreOrthogonal rows a b)

-- a target that clashes with an earlier one, at the later one's text
abbrev pub IsClash : List Node → ℕ → List OrderedJson → MachineFault → Type 0
IsClash rows source targets fault =
    (i j : ℕ) × (earlier later : OrderedJson) × (s t : ℕ) × (i < j)
    × (slice_get targets i ≡ Some earlier) × (slice_get targets j ≡ Some later)
    × (led_to rows source earlier ≡ Some s) × (led_to rows source later ≡ Some t)
    × DoClash rows s t × (fault ≡ Clash (place_of later))

-- a node may be the default of a history node: it is below the history node's parent and is no
-- history node
abbrev pub MayBeDefault : List Node → ℕ → ℕ → Type 0
MayBeDefault rows history d =
    ((parent : ℕ) → IsChild rows history parent → IsBelow rows d parent) × ¬ IsHistory rows d

-- the `target` of a history node leads to no node, or to none that may be its default
abbrev pub IsBadDefault : List Node → ℕ → OrderedJson → MachineFault → Type 0
IsBadDefault rows history json fault =
    (target : OrderedJson) × (get (codes "target") (members_of json) ≡ Some target)
    × ((d : ℕ) → led_to rows history target ≡ Some d → ¬ MayBeDefault rows history d)
    × (fault ≡ NoTarget (place_of target))

-- a value has the fault itself, in the text of the source
abbrev pub HasOwnLinkFault : List Node → ℕ → Role → OrderedJson → MachineFault → Type 0
HasOwnLinkFault rows source role.Transitions json fault = Contains (text_faults rows source json) fault
HasOwnLinkFault rows source role.Transition json fault = Contains (text_faults rows source json) fault
HasOwnLinkFault rows source role.Targets json fault =
    Contains (flat_map (text_faults rows source) (listed json)) fault
    ⊎ IsClash rows source (items_of json) fault
HasOwnLinkFault rows source role.Reference json fault = Contains (text_faults rows source json) fault
HasOwnLinkFault rows source _ json fault = ⊥

-- what a member of a node's object is there for, the nodes below the node left out
abbrev pub said_role : Role → Role
said_role role.States = role.Unread
said_role role = role

-- a value that is said of one node has the fault itself, in an item or in the value of a member
pub data HasLinkFault (rows : List Node) (source : ℕ) : Role → OrderedJson → MachineFault → Type 0 where
  own_link : (role : Role) (json : OrderedJson) (fault : MachineFault)
      → HasOwnLinkFault rows source role json fault → HasLinkFault rows source role json fault
  link_in_item : (role : Role) (json : OrderedJson) (fault : MachineFault) (k : ℕ) (item : OrderedJson)
      → slice_get (items_of json) k ≡ Some item
      → HasLinkFault rows source (item_role role) item fault → HasLinkFault rows source role json fault
  link_in_member : (role part : Role) (json : OrderedJson) (fault : MachineFault) (k : ℕ) (member : MemberParts)
      → slice_get (members_of json) k ≡ Some member
      → option_map said_role (member_role role (node_kind json) member.key) ≡ Some part
      → HasLinkFault rows source part member.value fault → HasLinkFault rows source role json fault

-- ---- the second pass

-- the role of a node: the root's or another one's
abbrev pub node_role : NodeParts → Role
node_role node = option_map_or (λ _. role.State) node.parent role.Root

-- a node has the fault in what is said of it
abbrev pub IsLinkFault : List NodeParts → MachineFault → Type 0
IsLinkFault nodes fault =
    (n : ℕ) × (node : NodeParts) × (slice_get nodes n ≡ Some node)
    × HasLinkFault (open_rows nodes) n (node_role node) node.json fault

-- a history node has a default that it may not have
abbrev pub IsDefaultFault : List NodeParts → MachineFault → Type 0
IsDefaultFault nodes fault =
    (n : ℕ) × (node : NodeParts) × (slice_get nodes n ≡ Some node) × (is_history (node_kind node.json) ≡ true)
    × IsBadDefault (open_rows nodes) n node.json fault

-- a fault of the second pass
abbrev pub HasSecondPassFault : OrderedJson → MachineFault → Type 0
HasSecondPassFault text fault =
    (nodes : List NodeParts) × AreNodes 0 None [] text nodes
    × (IsDoubleId nodes fault ⊎ (IsLinkFault nodes fault ⊎ IsDefaultFault nodes fault))
