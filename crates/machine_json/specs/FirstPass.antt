-- The faults of the first pass: those of the values, the keys and the nodes of a machine text.
use Rattle.std.specs.Prelude.{◌≡◌, ◌⊎◌, ℕ, Bool, true, false, not, ◌&&◌, ◌||◌, ◌==◌, List, [], ◌∷◌, ◌++◌, Contains, Option, None, Some, MatchOption, codes, is_none, nat_le, nat_lt, option_map, option_to_list, slice_get, unwrap_or, if◌then◌else◌}
use Rattle.std.specs.List.{list_all, list_any}
use Rattle.std.specs.Option.{option_map_or}
use Rattle.std.specs.Str.{bytes_eq}
use Rattle.ordered_json.specs.declared.json.OrderedJson.{OrderedJson}
use Rattle.ordered_json.specs.Words.{MemberParts, as_list, get, place_of}
use Rattle.machine_json.specs.declared.fault.MachineFault.{MachineFault}
use Rattle.machine_json.specs.declared.fault.MachineFault.TheVariants.{UnknownField, BadKind, NoInitial, EmptyStates}
use Rattle.machine_json.specs.declared.kind_word.NodeKind.{NodeKind}
use Rattle.machine_json.specs.declared.kind_word.NodeKind.TheVariants.{Atomic, Compound, Parallel, Final, History}
use Rattle.machine_json.specs.declared.role.Role.{Role}
use Rattle.machine_json.specs.declared.role.Role.TheVariants as role
use Rattle.machine_json.specs.declared.expressions.FormPlace.TheVariants.{AtObject}
use Rattle.machine_json.specs.Expressions.{HasUnknownForm}
use Rattle.machine_json.specs.FirstFaults.{IsFirst}
use Rattle.machine_json.specs.MachineFaults.{machine_fault_number, machine_fault_place}
use Rattle.machine_json.specs.NodeKinds.{children_of, members_of, node_kind}
use Rattle.machine_json.specs.Fields.{is_history}
use Rattle.machine_json.specs.Roles.{is_empty, is_text_with, item_role, member_role, takes, takes_key}

-- ---- which of several faults is answered

-- whether a fault stands before another one, or at its place with no greater number
abbrev pub comes_first : MachineFault → MachineFault → Bool
comes_first a b =
    nat_lt (machine_fault_place a) (machine_fault_place b)
    || ((machine_fault_place a == machine_fault_place b)
    && nat_le (machine_fault_number a) (machine_fault_number b))

-- the one of two faults that is answered
abbrev pub earlier : Option MachineFault → Option MachineFault → Option MachineFault
earlier None b = b
earlier (Some x) None = Some x
earlier (Some x) (Some y) = if comes_first x y then Some x else Some y

-- the one of several faults that is answered
abbrev pub earliest : List MachineFault → Option MachineFault
earliest [] = None
earliest (x ∷ xs) = earlier (Some x) (earliest xs)

-- the first of the faults that there are, or that there are none
abbrev pub TellsFirst : Option MachineFault → (MachineFault → Type 0) → Type 0
TellsFirst found IsThere =
    MatchOption found ((fault : MachineFault) → ¬ IsThere fault)
    (IsFirst machine_fault_place machine_fault_number IsThere)

-- ---- the faults of one value

-- a fault, where a test holds
abbrev pub fault_if : Bool → MachineFault → List MachineFault
fault_if true fault = fault ∷ []
fault_if false fault = []

-- a fault at a value, where there is the value
abbrev pub fault_at : (ℕ → MachineFault) → Option OrderedJson → List MachineFault
fault_at fault value = option_to_list (option_map (λ json. fault (place_of json)) value)

-- a node of type `atomic` with children, at its `type`
abbrev pub atomic_faults : NodeKind → List MemberParts → List MachineFault
atomic_faults Atomic members =
    if is_empty (children_of members) then [] else fault_at BadKind (get (codes "type") members)
atomic_faults _ members = []

-- the first of two values that there are
abbrev pub either : Option OrderedJson → Option OrderedJson → Option OrderedJson
either (Some a) b = Some a
either None b = b

-- `type` where there is one, or else `history`
abbrev pub kind_value : List MemberParts → Option OrderedJson
kind_value members = either (get (codes "type") members) (get (codes "history") members)

-- a root that is final or a history node, at what makes it so
abbrev pub root_faults : Bool → NodeKind → List MemberParts → List MachineFault
root_faults true Final members = fault_at BadKind (kind_value members)
root_faults true History members = fault_at BadKind (kind_value members)
root_faults _ _ members = []

-- whether a child is a history node
abbrev pub is_history_child : MemberParts → Bool
is_history_child child = is_history (node_kind child.value)

-- whether a child has the key and is no history node
abbrev pub is_initial_child : List ℕ → MemberParts → Bool
is_initial_child key child = bytes_eq child.key key && not (is_history_child child)

-- whether a key is that of a child that is no history node
abbrev pub names_initial : List MemberParts → List ℕ → Bool
names_initial children key = list_any (is_initial_child key) children

-- an `initial` that is a text, but none that may stand there
abbrev pub initial_text_faults : (List ℕ → Bool) → OrderedJson → List MachineFault
initial_text_faults may_stand json =
    fault_if (is_text_with (λ key. not (may_stand key)) json) (NoInitial (place_of json))

-- a compound node has an initial child, and an atomic node has none
abbrev pub initial_faults : NodeKind → List MemberParts → ℕ → List MachineFault
initial_faults Compound members place =
    option_map_or (initial_text_faults (names_initial (children_of members)))
    (get (codes "initial") members) (NoInitial place ∷ [])
initial_faults Atomic members place =
    option_map_or (initial_text_faults (λ _. false)) (get (codes "initial") members) []
initial_faults _ members place = []

-- a compound or parallel node has a child that is no history node
abbrev pub empty_faults : NodeKind → List MemberParts → ℕ → List MachineFault
empty_faults Compound members place =
    fault_if (list_all is_history_child (children_of members)) (EmptyStates place)
empty_faults Parallel members place =
    fault_if (list_all is_history_child (children_of members)) (EmptyStates place)
empty_faults _ members place = []

-- the faults of a node of a kind, the root or another one
abbrev pub kind_faults : Bool → NodeKind → List MemberParts → ℕ → List MachineFault
kind_faults root kind members place =
    (atomic_faults kind members ++ root_faults root kind members)
    ++ (initial_faults kind members place ++ empty_faults kind members place)

-- the faults that a value has as a node
abbrev pub node_faults : Bool → OrderedJson → List MachineFault
node_faults root json = kind_faults root (node_kind json) (members_of json) (place_of json)

-- a value that its role doesn't take
abbrev pub value_faults : Role → OrderedJson → List MachineFault
value_faults role json = fault_if (not (takes role json)) (BadKind (place_of json))

-- the faults of a value itself
abbrev pub own_faults : Role → OrderedJson → List MachineFault
own_faults role.Root json = value_faults role.Root json ++ node_faults true json
own_faults role.State json = value_faults role.State json ++ node_faults false json
own_faults role json = value_faults role json

-- a fault of what is an unknown form of an expression, at its object
abbrev pub IsFormFault : OrderedJson → MachineFault → Type 0
IsFormFault json fault = (place : ℕ) × (BadKind place ≡ fault) × HasUnknownForm AtObject json place

-- a value has the fault itself; an expression has those of its unknown forms
abbrev pub HasOwnFault : Role → OrderedJson → MachineFault → Type 0
HasOwnFault role.Expression json fault = IsFormFault json fault
HasOwnFault role json fault = Contains (own_faults role json) fault

-- the faults of the key of a member
abbrev pub key_faults : Role → NodeKind → MemberParts → List MachineFault
key_faults role kind member =
    fault_if (is_none (member_role role kind member.key)) (UnknownField member.key_place)
    ++ fault_if (not (takes_key role member.key)) (BadKind member.key_place)

-- ---- the faults of a value and its parts

-- the items of a list; of another value none
abbrev pub items_of : OrderedJson → List OrderedJson
items_of json = unwrap_or (as_list json) []

-- a value in a role has a fault itself, at a key, in an item or in the value of a member
pub data HasFaultAs : Role → OrderedJson → MachineFault → Type 0 where
  own : (role : Role) (json : OrderedJson) (fault : MachineFault)
      → HasOwnFault role json fault → HasFaultAs role json fault
  at_key : (role : Role) (json : OrderedJson) (fault : MachineFault) (k : ℕ) (member : MemberParts)
      → slice_get (members_of json) k ≡ Some member
      → Contains (key_faults role (node_kind json) member) fault → HasFaultAs role json fault
  in_item : (role : Role) (json : OrderedJson) (fault : MachineFault) (k : ℕ) (item : OrderedJson)
      → slice_get (items_of json) k ≡ Some item
      → HasFaultAs (item_role role) item fault → HasFaultAs role json fault
  in_member : (role part : Role) (json : OrderedJson) (fault : MachineFault) (k : ℕ) (member : MemberParts)
      → slice_get (members_of json) k ≡ Some member
      → member_role role (node_kind json) member.key ≡ Some part
      → HasFaultAs part member.value fault → HasFaultAs role json fault

-- a value among several in one role has the fault
abbrev pub IsAmongItems : Role → List OrderedJson → MachineFault → Type 0
IsAmongItems role items fault =
    (k : ℕ) × (item : OrderedJson) × (slice_get items k ≡ Some item) × HasFaultAs role item fault

-- a member of an object has the fault, at its key or in its value
abbrev pub HasMemberFault : Role → NodeKind → MemberParts → MachineFault → Type 0
HasMemberFault role kind member fault =
    Contains (key_faults role kind member) fault
    ⊎ ((part : Role) × (member_role role kind member.key ≡ Some part) × HasFaultAs part member.value fault)

-- one of the members of an object has the fault
abbrev pub IsAmongMembers : Role → NodeKind → List MemberParts → MachineFault → Type 0
IsAmongMembers role kind members fault =
    (k : ℕ) × (member : MemberParts) × (slice_get members k ≡ Some member)
    × HasMemberFault role kind member fault
