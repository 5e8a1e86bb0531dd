-- What each value of a machine text is there for, and what may stand there.
use Rattle.std.specs.Prelude.{ℕ, Bool, true, false, not, ◌&&◌, ◌||◌, ◌==◌, List, [], ◌∷◌, Option, None, Some, codes, is_some, count_by, option_and_then, if◌then◌else◌}
use Rattle.std.specs.Option.{option_map_or}
use Rattle.std.specs.Map.{lookup}
use Rattle.std.specs.Str.{bytes_eq}
use Rattle.xs_data.specs.Ascii.{number_sign}
use Rattle.ordered_json.specs.declared.json.OrderedJson.{OrderedJson}
use Rattle.ordered_json.specs.Words.{MemberParts, as_bool, as_list, as_object, as_text, get}
use Rattle.machine_json.specs.declared.field.Field.{Field}
use Rattle.machine_json.specs.declared.field.Field.TheVariants as field
use Rattle.machine_json.specs.declared.kind_word.NodeKind.{NodeKind}
use Rattle.machine_json.specs.declared.role.Role.{Role}
use Rattle.machine_json.specs.declared.role.Role.TheVariants as role
use Rattle.machine_json.specs.Fields.{field_of, stands_on}
use Rattle.machine_json.specs.Keys.{is_delay_key, is_state_key}
use Rattle.machine_json.specs.NodeKinds.{kind_of_word}

-- ---- the members of objects

-- what the value of a field of a node is there for
abbrev pub field_value : Field → Role
field_value field.Id = role.Id
field_value field.Version = role.AnyText
field_value field.Description = role.AnyText
field_value field.Meta = role.Unread
field_value field.Type = role.KindWord
field_value field.Initial = role.AnyText
field_value field.Context = role.Expression
field_value field.States = role.States
field_value field.On = role.On
field_value field.Always = role.Transitions
field_value field.After = role.After
field_value field.Invoke = role.Invocations
field_value field.Entry = role.Actions
field_value field.Exit = role.Actions
field_value field.OnDone = role.Transitions
field_value field.Output = role.Expression
field_value field.Tags = role.Texts
field_value field.History = role.Depth
field_value field.Target = role.AnyText

-- the value of a field, where the field stands on the node
abbrev pub standing_role : Bool → NodeKind → Field → Option Role
standing_role root kind field = if stands_on field root kind then Some (field_value field) else None

-- what the value under a key of a node is there for, if the node has that field
abbrev pub node_field : Bool → NodeKind → List ℕ → Option Role
node_field root kind key = option_and_then (standing_role root kind) (field_of key)

-- the keys of a transition's object
abbrev pub transition_fields : List (List ℕ × Role)
transition_fields =
    (codes "target", role.Targets)
    ∷ (codes "guard", role.Guard)
    ∷ (codes "actions", role.Actions)
    ∷ (codes "reenter", role.Truth)
    ∷ (codes "description", role.AnyText)
    ∷ (codes "meta", role.Unread)
    ∷ []

-- the keys of an action's object
abbrev pub action_fields : List (List ℕ × Role)
action_fields =
    (codes "type", role.AnyText)
    ∷ (codes "params", role.Unread)
    ∷ []

-- the keys of a guard's object
abbrev pub guard_fields : List (List ℕ × Role)
guard_fields =
    (codes "type", role.AnyText)
    ∷ (codes "params", role.Unread)
    ∷ (codes "and", role.Guards)
    ∷ (codes "or", role.Guards)
    ∷ (codes "not", role.Guard)
    ∷ (codes "stateIn", role.Reference)
    ∷ []

-- the keys of an invocation's object
abbrev pub invocation_fields : List (List ℕ × Role)
invocation_fields =
    (codes "src", role.AnyText)
    ∷ (codes "id", role.AnyText)
    ∷ (codes "input", role.Expression)
    ∷ (codes "systemId", role.AnyText)
    ∷ (codes "onDone", role.Transitions)
    ∷ (codes "onError", role.Transitions)
    ∷ (codes "onSnapshot", role.Transitions)
    ∷ []

-- What the value under a key of an object is there for, if an object of this role has that key.
-- The kind
-- is that of the node, where the object is one.
abbrev pub member_role : Role → NodeKind → List ℕ → Option Role
member_role role.Root kind key = node_field true kind key
member_role role.State kind key = node_field false kind key
member_role role.States kind key = Some role.State
member_role role.On kind key = Some role.Transitions
member_role role.After kind key = Some role.Transitions
member_role role.Transitions kind key = lookup (bytes_eq key) transition_fields
member_role role.Transition kind key = lookup (bytes_eq key) transition_fields
member_role role.Actions kind key = lookup (bytes_eq key) action_fields
member_role role.Action kind key = lookup (bytes_eq key) action_fields
member_role role.Guard kind key = lookup (bytes_eq key) guard_fields
member_role role.Invocations kind key = lookup (bytes_eq key) invocation_fields
member_role role.Invocation kind key = lookup (bytes_eq key) invocation_fields
member_role _ kind key = Some role.Unread

-- how a key of an object is spelled: a node's is one that a target can name, a delay's is a name
-- or fits
abbrev pub takes_key : Role → List ℕ → Bool
takes_key role.States key = is_state_key key
takes_key role.After key = is_delay_key key
takes_key _ key = true

-- ---- the items of lists

-- what an item of a list is there for
abbrev pub item_role : Role → Role
item_role role.Transitions = role.Transition
item_role role.Targets = role.AnyText
item_role role.Texts = role.AnyText
item_role role.Actions = role.Action
item_role role.Guards = role.Guard
item_role role.Invocations = role.Invocation
item_role _ = role.Unread

-- ---- values

abbrev pub is_text : OrderedJson → Bool
is_text json = is_some (as_text json)

abbrev pub is_list : OrderedJson → Bool
is_list json = is_some (as_list json)

abbrev pub is_object : OrderedJson → Bool
is_object json = is_some (as_object json)

-- whether an object has a key
abbrev pub has : List MemberParts → List ℕ → Bool
has members key = is_some (get key members)

-- whether the value is an object whose members pass a test
abbrev pub is_object_with : (List MemberParts → Bool) → OrderedJson → Bool
is_object_with passes json = option_map_or passes (as_object json) false

-- whether the value is a text that passes a test
abbrev pub is_text_with : (List ℕ → Bool) → OrderedJson → Bool
is_text_with passes json = option_map_or passes (as_text json) false

-- whether the value is a list that passes a test
abbrev pub is_list_with : (List OrderedJson → Bool) → OrderedJson → Bool
is_list_with passes json = option_map_or passes (as_list json) false

abbrev pub is_empty : {X : Type 0} → List X → Bool
is_empty [] = true
is_empty (x ∷ xs) = false

-- an action's object has its name
abbrev pub is_action_object : List MemberParts → Bool
is_action_object members = has members (codes "type")

-- an invocation's object has the name of its actor
abbrev pub is_invocation_object : List MemberParts → Bool
is_invocation_object members = has members (codes "src")

-- the keys of which each makes a guard of its own form
abbrev pub guard_forms : List (List ℕ)
guard_forms = codes "type" ∷ codes "and" ∷ codes "or" ∷ codes "not" ∷ codes "stateIn" ∷ []

-- exactly one of them
abbrev pub has_one_form : List MemberParts → Bool
has_one_form members = count_by (has members) guard_forms == 1

-- a guard's object has exactly one form, and params beside `type` alone
abbrev pub is_guard_object : List MemberParts → Bool
is_guard_object members =
    has_one_form members && (not (has members (codes "params")) || has members (codes "type"))

abbrev pub begins_with_hash : List ℕ → Bool
begins_with_hash [] = false
begins_with_hash (b ∷ bs) = b == number_sign

-- shallow or deep
abbrev pub is_depth_word : List ℕ → Bool
is_depth_word word = bytes_eq word (codes "shallow") || bytes_eq word (codes "deep")

-- whether a value is of the JSON kind and the spelling of its role
abbrev pub takes : Role → OrderedJson → Bool
takes role.Root json = is_object json
takes role.State json = is_object json
takes role.States json = is_object json
takes role.On json = is_object json
takes role.After json = is_object json
takes role.Transitions json = is_list json || (is_text json || is_object json)
takes role.Transition json = is_text json || is_object json
takes role.Targets json = is_text json || is_list_with (λ items. not (is_empty items)) json
takes role.Actions json = is_list json || (is_text json || is_object_with is_action_object json)
takes role.Action json = is_text json || is_object_with is_action_object json
takes role.Guards json = is_list json
takes role.Guard json = is_text json || is_object_with is_guard_object json
takes role.Invocations json = is_list json || is_object_with is_invocation_object json
takes role.Invocation json = is_object_with is_invocation_object json
takes role.Expression json = true
takes role.Texts json = is_text json || is_list json
takes role.AnyText json = is_text json
takes role.Id json = is_text_with (λ text. not (is_empty text)) json
takes role.Reference json = is_text_with begins_with_hash json
takes role.Truth json = is_some (as_bool json)
takes role.KindWord json = is_text_with (λ text. is_some (kind_of_word text)) json
takes role.Depth json = is_text_with is_depth_word json || option_map_or (λ value. value) (as_bool json) false
takes role.Unread json = true
