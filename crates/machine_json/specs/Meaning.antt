-- What the parts of a machine text mean in which the first pass finds no fault. A part that a
-- text lacks,
-- and one that such a text doesn't have, means what is said of the absent one.
use Rattle.std.specs.Prelude.{◌≡◌, ℕ, List, [], ◌∷◌, ◌++◌, Option, None, Some, codes, length, map, option_map, pos, slice_get, unwrap_or}
use Rattle.std.specs.Fmt.{decimal}
use Rattle.std.specs.Option.{option_map_or}
use Rattle.ordered_json.specs.declared.json.OrderedJson.{OrderedJson}
use Rattle.ordered_json.specs.Words.{MemberParts, as_list, as_object, as_text, get, get_object, place_of}
use Rattle.xs_model.specs.declared.expr.Expr.{Expr}
use Rattle.xs_model.specs.declared.expr.Expr.TheVariants as expression
use Rattle.xs_model.specs.declared.value.Value.{Value}
use Rattle.xs_model.specs.declared.value.Value.TheVariants as value
use Rattle.machine_json.specs.declared.machine.Named.{Named}
use Rattle.machine_json.specs.declared.machine.UnlinkedAction.{UnlinkedAction}
use Rattle.machine_json.specs.declared.machine.UnlinkedDelay.{UnlinkedDelay}
use Rattle.machine_json.specs.declared.machine.UnlinkedDelay.TheVariants.{Milliseconds, Named as a_name}
use Rattle.machine_json.specs.declared.machine.UnlinkedInvocation.{UnlinkedInvocation}
use Rattle.machine_json.specs.Expressions.{MeansExpr}
use Rattle.machine_json.specs.NodeKinds.{members_of}
use Rattle.machine_json.specs.Roles.{has}
use Rattle.machine_json.specs.JsonValues.{json_value}
use Rattle.machine_json.specs.Keys.{milliseconds_of}

-- the text that a value is
abbrev pub text_of : OrderedJson → List ℕ
text_of json = unwrap_or (as_text json) []

-- one value, or the items of a list
abbrev pub listed : OrderedJson → List OrderedJson
listed json = unwrap_or (as_list json) (json ∷ [])

-- the texts that one text or a list of them has
abbrev pub texts_of : OrderedJson → List (List ℕ)
texts_of json = map text_of (listed json)

-- a name, and where it is used
abbrev pub named_of : OrderedJson → Named
named_of json = record { name = text_of json; place = place_of json }

-- the name under a key
abbrev pub named_under : List ℕ → List MemberParts → Named
named_under key members = option_map_or named_of (get key members) (record { name = []; place = 0 })

-- the params that an object gives
abbrev pub params_of : List MemberParts → Value
params_of members = option_map_or json_value (get (codes "params") members) value.Null

-- the action of an object: its name, and its params
abbrev pub object_action : List MemberParts → UnlinkedAction
object_action members = record { action = named_under (codes "type") members; params = params_of members }

-- an action: a name alone, or an object
abbrev pub action_of : OrderedJson → UnlinkedAction
action_of json = option_map_or object_action (as_object json) (record { action = named_of json; params = value.Null })

-- the actions that one action or a list of them has
abbrev pub actions_of : OrderedJson → List UnlinkedAction
actions_of json = map action_of (listed json)

-- the actions under a key
abbrev pub actions_under : List ℕ → List MemberParts → List UnlinkedAction
actions_under key members = option_map_or actions_of (get key members) []

-- the tags of a node
abbrev pub tags_of : List MemberParts → List (List ℕ)
tags_of members = option_map_or texts_of (get (codes "tags") members) []

-- ---- delays

-- the number of milliseconds of a key of digits, or the delay's name, used at its key
abbrev pub delay_of : MemberParts → UnlinkedDelay
delay_of member =
    option_map_or (λ milliseconds. Milliseconds (pos milliseconds)) (milliseconds_of member.key)
    (a_name (record { name = member.key; place = member.key_place }))

-- the type of the event that comes after a delay of a node
abbrev pub after_type : List ℕ → List ℕ → List ℕ
after_type key id = codes "xstate.after." ++ (key ++ codes "." ++ id)

-- a delay with the type of its event
abbrev pub timed_of : List ℕ → MemberParts → List ℕ × UnlinkedDelay
timed_of id member = (after_type member.key id, delay_of member)

-- the delays of a node with this id
abbrev pub delays_of : List ℕ → List MemberParts → List (List ℕ × UnlinkedDelay)
delays_of id members = map (timed_of id) (unwrap_or (get_object (codes "after") members) [])

-- ---- expressions and invocations

-- an expression, or what stands for an absent one
abbrev pub MeansExprOr : Expr → Option OrderedJson → Expr → Type 0
MeansExprOr absent None expr = expr ≡ absent
MeansExprOr absent (Some json) expr = MeansExpr json expr

-- the id of the child of an invocation: the one that the text gives, or the place of the
-- invocation and the id of
-- the node
abbrev pub invoked_id : List ℕ → ℕ → List MemberParts → List ℕ
invoked_id id place members = option_map_or text_of (get (codes "id") members) (decimal place ++ codes "." ++ id)

-- the invocation at a place among those of the node with this id
pub record MeansInvocation (node : List ℕ) (place : ℕ) (members : List MemberParts) (invocation : UnlinkedInvocation) : Type 0 where
  pub id : invocation.id ≡ invoked_id node place members
  pub src : invocation.src ≡ named_under (codes "src") members
  pub input : MeansExprOr expression.Null (get (codes "input") members) invocation.input
  pub system : invocation.system ≡ option_map text_of (get (codes "systemId") members)
  pub observed : invocation.observed ≡ has members (codes "onSnapshot")

-- each of the invocations of a node is what its text means
pub record AreInvocations (node : List ℕ) (jsons : List OrderedJson) (invocations : List UnlinkedInvocation) : Type 0 where
  pub count : length invocations ≡ length jsons
  pub each : (k : ℕ) (json : OrderedJson) (invocation : UnlinkedInvocation) → slice_get jsons k ≡ Some json
      → slice_get invocations k ≡ Some invocation → MeansInvocation node k (members_of json) invocation

-- the texts of the invocations of a node
abbrev pub invocation_texts : List MemberParts → List OrderedJson
invocation_texts members = option_map_or listed (get (codes "invoke") members) []
