-- What each value among the implementations is there for: the tables of forms, of their keys and of their values.
use Rattle.std.specs.Prelude.{ℕ, Bool, true, false, not, ◌||◌, List, [], ◌∷◌, Option, None, Some, codes, is_some, option_and_then, if◌then◌else◌, unwrap_or}
use Rattle.std.specs.List.{list_all}
use Rattle.std.specs.Option.{option_map_or}
use Rattle.std.specs.Map.{lookup}
use Rattle.std.specs.Str.{bytes_eq}
use Rattle.ordered_json.specs.declared.json.OrderedJson.{OrderedJson}
use Rattle.ordered_json.specs.Words.{MemberParts, as_list, as_object, as_text, get}
use Rattle.action_table.specs.declared.role.Shape.{Shape}
use Rattle.action_table.specs.declared.role.Shape.TheVariants as shape
use Rattle.action_table.specs.declared.role.TableRole.{TableRole}
use Rattle.action_table.specs.declared.role.TableRole.TheVariants as role

-- ---- the forms of objects

-- the forms of an action but `enqueueActions`
abbrev pub plain_shapes : List (List ℕ × Shape)
plain_shapes =
    (codes "assign", shape.Assign)
    ∷ (codes "raise", shape.Raise)
    ∷ (codes "sendTo", shape.SendTo)
    ∷ (codes "cancel", shape.Cancel)
    ∷ (codes "spawnChild", shape.SpawnChild)
    ∷ (codes "stopChild", shape.StopChild)
    ∷ []

abbrev pub target_shapes : List (List ℕ × Shape)
target_shapes = (codes "child", shape.Child) ∷ (codes "system", shape.System) ∷ []

abbrev pub actor_shapes : List (List ℕ × Shape)
actor_shapes = (codes "machine", shape.Machine) ∷ (codes "promise", shape.Promise) ∷ []

-- the forms that an object has in its place, each by the key that names it
unfoldable pub shapes : TableRole → List (List ℕ × Shape)
shapes role.Action = (codes "enqueueActions", shape.EnqueueActions) ∷ plain_shapes
shapes role.Form = (codes "enqueueActions", shape.EnqueueActions) ∷ plain_shapes
shapes role.Item = (codes "if", shape.If) ∷ plain_shapes
shapes role.Target = target_shapes
shapes role.Actor = actor_shapes
shapes _ = []

-- whether objects there have forms
abbrev pub has_shapes : TableRole → Bool
has_shapes role.Action = true
has_shapes role.Form = true
has_shapes role.Item = true
has_shapes role.Target = true
has_shapes role.Actor = true
has_shapes _ = false

-- the form that a key names
abbrev pub named_shape : TableRole → List ℕ → Option Shape
named_shape where_it_stands key = lookup (bytes_eq key) (shapes where_it_stands)

-- the form of an object: that of its first key that names one
abbrev pub shape_of : TableRole → List MemberParts → Option Shape
shape_of where_it_stands [] = None
shape_of where_it_stands (member ∷ members) =
    option_map_or Some (named_shape where_it_stands member.key) (shape_of where_it_stands members)

-- the keys that a form has, with what their values are there for
unfoldable pub parts_of : Shape → List (List ℕ × TableRole)
parts_of shape.Assign = (codes "assign", role.Expressions) ∷ []
parts_of shape.Raise =
    (codes "raise", role.Expression) ∷ (codes "delay", role.Expression) ∷ (codes "id", role.Expression) ∷ []
parts_of shape.SendTo =
    (codes "sendTo", role.Target) ∷ (codes "event", role.Expression) ∷ (codes "delay", role.Expression)
    ∷ (codes "id", role.Expression) ∷ []
parts_of shape.Cancel = (codes "cancel", role.Expression) ∷ []
parts_of shape.SpawnChild =
    (codes "spawnChild", role.Name) ∷ (codes "id", role.Expression) ∷ (codes "input", role.Expression)
    ∷ (codes "systemId", role.Expression) ∷ []
parts_of shape.StopChild = (codes "stopChild", role.Expression) ∷ []
parts_of shape.EnqueueActions = (codes "enqueueActions", role.ItemList) ∷ []
parts_of shape.If =
    (codes "if", role.Expression) ∷ (codes "then", role.ItemList) ∷ (codes "else", role.ItemList) ∷ []
parts_of shape.Child = (codes "child", role.Expression) ∷ []
parts_of shape.System = (codes "system", role.Expression) ∷ []
parts_of shape.Machine = (codes "machine", role.Name) ∷ []
parts_of shape.Promise = (codes "promise", role.Nothing) ∷ []

-- the keys that a form needs beside the one that names it
abbrev pub needed_keys : Shape → List (List ℕ)
needed_keys shape.SendTo = codes "event" ∷ []
needed_keys shape.If = codes "then" ∷ []
needed_keys _ = []

-- the kinds of implementations
abbrev pub kinds : List (List ℕ × TableRole)
kinds =
    (codes "guards", role.Expressions)
    ∷ (codes "actions", role.Actions)
    ∷ (codes "delays", role.Expressions)
    ∷ (codes "actors", role.Actors)
    ∷ []

-- what the value under a key is there for; None is a key that the object doesn't have
unfoldable pub key_role : TableRole → Option Shape → List ℕ → Option TableRole
key_role role.Implementations form key = lookup (bytes_eq key) kinds
key_role role.Expressions form key = Some role.Expression
key_role role.Actions form key = Some role.Action
key_role role.Actors form key = Some role.Actor
key_role _ form key = option_and_then (λ s. lookup (bytes_eq key) (parts_of s)) form

-- ---- what may stand where

-- `self` or `parent`
abbrev pub is_relative : List ℕ → Bool
is_relative text = bytes_eq text (codes "self") || bytes_eq text (codes "parent")

-- whether JSON of this kind may stand there
abbrev pub takes : TableRole → OrderedJson → Bool
takes role.Expression json = true
takes role.Action json = is_some (as_object json) || is_some (as_list json)
takes role.ItemList json = is_some (as_list json)
takes role.Target json = is_some (as_object json) || option_map_or is_relative (as_text json) false
takes role.Name json = is_some (as_text json)
takes _ json = is_some (as_object json)

-- whether each key that a form needs is there
abbrev pub has_needed : List MemberParts → Shape → Bool
has_needed members form = list_all (λ key. is_some (get key members)) (needed_keys form)

-- an object that has a form isn't empty, and has what its form needs
abbrev pub is_complete : TableRole → List MemberParts → Bool
is_complete where_it_stands [] = not (has_shapes where_it_stands)
is_complete where_it_stands (member ∷ members) =
    option_map_or (has_needed (member ∷ members)) (shape_of where_it_stands (member ∷ members)) true

-- whether the members of an object are looked at there
abbrev pub has_members : TableRole → Bool
has_members role.Expression = false
has_members role.Name = false
has_members role.ItemList = false
has_members _ = true

-- the members that are looked at there
abbrev pub members_in : TableRole → OrderedJson → List MemberParts
members_in where_it_stands json = if has_members where_it_stands then unwrap_or (as_object json) [] else []

-- what the items of a list are there for; None where no list stands
abbrev pub list_role : TableRole → Option TableRole
list_role role.Action = Some role.Form
list_role role.ItemList = Some role.Item
list_role _ = None

-- the items that are looked at there
abbrev pub items_in : TableRole → OrderedJson → List OrderedJson
items_in where_it_stands json = option_map_or (λ part. unwrap_or (as_list json) []) (list_role where_it_stands) []

-- what such an item is there for
abbrev pub table_item_role : TableRole → TableRole
table_item_role where_it_stands = unwrap_or (list_role where_it_stands) where_it_stands
