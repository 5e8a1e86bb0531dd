-- What the implementations mean where they have no fault: the table.
use Rattle.std.specs.Prelude.{◌≡◌, ℕ, List, [], ◌∷◌, ◌++◌, Option, None, Some, Result, Ok, Err, codes, unwrap_or, if◌then◌else◌}
use Rattle.std.specs.List.{fold, list_any}
use Rattle.std.specs.Str.{bytes_eq}
use Rattle.ordered_json.specs.declared.json.OrderedJson.{OrderedJson}
use Rattle.ordered_json.specs.Words.{MemberParts, as_text, get, get_list, get_object, place_of}
use Rattle.xs_model.specs.declared.expr.Expr.{Expr}
use Rattle.xs_model.specs.declared.action.Target.{Target}
use Rattle.xs_model.specs.declared.action.Target.TheVariants as target
use Rattle.machine_json.specs.declared.machine.Named.{Named}
use Rattle.machine_json.specs.Expressions.{MeansExpr}
use Rattle.machine_json.specs.FirstFaults.{IsLeastPlace}
use Rattle.machine_json.specs.Meaning.{listed}
use Rattle.action_table.specs.declared.fault.TableFault.{TableFault}
use Rattle.action_table.specs.declared.fault.TableFault.TheVariants.{UnknownForm, Memory}
use Rattle.action_table.specs.declared.role.Shape.{Shape}
use Rattle.action_table.specs.declared.role.Shape.TheVariants as shape
use Rattle.action_table.specs.declared.role.TableRole.TheVariants as role
use Rattle.action_table.specs.declared.table.Table.{Table}
use Rattle.action_table.specs.declared.table.TableActor.{TableActor}
use Rattle.action_table.specs.declared.table.TableActor.TheVariants as actor
use Rattle.action_table.specs.declared.table.UnlinkedForm.{UnlinkedForm, out-UnlinkedForm}
use Rattle.action_table.specs.declared.table.UnlinkedForm.TheOpen.{UnlinkedForm-F, UnlinkedItem-F}
use Rattle.action_table.specs.declared.table.UnlinkedItem.{UnlinkedItem, out-UnlinkedItem}
use Rattle.action_table.specs.Shapes.{members_in, shape_of}
use Rattle.action_table.specs.TablePlaces.{HasTableFault}

-- ---- parts of objects

-- the members of the object under a key
abbrev pub members_under : List ℕ → List MemberParts → List MemberParts
members_under key members = unwrap_or (get_object key members) []

-- the items of the list under a key
abbrev pub items_under : List ℕ → List MemberParts → List OrderedJson
items_under key members = unwrap_or (get_list key members) []

-- a part that is there means the expression
abbrev pub MeansPart : Option OrderedJson → Expr → Type 0
MeansPart None expr = ⊥
MeansPart (Some json) expr = MeansExpr json expr

-- a part that may be missing means the expression that there may be
abbrev pub MeansOptional : Option OrderedJson → Option Expr → Type 0
MeansOptional None None = Unit {0}
MeansOptional (Some json) (Some expr) = MeansExpr json expr
MeansOptional _ _ = ⊥

-- a part that is there is the name, at its place
abbrev pub IsNameAt : Option OrderedJson → Named → Type 0
IsNameAt None named = ⊥
IsNameAt (Some json) named = (as_text json ≡ Some named.name) × (place_of json ≡ named.place)

-- under each key stands what means the value there, in the order of the text
abbrev pub MeansUnder : {X : Type 0} → (OrderedJson → X → Type 0) → List MemberParts → List (List ℕ × X) → Type 0
MeansUnder Means [] [] = Unit {0}
MeansUnder Means (member ∷ members) (pair ∷ pairs) =
    (member.key ≡ pair.0) × Means member.value pair.1 × MeansUnder Means members pairs
MeansUnder Means _ _ = ⊥

-- each means the value in its place
abbrev pub MeansInTurn : {X : Type 0} → (OrderedJson → X → Type 0) → List OrderedJson → List X → Type 0
MeansInTurn Means [] [] = Unit {0}
MeansInTurn Means (json ∷ jsons) (x ∷ xs) = Means json x × MeansInTurn Means jsons xs
MeansInTurn Means _ _ = ⊥

-- ---- targets

-- the members of an object are those of a target of this form, whose part means the expression
pub record IsTargetOf (form_shape : Shape) (key : List ℕ) (members : List MemberParts) (expr : Expr) : Type 0 where
  pub is_named : shape_of role.Target members ≡ Some form_shape
  pub part : MeansPart (get key members) expr

-- to whom `sendTo` sends
abbrev pub MeansTarget : OrderedJson → Target → Type 0
MeansTarget json target.Own = as_text json ≡ Some (codes "self")
MeansTarget json target.Parent = as_text json ≡ Some (codes "parent")
MeansTarget json (target.Child id) = IsTargetOf shape.Child (codes "child") (members_in role.Target json) id
MeansTarget json (target.System name) = IsTargetOf shape.System (codes "system") (members_in role.Target json) name

-- a part that is there means the target
abbrev pub MeansTargetPart : Option OrderedJson → Target → Type 0
MeansTargetPart None to = ⊥
MeansTargetPart (Some json) to = MeansTarget json to

-- ---- forms

-- the shape of a form
abbrev pub shape_in : {A B : Type 0} → UnlinkedForm-F A B → Shape
shape_in (UnlinkedForm-F.Assign values) = shape.Assign
shape_in (UnlinkedForm-F.Raise event delay id) = shape.Raise
shape_in (UnlinkedForm-F.SendTo to event delay id) = shape.SendTo
shape_in (UnlinkedForm-F.Cancel id) = shape.Cancel
shape_in (UnlinkedForm-F.SpawnChild src id input system) = shape.SpawnChild
shape_in (UnlinkedForm-F.StopChild id) = shape.StopChild
shape_in (UnlinkedForm-F.EnqueueActions items) = shape.EnqueueActions

-- what the members of an object mean as the parts of a form but `enqueueActions`, one equation a form
abbrev pub MeansParts : {A B : Type 0} → List MemberParts → UnlinkedForm-F A B → Type 0
MeansParts members (UnlinkedForm-F.Assign values) =
    MeansUnder MeansExpr (members_under (codes "assign") members) values
MeansParts members (UnlinkedForm-F.Raise event delay id) =
    MeansPart (get (codes "raise") members) event × MeansOptional (get (codes "delay") members) delay
    × MeansOptional (get (codes "id") members) id
MeansParts members (UnlinkedForm-F.SendTo to event delay id) =
    MeansTargetPart (get (codes "sendTo") members) to × MeansPart (get (codes "event") members) event
    × MeansOptional (get (codes "delay") members) delay × MeansOptional (get (codes "id") members) id
MeansParts members (UnlinkedForm-F.Cancel id) = MeansPart (get (codes "cancel") members) id
MeansParts members (UnlinkedForm-F.SpawnChild src id input system) =
    IsNameAt (get (codes "spawnChild") members) src × MeansOptional (get (codes "id") members) id
    × MeansOptional (get (codes "input") members) input × MeansOptional (get (codes "systemId") members) system
MeansParts members (UnlinkedForm-F.StopChild id) = MeansPart (get (codes "stopChild") members) id
MeansParts members (UnlinkedForm-F.EnqueueActions items) = ⊥

-- a form of this shape, but `enqueueActions`, whose parts the members mean
pub record MeansAs (form_shape : Shape) (members : List MemberParts) (form : UnlinkedForm) : Type 0 where
  pub is_named : shape_in (out-UnlinkedForm form) ≡ form_shape
  pub parts : MeansParts members (out-UnlinkedForm form)

-- ---- items, and actions

mutual
  -- the members of an object mean an item: a form, or a choice of two lists of items
  pub data MeansItem : List MemberParts → UnlinkedItem → Type 0 where
    as_form : (members : List MemberParts) (item : UnlinkedItem) (form : UnlinkedForm) (form_shape : Shape)
        → out-UnlinkedItem item ≡ UnlinkedItem-F.Do form
        → shape_of role.Item members ≡ Some form_shape → MeansAs form_shape members form
        → MeansItem members item
    as_choice : (members : List MemberParts) (item : UnlinkedItem) (test : Expr) (then_items else_items : List UnlinkedItem)
        → out-UnlinkedItem item ≡ UnlinkedItem-F.If test then_items else_items
        → shape_of role.Item members ≡ Some shape.If → MeansPart (get (codes "if") members) test
        → MeanItems (items_under (codes "then") members) then_items
        → MeanItems (items_under (codes "else") members) else_items
        → MeansItem members item

  -- each means the item in its place
  pub data MeanItems : List OrderedJson → List UnlinkedItem → Type 0 where
    no_item : MeanItems [] []
    an_item : (json : OrderedJson) (item : UnlinkedItem) (jsons : List OrderedJson) (items : List UnlinkedItem)
        → MeansItem (members_in role.Item json) item → MeanItems jsons items
        → MeanItems (json ∷ jsons) (item ∷ items)

-- the members of an object mean a form of an action
pub data MeansAction : List MemberParts → UnlinkedForm → Type 0 where
  as_parts : (members : List MemberParts) (form : UnlinkedForm) (form_shape : Shape)
      → shape_of role.Form members ≡ Some form_shape → MeansAs form_shape members form
      → MeansAction members form
  as_items : (members : List MemberParts) (form : UnlinkedForm) (items : List UnlinkedItem)
      → out-UnlinkedForm form ≡ UnlinkedForm-F.EnqueueActions items
      → shape_of role.Form members ≡ Some shape.EnqueueActions
      → MeanItems (items_under (codes "enqueueActions") members) items
      → MeansAction members form

-- the forms of an action: one, or those of a list
abbrev pub MeansActions : OrderedJson → List UnlinkedForm → Type 0
MeansActions json forms = MeansInTurn (λ part. MeansAction (members_in role.Form part)) (listed json) forms

-- ---- actors

-- what the members of an object mean as what starts where an actor is named
abbrev pub MeansActorOf : List MemberParts → TableActor → Type 0
MeansActorOf members (actor.Machine named) =
    (shape_of role.Actor members ≡ Some shape.Machine) × IsNameAt (get (codes "machine") members) named
MeansActorOf members actor.Promise = shape_of role.Actor members ≡ Some shape.Promise

-- what starts where an actor is named
abbrev pub MeansActor : OrderedJson → TableActor → Type 0
MeansActor json named = MeansActorOf (members_in role.Actor json) named

-- ---- the table

-- the members with one more, if none of them has its key
abbrev pub with_new_key : List MemberParts → MemberParts → List MemberParts
with_new_key members member =
    if list_any (λ other. bytes_eq member.key other.key) members then members else members ++ member ∷ []

-- the members without those whose key an earlier one has; in JSON that was read there are none
abbrev pub firsts : List MemberParts → List MemberParts
firsts members = fold with_new_key [] members

-- the names are the keys of the members, and stand for what their values mean
abbrev pub MeansNames : {X : Type 0} → (OrderedJson → X → Type 0) → List MemberParts → List (List ℕ × X) → Type 0
MeansNames Means members names = MeansUnder Means (firsts members) names

-- the members of the implementations mean the table
pub record MeansTable (members : List MemberParts) (table : Table) : Type 0 where
  pub guards : MeansNames MeansExpr (members_under (codes "guards") members) table.guards
  pub actions : MeansNames MeansActions (members_under (codes "actions") members) table.actions
  pub delays : MeansNames MeansExpr (members_under (codes "delays") members) table.delays
  pub actors : MeansNames MeansActor (members_under (codes "actors") members) table.actors

-- the implementations have no fault, and mean the table
pub record IsTableOf (json : OrderedJson) (table : Table) : Type 0 where
  pub faultless : (place : ℕ) → HasTableFault role.Implementations json place → ⊥
  pub meaning : MeansTable (members_in role.Implementations json) table

-- what reading the implementations answers: their table, or the least place of their faults; memory may run out
abbrev pub IsTableReading : OrderedJson → Result Table TableFault → Type 0
IsTableReading json (Ok table) = IsTableOf json table
IsTableReading json (Err (UnknownForm place)) = IsLeastPlace (HasTableFault role.Implementations json) place
IsTableReading json (Err Memory) = Unit {0}
IsTableReading json (Err _) = ⊥
