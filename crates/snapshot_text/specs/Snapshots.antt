-- The nested snapshot of an actor.
use Rattle.std.specs.Prelude.{ℕ, zero, suc, List, [], ◌∷◌, Option, codes, map, slice_get, unwrap_or}
use Rattle.std.specs.Option.{option_map_or}
use Rattle.serde_json.specs.Data.{Data, null, string}
use Rattle.node_tree.specs.Kinds.{Nodes}
use Rattle.node_tree.specs.Nodes.{id_of}
use Rattle.office_types.specs.declared.limits.TheConstants.{MAX_TREE_LEVELS}
use Rattle.office_types.specs.declared.office.ActorRecord.{ActorRecord}
use Rattle.office_types.specs.declared.office.Item.{Item}
use Rattle.office_types.specs.declared.office.Letter.{Letter}
use Rattle.office_types.specs.declared.office.OfficeState.{OfficeState}
use Rattle.office_types.specs.declared.office.Origin.{Origin}
use Rattle.office_types.specs.declared.office.Origin.TheVariants as origin
use Rattle.office_types.specs.declared.office.Status.{Status}
use Rattle.office_types.specs.declared.office.Status.TheVariants as status
use Rattle.office_types.specs.declared.outcome.Own.{Own}
use Rattle.office_types.specs.Definitions.{MachineOutline, OfficeDefinitions, nodes_of}
use Rattle.office_types.specs.Records.{actor_record}
use Rattle.office_types.specs.StateValue.{state_value}
use Rattle.snapshot_text.specs.ValueData.{list_data, map_data, number_data, optional_data, value_data}

-- ---- parts

-- the word of a status
abbrev pub status_word : Status → List ℕ
status_word status.Active = codes "active"
status_word status.Done = codes "done"
status_word status.Error = codes "error"
status_word status.Stopped = codes "stopped"

-- the id of a node
abbrev pub id_data : Nodes → ℕ → Data
id_data nodes n = string (unwrap_or (id_of nodes n) [])

-- the ids of nodes
abbrev pub ids_data : Nodes → List ℕ → Data
ids_data nodes ns = list_data (map (id_data nodes) ns)

-- what a history node recorded
abbrev pub recorded_data : Nodes → ℕ × List ℕ → Data
recorded_data nodes recorded = map_data (
    (codes "node", id_data nodes recorded.0)
    ∷ (codes "nodes", ids_data nodes recorded.1)
    ∷ []
    )

-- who sent a letter: the name of a caller, or the number of an actor
abbrev pub origin_data : Origin → Data
origin_data (origin.Caller name) = string name
origin_data (origin.Actor number) = number_data number

-- a letter that waits
abbrev pub letter_data : Letter → Data
letter_data letter = map_data (
    (codes "event", value_data letter.event)
    ∷ (codes "from", origin_data letter.origin)
    ∷ (codes "letter", number_data letter.number)
    ∷ []
    )

-- ---- what an own part and a work item give

-- what the history nodes of an own part recorded; a work item has none
abbrev pub recorded_items : OfficeDefinitions → Option Own → List Data
recorded_items definitions own = option_map_or (λ (o : Own). map (recorded_data (nodes_of definitions o.def)) o.history) own []

-- the recorded history
abbrev pub history_data : OfficeDefinitions → Option Own → Data
history_data definitions own = list_data (recorded_items definitions own)

-- the id of a machine's root
abbrev pub machine_data : OfficeDefinitions → Own → Data
machine_data definitions own =
    string (option_map_or (λ (outline : MachineOutline). outline.id) (slice_get definitions.machines own.def) [])

-- the state value; null before the first step
abbrev pub state_data : OfficeDefinitions → Own → Data
state_data definitions own = value_data (state_value (nodes_of definitions own.def) own.nodes)

-- how many children got no id; a work item has none
abbrev pub unnamed_data : Option Own → Data
unnamed_data own = number_data (option_map_or (λ (o : Own). o.unnamed) own 0)

-- ---- the snapshot

-- the members of an actor's snapshot, beside those of its children
abbrev pub snapshot_members : OfficeDefinitions → List Data → ActorRecord → List (List ℕ × Data)
snapshot_members definitions children actor =
    (codes "actor", number_data actor.number)
    ∷ (codes "children", list_data children)
    ∷ (codes "context", optional_data (λ (own : Own). value_data own.context) actor.own)
    ∷ (codes "error", value_data actor.error)
    ∷ (codes "history", history_data definitions actor.own)
    ∷ (codes "input", optional_data (λ (item : Item). value_data item.input) actor.item)
    ∷ (codes "letters", list_data (map letter_data actor.mailbox))
    ∷ (codes "machine", optional_data (machine_data definitions) actor.own)
    ∷ (codes "output", value_data actor.output)
    ∷ (codes "src", optional_data (λ (item : Item). string item.src) actor.item)
    ∷ (codes "status", string (status_word actor.status))
    ∷ (codes "systemId", optional_data string actor.system)
    ∷ (codes "unnamed", unnamed_data actor.own)
    ∷ (codes "value", optional_data (state_data definitions) actor.own)
    ∷ []

-- a child with its id and its snapshot
abbrev pub child_data : (ℕ → Data) → List ℕ × ℕ → Data
child_data snapshot kid = map_data ((codes "id", string kid.0) ∷ (codes "snapshot", snapshot kid.1) ∷ [])

-- the snapshot of the actor with this number, if there is one, and so many levels of actors in it
unfoldable pub snapshot_data : OfficeDefinitions → OfficeState → ℕ → ℕ → Data
snapshot_data definitions state zero number = null
snapshot_data definitions state (suc levels) number =
    optional_data
    (λ (actor : ActorRecord).
    map_data (snapshot_members definitions (map (child_data (snapshot_data definitions state levels)) actor.kids) actor))
    (actor_record state number)

-- the nested snapshot of an actor; a tree of actors has no more levels than it may have
abbrev pub nested_snapshot : OfficeDefinitions → OfficeState → ℕ → Data
nested_snapshot definitions state number = snapshot_data definitions state MAX_TREE_LEVELS number
