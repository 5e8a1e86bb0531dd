-- The fields of nodes: the key of each, and on which nodes it stands.
use Rattle.std.specs.Prelude.{ℕ, Bool, true, false, not, ◌&&◌, ◌||◌, List, [], ◌∷◌, Option, codes}
use Rattle.std.specs.Map.{lookup}
use Rattle.std.specs.Str.{bytes_eq}
use Rattle.machine_json.specs.declared.field.Field.{Field}
use Rattle.machine_json.specs.declared.field.Field.TheVariants as field
use Rattle.machine_json.specs.declared.kind_word.NodeKind.{NodeKind}
use Rattle.machine_json.specs.declared.kind_word.NodeKind.TheVariants.{Atomic, Compound, Parallel, Final, History}

-- the key of each field
abbrev pub fields : List (List ℕ × Field)
fields =
    (codes "id", field.Id)
    ∷ (codes "version", field.Version)
    ∷ (codes "description", field.Description)
    ∷ (codes "meta", field.Meta)
    ∷ (codes "type", field.Type)
    ∷ (codes "initial", field.Initial)
    ∷ (codes "context", field.Context)
    ∷ (codes "states", field.States)
    ∷ (codes "on", field.On)
    ∷ (codes "always", field.Always)
    ∷ (codes "after", field.After)
    ∷ (codes "invoke", field.Invoke)
    ∷ (codes "entry", field.Entry)
    ∷ (codes "exit", field.Exit)
    ∷ (codes "onDone", field.OnDone)
    ∷ (codes "output", field.Output)
    ∷ (codes "tags", field.Tags)
    ∷ (codes "history", field.History)
    ∷ (codes "target", field.Target)
    ∷ []

-- the field that has a key
abbrev pub field_of : List ℕ → Option Field
field_of key = lookup (bytes_eq key) fields

-- neither final nor history
abbrev pub is_inner : NodeKind → Bool
is_inner Atomic = true
is_inner Compound = true
is_inner Parallel = true
is_inner Final = false
is_inner History = false

abbrev pub is_final : NodeKind → Bool
is_final Final = true
is_final Atomic = false
is_final Compound = false
is_final Parallel = false
is_final History = false

abbrev pub is_history : NodeKind → Bool
is_history History = true
is_history Atomic = false
is_history Compound = false
is_history Parallel = false
is_history Final = false

-- Whether a field may stand on a node of a kind that is the root, or isn't. A root that is final
-- or a
-- history node, which no root may be, has the fields of that kind and those that the table gives
-- a root.
abbrev pub stands_on : Field → Bool → NodeKind → Bool
stands_on field.Id root kind = true
stands_on field.Version root kind = root
stands_on field.Description root kind = true
stands_on field.Meta root kind = true
stands_on field.Type root kind = true
stands_on field.Initial root kind = root || is_inner kind
stands_on field.Context root kind = root
stands_on field.States root kind = root || is_inner kind
stands_on field.On root kind = is_inner kind
stands_on field.Always root kind = is_inner kind
stands_on field.After root kind = is_inner kind
stands_on field.Invoke root kind = is_inner kind
stands_on field.Entry root kind = not (is_history kind)
stands_on field.Exit root kind = not (is_history kind)
stands_on field.OnDone root kind = not root && is_inner kind
stands_on field.Output root kind = root || is_final kind
stands_on field.Tags root kind = not (is_history kind)
stands_on field.History root kind = is_history kind
stands_on field.Target root kind = is_history kind
