-- The kind of a node: what its `type` says, or else what its other members tell.
use Rattle.std.specs.Prelude.{ℕ, List, [], ◌∷◌, Option, codes, is_some, option_and_then, unwrap_or, if◌then◌else◌}
use Rattle.std.specs.Map.{lookup}
use Rattle.std.specs.Str.{bytes_eq}
use Rattle.ordered_json.specs.declared.json.OrderedJson.{OrderedJson}
use Rattle.ordered_json.specs.Words.{MemberParts, as_object, get, get_object, get_text}
use Rattle.machine_json.specs.declared.kind_word.NodeKind.{NodeKind}
use Rattle.machine_json.specs.declared.kind_word.NodeKind.TheVariants.{Atomic, Compound, Parallel, Final, History}

-- the words that `type` may have
abbrev pub kind_words : List (List ℕ × NodeKind)
kind_words =
    (codes "atomic", Atomic)
    ∷ (codes "compound", Compound)
    ∷ (codes "parallel", Parallel)
    ∷ (codes "final", Final)
    ∷ (codes "history", History)
    ∷ []

-- the kind that a word names
abbrev pub kind_of_word : List ℕ → Option NodeKind
kind_of_word word = lookup (bytes_eq word) kind_words

-- the members of an object; of another value none
abbrev pub members_of : OrderedJson → List MemberParts
members_of json = unwrap_or (as_object json) []

-- the children of a node: the members of its `states`
abbrev pub children_of : List MemberParts → List MemberParts
children_of members = unwrap_or (get_object (codes "states") members) []

-- the kind that `type` names, where it has one of the words
abbrev pub kind_in : List MemberParts → Option NodeKind
kind_in members = option_and_then kind_of_word (get_text (codes "type") members)

-- the kind where `type` doesn't say it: compound if there are children; else a history node if
-- there is
-- `history`; else atomic
abbrev pub kind_by_fields : List MemberParts → List MemberParts → NodeKind
kind_by_fields (child ∷ children) members = Compound
kind_by_fields [] members = if is_some (get (codes "history") members) then History else Atomic

-- the kind of the node that has these members
abbrev pub kind_of_members : List MemberParts → NodeKind
kind_of_members members =
    unwrap_or (kind_in members) (kind_by_fields (children_of members) members)

-- the kind of the node that a value is
abbrev pub node_kind : OrderedJson → NodeKind
node_kind json = kind_of_members (members_of json)
