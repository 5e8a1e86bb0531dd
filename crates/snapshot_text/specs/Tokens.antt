-- The tokens of JSON as it is written; for private clauses.
use Rattle.std.specs.Prelude.{ℕ, List, [], ◌∷◌, is_none, if◌then◌else◌}
use Rattle.json.specs.Token.{Token, key}
use Rattle.json.specs.Tree.{json_tokens}
use Rattle.serde_json.specs.Data.{Data}
use Rattle.office_types.specs.declared.office.ActorRecord.{ActorRecord}
use Rattle.serde_json.specs.Written.{outline}

-- the tokens of JSON
abbrev pub data_tokens : Data → List Token
data_tokens d = json_tokens (outline d)

-- the tokens of a member of a map
abbrev pub keyed_data_tokens : List ℕ × Data → List Token
keyed_data_tokens member = key member.0 ∷ data_tokens member.1

-- the tokens of the snapshot of an actor that has no parent, and none of any other
abbrev pub top_tokens : (ℕ → Data) → ActorRecord → List Token
top_tokens snapshot actor = if is_none actor.parent then data_tokens (snapshot actor.number) else []
