-- The compact text of a value, and how deep a value nests.
use Rattle.std.specs.Prelude.{ℕ, suc, max, List, [], ◌∷◌, ◌++◌, true, false, codes, map, fold}
use Rattle.std.specs.Fmt.{signed_decimal}
use Rattle.std.specs.List.{join_with_byte}
use Rattle.std.specs.Map.{values_of}
use Rattle.json.specs.Print.{quoted}
use Rattle.xs_data.specs.Ascii.{comma, colon, opening_bracket, closing_bracket, opening_brace, closing_brace}
use Rattle.xs_model.specs.declared.value.Value.{Value, fold-Value}
use Rattle.xs_model.specs.declared.value.Value.TheOpen.{Value-F}

-- a text in quotes, with the shortest escapes
abbrev pub quoted_text : List ℕ → List ℕ
quoted_text text = quoted text

-- a key and the text of its value, as "key":value
abbrev pub member_text : List ℕ × List ℕ → List ℕ
member_text member = quoted_text member.0 ++ colon ∷ member.1

-- pieces with commas between them, in brackets
abbrev pub bracketed_text : ℕ → ℕ → List (List ℕ) → List ℕ
bracketed_text opening closing pieces = opening ∷ (join_with_byte comma pieces ++ closing ∷ [])

-- the text of a value whose parts have these texts
abbrev pub layer_text : Value-F (List ℕ) → List ℕ
layer_text Value-F.Null = codes "null"
layer_text (Value-F.Bool true) = codes "true"
layer_text (Value-F.Bool false) = codes "false"
layer_text (Value-F.Int number) = signed_decimal number
layer_text (Value-F.Text text) = quoted_text text
layer_text (Value-F.List members) = bracketed_text opening_bracket closing_bracket members
layer_text (Value-F.Map members) =
    bracketed_text opening_brace closing_brace (map member_text members)

-- a value as JSON with no space, its members in the order of their keys
abbrev pub compact_text : Value → List ℕ
compact_text = fold-Value (List ℕ) layer_text

-- a key and its value, as "key":value
abbrev pub keyed_text : List ℕ × Value → List ℕ
keyed_text member = member_text (member.0, compact_text member.1)

-- the greatest of these depths, 0 where there is none
abbrev pub greatest_depth : List ℕ → ℕ
greatest_depth depths = fold max 0 depths

-- the nesting of a value whose parts nest so deep
abbrev pub layer_nesting : Value-F ℕ → ℕ
layer_nesting (Value-F.List members) = suc (greatest_depth members)
layer_nesting (Value-F.Map members) = suc (greatest_depth (values_of members))
layer_nesting _ = 0

-- how many lists and maps lie round the innermost part: 0 for a scalar, 1 for an empty list
abbrev pub nesting : Value → ℕ
nesting = fold-Value ℕ layer_nesting
