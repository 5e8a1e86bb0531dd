-- The tokens of a value's compact text.
use Rattle.std.specs.Prelude.{ℕ, List, [], ◌∷◌, ◌++◌}
use Rattle.std.specs.List.{flat_map}
use Rattle.std.specs.Fmt.{signed_decimal}
use Rattle.json.specs.Token.{Token, begin_array, begin_object, boolean, end_array, end_object, key, null, number, string}
use Rattle.xs_model.specs.declared.value.Value.{Value, fold-Value}
use Rattle.xs_model.specs.declared.value.Value.TheOpen.{Value-F}

-- the tokens of a member of a map
abbrev pub member_tokens : List ℕ × List Token → List Token
member_tokens member = key member.0 ∷ member.1

-- the tokens of a value whose parts have these tokens
abbrev pub layer_tokens : Value-F (List Token) → List Token
layer_tokens Value-F.Null = null ∷ []
layer_tokens (Value-F.Bool truth) = boolean truth ∷ []
layer_tokens (Value-F.Int n) = number (signed_decimal n) ∷ []
layer_tokens (Value-F.Text text) = string text ∷ []
layer_tokens (Value-F.List members) = begin_array ∷ (flat_map (λ (tokens : List Token). tokens) members ++ end_array ∷ [])
layer_tokens (Value-F.Map members) = begin_object ∷ (flat_map member_tokens members ++ end_object ∷ [])

-- the tokens of a value
abbrev pub tokens_of : Value → List Token
tokens_of = fold-Value (List Token) layer_tokens
