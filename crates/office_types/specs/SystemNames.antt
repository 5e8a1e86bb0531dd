-- System names: pairs of a name and the number of the actor that holds it, by these numbers.
use Rattle.std.specs.Prelude.{ℕ, not, List, [], ◌∷◌, ◌++◌, Option, filter, nat_eq}
use Rattle.std.specs.Map.{lookup}
use Rattle.std.specs.Str.{bytes_eq}

-- the actor that holds a name
abbrev pub holder_of : List ℕ → List (List ℕ × ℕ) → Option ℕ
holder_of name names = lookup (bytes_eq name) names

-- an actor that is newer than all holders holds a name, too
abbrev pub with_holder : List (List ℕ × ℕ) → List ℕ → ℕ → List (List ℕ × ℕ)
with_holder names name actor = names ++ (name, actor) ∷ []

-- the names but for that of an actor
abbrev pub without_holder : List (List ℕ × ℕ) → ℕ → List (List ℕ × ℕ)
without_holder names actor = filter (λ (pair : List ℕ × ℕ). not (nat_eq pair.1 actor)) names
