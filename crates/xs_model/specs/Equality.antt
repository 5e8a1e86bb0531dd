-- When two values are equal, as a test.
use Rattle.std.specs.Prelude.{Bool, true, false, not, ◌&&◌, List, [], ◌∷◌, ℕ, bytes_eq, map}
use Rattle.std.specs.Ordering.{int_eq}
use Rattle.xs_model.specs.declared.value.Value.{Value, fold-Value, out-Value}
use Rattle.xs_model.specs.declared.value.Value.TheOpen.{Value-F}

-- as many tests as members, and each test passes its member
abbrev pub pass_in_turn : {X : Type 0} → List (X → Bool) → List X → Bool
pass_in_turn [] [] = true
pass_in_turn (test ∷ tests) (x ∷ xs) = test x && pass_in_turn tests xs
pass_in_turn _ _ = false

-- a test of a key and of what is under it
abbrev pub both_pass : {X : Type 0} → List ℕ × (X → Bool) → List ℕ × X → Bool
both_pass test member = bytes_eq test.0 member.0 && test.1 member.1

-- one layer beside another: of one kind, and the parts of the first pass those of the second in turn
abbrev pub same_layer : Value-F (Value → Bool) → Value-F Value → Bool
same_layer Value-F.Null Value-F.Null = true
same_layer (Value-F.Bool true) (Value-F.Bool b) = b
same_layer (Value-F.Bool false) (Value-F.Bool b) = not b
same_layer (Value-F.Int m) (Value-F.Int n) = int_eq m n
same_layer (Value-F.Text s) (Value-F.Text t) = bytes_eq s t
same_layer (Value-F.List tests) (Value-F.List members) = pass_in_turn tests members
same_layer (Value-F.Map tests) (Value-F.Map members) = pass_in_turn (map both_pass tests) members
same_layer _ _ = false

-- the test whether two values are equal
abbrev pub same : Value → Value → Bool
same = fold-Value (Value → Bool) (λ layer value. same_layer layer (out-Value value))
