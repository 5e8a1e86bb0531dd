-- What follows from the definitions, in the words of one who reads values and their texts.
use Rattle.std.specs.Prelude.{◌≡◌, ◌≢◌, ℕ, List, Some, Decides, FitsSigned, ⊤}
use Rattle.std.specs.Int.{w64}
use Rattle.xs_model.specs.declared.value.Value.{Value}
use Rattle.xs_model.specs.declared.value.Value.TheFolds.{every-Value}
use Rattle.xs_model.specs.declared.value.Value.TheOpen.{Value-F}
use Rattle.xs_model.specs.Compact.{compact_text}
use Rattle.xs_model.specs.Rising.{put, get}
use Rattle.xs_model.specs.Equality.{same}

-- the test of equality is true exactly where both values are the same value
abbrev pub EqualityIsOfValues : Type 0
EqualityIsOfValues = (a b : Value) → Decides (same a b) (a ≡ b)

-- where the value is a number, it is one of 64 bits with sign
abbrev pub IsOf64Bits : Value-F Value → Type 0
IsOf64Bits (Value-F.Int number) = FitsSigned w64 number
IsOf64Bits _ = ⊤

-- each number in the value, at any depth, is of 64 bits, as those of a value in a program are
abbrev pub HasNumbersOf64Bits : Value → Type 0
HasNumbersOf64Bits = every-Value IsOf64Bits

-- unequal values have unequal compact texts
abbrev pub CompactTextIsInjective : Type 0
CompactTextIsInjective =
    (a b : Value) → HasNumbersOf64Bits a → HasNumbersOf64Bits b
    → compact_text a ≡ compact_text b → a ≡ b

-- of what was put under a key the last counts, and nothing is changed under another key
pub record LastPutWins (X : Type 0) : Type 0 where
  -- after a second put under the key nothing is left of the first
  pub last : (pairs : List (List ℕ × X)) (key : List ℕ) (x y : X)
      → put (put pairs key x) key y ≡ put pairs key y
  -- what was put is what is found
  pub held : (pairs : List (List ℕ × X)) (key : List ℕ) (x : X) → get key (put pairs key x) ≡ Some x
  -- what is found under another key is what was found before
  pub others : (pairs : List (List ℕ × X)) (key other : List ℕ) (x : X)
      → other ≢ key → get other (put pairs key x) ≡ get other pairs
