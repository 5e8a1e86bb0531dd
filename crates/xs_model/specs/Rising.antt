-- Lists of pairs that are sorted by their keys.
use Rattle.std.specs.Prelude.{◌≡◌, ℕ, ◌≤◌, List, length, take, drop, slice_get, Option, Some, bytes_eq}
use Rattle.std.specs.declared.cmp.Ordering.{Ordering}
use Rattle.std.specs.declared.cmp.Ordering.TheVariants.{Less, Greater}
use Rattle.std.specs.Ordering.{nat_cmp}
use Rattle.std.specs.Cmp.Lexicographic.{slice_cmp}
use Rattle.std.specs.BTreeMap.{insert_entry}
use Rattle.std.specs.List.{AllByRecursion}
use Rattle.std.specs.List.Sorted.{IsStrictlySortedBy}
use Rattle.std.specs.Map.{keys_of, lookup}

-- the order of keys, by their bytes
abbrev pub key_cmp : List ℕ → List ℕ → Ordering
key_cmp = slice_cmp nat_cmp

-- each key is below those after it
abbrev pub KeysRise : {X : Type 0} → List (List ℕ × X) → Type 0
KeysRise pairs = IsStrictlySortedBy key_cmp (keys_of pairs)

-- the pairs with x under the key
abbrev pub put : {X : Type 0} → List (List ℕ × X) → List ℕ → X → List (List ℕ × X)
put pairs key x = insert_entry key_cmp pairs key x

-- what is held under the key
abbrev pub get : {X : Type 0} → List ℕ → List (List ℕ × X) → Option X
get key pairs = lookup (bytes_eq key) pairs

-- the pair at this place has the key
abbrev pub HoldsKeyAt : {X : Type 0} → List ℕ → ℕ → List (List ℕ × X) → Type 0
HoldsKeyAt {X} key place pairs = (x : X) × (slice_get pairs place ≡ Some (key, x))

-- the key is above those before this place, and below those from it on
pub record HasGapAt {X : Type 0} (key : List ℕ) (place : ℕ) (pairs : List (List ℕ × X)) : Type 0 where
  pub within : place ≤ length pairs
  pub above : AllByRecursion (λ k. key_cmp key k ≡ Greater) (keys_of (take place pairs))
  pub below : AllByRecursion (λ k. key_cmp key k ≡ Less) (keys_of (drop place pairs))
