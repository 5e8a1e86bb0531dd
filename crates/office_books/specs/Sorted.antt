-- Lists that are sorted by a key, each key once.
use Rattle.std.specs.Prelude.{◌≡◌, ℕ, zero, suc, List, [], ◌∷◌, map}
use Rattle.std.specs.declared.cmp.Ordering.{Ordering}
use Rattle.std.specs.declared.cmp.Ordering.TheVariants.{Less, Equal, Greater}
use Rattle.std.specs.List.{AllByRecursion}
use Rattle.std.specs.List.Sorted.{IsStrictlySortedBy}

-- each item's key is below those of the items after it
abbrev pub RisesBy : {X K : Type 0} → (K → K → Ordering) → (X → K) → List X → Type 0
RisesBy compare key items = IsStrictlySortedBy compare (map key items)

-- the key is at this place: above those before, and below those after
abbrev pub IsAt : {K : Type 0} → (K → K → Ordering) → K → ℕ → List K → Type 0
IsAt compare key place [] = ⊥
IsAt compare key zero (other ∷ keys) = (compare key other ≡ Equal) × AllByRecursion (λ k. compare key k ≡ Less) keys
IsAt compare key (suc place) (other ∷ keys) = (compare key other ≡ Greater) × IsAt compare key place keys

-- the key isn't there: it is above those before this place, and below those from it on
abbrev pub IsAbsentAt : {K : Type 0} → (K → K → Ordering) → K → ℕ → List K → Type 0
IsAbsentAt compare key zero keys = AllByRecursion (λ k. compare key k ≡ Less) keys
IsAbsentAt compare key (suc place) [] = ⊥
IsAbsentAt compare key (suc place) (other ∷ keys) = (compare key other ≡ Greater) × IsAbsentAt compare key place keys
