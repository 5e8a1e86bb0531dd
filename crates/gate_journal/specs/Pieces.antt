-- How `Records` keeps a list of byte strings: one after the other, with the place where each ends.
use Rattle.std.specs.Prelude.{◌≡◌, ℕ, ◌-◌, ◌≤◌, List, [], ◌∷◌, take, drop, slice_index}
use Rattle.std.proofs.Common.{zero, suc}

-- the pieces of some bytes, from a place on, that end at these places
abbrev pub pieces : List ℕ → ℕ → List ℕ → List (List ℕ)
pieces bytes from [] = []
pieces bytes from (end ∷ ends) = take (end - from) (drop from bytes) ∷ pieces bytes end ends

-- these places don't fall, from one on, and the last of them is that one
abbrev pub Ends : ℕ → List ℕ → ℕ → Type 0
Ends from [] last = from ≡ last
Ends from (end ∷ ends) last = (from ≤ end) × Ends end ends last

-- where a piece starts: where the one before it ends, or at the front
abbrev pub start_of : List ℕ → ℕ → ℕ
start_of ends zero = 0
start_of ends (suc index) = slice_index ends index
