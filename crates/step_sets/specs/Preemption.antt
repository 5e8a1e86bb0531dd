-- Which of the enabled transitions stay, after SCXML's removeConflictingTransitions.
use Rattle.std.specs.Prelude.{◌≡◌, ℕ, ◌<◌, ◌↔◌, ◌⊎◌, IsTrue, Bool, true, false, MatchBool, List, [], length, Contains, slice_index_or}

-- the two have a node in common
abbrev pub Meets : List ℕ → List ℕ → Type 0
Meets a b = (n : ℕ) × Contains a n × Contains b n

-- the exit set meets that of one that stays before it
abbrev pub IsPreempted : List (List ℕ) → List Bool → ℕ → Type 0
IsPreempted exits stays i =
    (j : ℕ) × (j < i) × (slice_index_or stays j false ≡ true)
    × Meets (slice_index_or exits j []) (slice_index_or exits i [])

-- one transition stays exactly if it is not preempted
pub record KeepsUnpreempted (exits : List (List ℕ)) (stays : List Bool) : Type 0 where
  pub each : length stays ≡ length exits
  pub cases : (i : ℕ) → i < length exits
      → MatchBool (slice_index_or stays i false)
      (¬ IsPreempted exits stays i) (IsPreempted exits stays i)

-- some node of the list is taken
abbrev pub HasTaken : List ℕ → (ℕ → Bool) → Type 0
HasTaken nodes taken = (n : ℕ) × Contains nodes n × IsTrue (taken n)

-- no node of the list is taken
abbrev pub IsApart : List ℕ → (ℕ → Bool) → Type 0
IsApart nodes taken = (n : ℕ) → Contains nodes n → ¬ IsTrue (taken n)

-- what is taken afterwards is what was taken before and the list
abbrev pub TakesAll : List ℕ → (ℕ → Bool) → (ℕ → Bool) → Type 0
TakesAll nodes old new = (n : ℕ) → IsTrue (new n) ↔ (IsTrue (old n) ⊎ Contains nodes n)
