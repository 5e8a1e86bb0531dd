-- A tournament of head letters: the nodes above places, and the entrant with the earliest letter.
use Rattle.std.specs.Prelude.{◌≡◌, ℕ, zero, suc, ◌+◌, ◌-◌, ◌*◌, ◌/◌, ◌<◌, ◌≤◌, ◌≢◌, Bool, true, List, length, nat_eq, nat_lt, Option, None, Some, IfSome, slice_index_or, if◌then◌else◌}
use Rattle.std.specs.List.{list_any}
use Rattle.actor_tree.specs.declared.tournament.Entrant.{Entrant}

-- the one with the earlier letter
abbrev pub earlier_entrant : Option Entrant → Option Entrant → Option Entrant
earlier_entrant None other = other
earlier_entrant (Some entrant) None = Some entrant
earlier_entrant (Some entrant) (Some other) = if nat_lt other.letter entrant.letter then Some other else Some entrant

-- the entrant's actor is one of these
abbrev pub is_listed : List ℕ → Entrant → Bool
is_listed listed entrant = list_any (nat_eq entrant.actor) listed

-- a node above the places, or one of these
abbrev pub node_at : List (Option Entrant) → List (Option Entrant) → ℕ → Option Entrant
node_at winners places node =
    if nat_lt node (length winners) then slice_index_or winners node None else slice_index_or places (node - length winners) None

-- each node above the places but one is the earlier of the two below it
pub record IsPlayedBut (skipped : ℕ) (winners : List (Option Entrant)) (places : List (Option Entrant)) : Type 0 where
  pub same_count : length winners ≡ length places
  pub played :
      (node : ℕ) → 0 < node → node < length winners → node ≢ skipped
      → slice_index_or winners node None ≡ earlier_entrant (node_at winners places (2 * node)) (node_at winners places (2 * node + 1))

-- somebody's letter isn't after this one
abbrev pub IsNotAfter : Option Entrant → ℕ → Type 0
IsNotAfter None letter = ⊥
IsNotAfter (Some entrant) letter = entrant.letter ≤ letter

-- an entrant that plays has a place
abbrev pub StandsInPlace : (Entrant → Bool) → List (Option Entrant) → Entrant → Type 0
StandsInPlace plays places entrant = (plays entrant ≡ true) × ((place : ℕ) × (slice_index_or places place None ≡ Some entrant))

-- of the entrants that play the one with the earliest letter; none where none plays
pub record IsFirstOf (plays : Entrant → Bool) (places : List (Option Entrant)) (first : Option Entrant) : Type 0 where
  pub stands : IfSome first (StandsInPlace plays places)
  pub earliest : (place : ℕ) (other : Entrant) → slice_index_or places place None ≡ Some other → plays other ≡ true → IsNotAfter first other.letter

-- the node so many levels above another one
abbrev pub node_above : ℕ → ℕ → ℕ
node_above zero node = node
node_above (suc levels) node = node_above levels node / 2

-- of the entrants below a node that play the one with the earliest letter; none where none plays
pub record IsFirstBelow (plays : Entrant → Bool) (node : ℕ) (winners : List (Option Entrant)) (places : List (Option Entrant)) (first : Option Entrant) : Type 0 where
  pub stands : IfSome first (StandsInPlace plays places)
  pub earliest :
      (levels below : ℕ) (other : Entrant) → node_above levels below ≡ node → below < 2 * length places
      → node_at winners places below ≡ Some other → plays other ≡ true → IsNotAfter first other.letter
