-- What two sets of nodes tell of those that were reached.
use Rattle.std.proofs.Common.{◌≡◌, ◌≢◌, ◌<◌, ◌⊎◌, ℕ, Bool, true, false, List, length, None, arith, refl, sym, subst, inl, inr, ap}
use Rattle.std.specs.Prelude.{Contains}
use Rattle.node_tree.specs.declared.node.Node.{Node}
use Rattle.node_tree.specs.Nodes.{IsBelow, IsChild, IsOutline, IsWithin, parent_of}
use Rattle.node_tree.proofs.TreeLemmas.{parent_first}
use Rattle.step_sets.specs.Statechart.{AreOrthogonal}
use Rattle.step_sets.proofs.TreeLemmas.{child_towards, within_parent}
use Rattle.machine_json.specs.Reached.{IsBlocked, IsFree, IsOpen, IsTaken, TellsReached}
use Rattle.machine_json.proofs.RegionLemmas.{decide_parallel, decide_within, part_in_one, part_in_two, within_root}

bool_cases : (b : Bool) → (b ≡ true) ⊎ (b ≡ false)
bool_cases true = inl refl
bool_cases false = inr refl

-- ---- whether a node is taken

-- the walk up from a node has come to one that it is or is below, and those that were reached are in
-- other regions or not below that one
pub record HasClimbed (rows : List Node) (around closed : ℕ → Bool) (node at : ℕ) : Type 0 where
  pub inside : at < length rows
  pub within : IsWithin rows node at
  pub apart : (reached : List ℕ) → TellsReached rows reached around closed → (y : ℕ) → Contains reached y
      → AreOrthogonal rows y node ⊎ (IsWithin rows y at → ⊥)

module _ (rows : List Node) (outline : IsOutline rows) (around closed : ℕ → Bool) where
  pub begins : (node : ℕ) → node < length rows → around node ≡ false → HasClimbed rows around closed node node
  begins node is_node new = record {
    inside = is_node;
    within = inl refl;
    apart = λ reached tells y has. inr (λ within. let there = tells.up node y has within in absurd (cc));
  }

  pub taken_around : (node : ℕ) → around node ≡ true → (reached : List ℕ) → TellsReached rows reached around closed → IsTaken rows reached node
  taken_around node is reached tells =
      let (y, has, within) = tells.down node is in (y, has, λ orthogonal. orthogonal.apart within)

  pub taken_above : (node at parent : ℕ) → HasClimbed rows around closed node at → IsChild rows at parent → IsBlocked rows around closed at parent
      → (reached : List ℕ) → TellsReached rows reached around closed → IsTaken rows reached node
  taken_above node at parent climbed is blocked reached tells =
      elim blocked [
        | inl is_closed ↦ tells.taken_below parent node is_closed (within_parent rows node at parent climbed.within is)
        | inr divided ↦
            let (y, has, within) = tells.down parent divided.1 in
            (y, has, part_in_one rows outline node y parent at divided.2 is climbed.within within (λ y_at. let there = tells.up at y has y_at in let none = divided.0 in absurd (cc)))
      ]

  -- what was reached below a parent that is open, and not below the child on the way
  region_of : (node at parent y : ℕ) (reached : List ℕ) → TellsReached rows reached around closed → Contains reached y
      → IsWithin rows node at → IsChild rows at parent → IsOpen rows around closed at parent → IsBelow rows y parent → (IsWithin rows y at → ⊥)
      → AreOrthogonal rows y node
  region_of node at parent y reached tells has within is is_open below apart =
      elim (decide_parallel rows outline parent) [
        | inl kind ↦ part_in_two rows outline node y parent at kind is within below apart
        | inr other ↦ elim (bool_cases (around at)) [
          | inr none ↦ absurd (other (is_open.1 none (tells.up parent y has (inr below))))
          | inl some ↦
              let (z, has_z, z_at) = tells.down at some in
              let (w, is_w, y_w) = child_towards rows y parent below in
              let differ : at ≢ w = λ same. apart (let P : ℕ → Type 0 = λ n. IsWithin rows y n in subst P (sym same) y_w) in
              let yes = tells.parted parent at w z y is is_w differ has_z has z_at y_w other in
              let no = is_open.0 in absurd (cc)
        ]
      ]

  climbs_one : (node at parent y : ℕ) (reached : List ℕ) → TellsReached rows reached around closed → Contains reached y
      → IsWithin rows node at → IsChild rows at parent → IsOpen rows around closed at parent
      → (AreOrthogonal rows y node ⊎ (IsWithin rows y at → ⊥)) → AreOrthogonal rows y node ⊎ (IsWithin rows y parent → ⊥)
  climbs_one node at parent y reached tells has within is is_open (inl orthogonal) = inl orthogonal
  climbs_one node at parent y reached tells has within is is_open (inr apart) =
      elim (decide_within rows outline y parent) [
        | inr none ↦ inr none
        | inl upto ↦ elim upto [
          | inl same ↦
              let yes = tells.themselves y has in
              let same_closed : closed y ≡ closed parent = ap closed same in
              let no = is_open.0 in absurd (cc)
          | inr below ↦ inl (region_of node at parent y reached tells has within is is_open below apart)
        ]
      ]

  pub climbs : (node at parent : ℕ) → HasClimbed rows around closed node at → IsChild rows at parent → IsOpen rows around closed at parent → HasClimbed rows around closed node parent
  climbs node at parent climbed is is_open = record {
    inside = let less = parent_first rows outline at parent is in let before = climbed.inside in omega arith;
    within = inr (within_parent rows node at parent climbed.within is);
    apart = λ reached tells y has. climbs_one node at parent y reached tells has climbed.within is is_open (climbed.apart reached tells y has);
  }

  pub free_at_root : (node at : ℕ) → HasClimbed rows around closed node at → parent_of rows at ≡ None
      → (reached : List ℕ) → TellsReached rows reached around closed → IsFree rows reached node
  free_at_root node at climbed none reached tells = λ y has.
      elim (climbed.apart reached tells y has) [
        | inl orthogonal ↦ orthogonal
        | inr apart ↦ absurd (apart (within_root rows outline at y none climbed.inside (tells.inside y has)))
      ]
