-- What the targets of a transition that were looked at leave free for the next one.
use Rattle.std.specs.Prelude.{◌≡◌, ◌≢◌, ◌⊎◌, ◌↔◌, ◌<◌, ℕ, Bool, true, false, List, Contains, Option, Some, length}
use Rattle.ordered_json.specs.declared.json.OrderedJson.{OrderedJson}
use Rattle.ordered_json.specs.Words.{place_of}
use Rattle.node_tree.specs.declared.node.Kind.TheVariants.{Parallel}
use Rattle.node_tree.specs.declared.node.Node.{Node}
use Rattle.node_tree.specs.Kinds.{kind_of}
use Rattle.node_tree.specs.Nodes.{IsBelow, IsChild, IsWithin}
use Rattle.step_sets.specs.Statechart.{AreOrthogonal, CountsFor}
use Rattle.machine_json.specs.declared.fault.MachineFault.{MachineFault}
use Rattle.machine_json.specs.declared.fault.MachineFault.TheVariants.{Clash}
use Rattle.machine_json.specs.FirstPass.{TellsFirst}
use Rattle.machine_json.specs.SecondPass.{led_to}

-- a node is in another region than each of those that were reached
abbrev pub IsFree : List Node → List ℕ → ℕ → Type 0
IsFree rows reached n = (y : ℕ) → Contains reached y → AreOrthogonal rows y n

-- one of those that were reached isn't in another region than the node
abbrev pub IsTaken : List Node → List ℕ → ℕ → Type 0
IsTaken rows reached n = (y : ℕ) × Contains reached y × ¬ AreOrthogonal rows y n

-- a parent leaves nothing free below a child: it is closed, or isn't parallel and something was
-- reached below it that isn't below the child
abbrev pub IsBlocked : List Node → (ℕ → Bool) → (ℕ → Bool) → ℕ → ℕ → Type 0
IsBlocked rows around closed child parent =
    (closed parent ≡ true)
    ⊎ ((around child ≡ false) × (around parent ≡ true) × (kind_of rows parent ≢ Some Parallel))

-- a parent isn't closed, and is parallel where something was reached below it that isn't below a child
abbrev pub IsOpen : List Node → (ℕ → Bool) → (ℕ → Bool) → ℕ → ℕ → Type 0
IsOpen rows around closed child parent =
    (closed parent ≡ false)
    × (around child ≡ false → around parent ≡ true → kind_of rows parent ≡ Some Parallel)

-- Two sets tell what was reached: `around` has the nodes that something reached is or is below,
-- `closed` those below which nothing is free: what was reached, and a node that isn't parallel with
-- something reached in two of its children.
pub record TellsReached (rows : List Node) (reached : List ℕ) (around closed : ℕ → Bool) : Type 0 where
  pub inside : (y : ℕ) → Contains reached y → y < length rows
  pub up : (n y : ℕ) → Contains reached y → IsWithin rows y n → around n ≡ true
  pub down : (n : ℕ) → around n ≡ true → (y : ℕ) × Contains reached y × IsWithin rows y n
  pub themselves : (y : ℕ) → Contains reached y → closed y ≡ true
  pub parted : (p v w y z : ℕ) → IsChild rows v p → IsChild rows w p → v ≢ w
      → Contains reached y → Contains reached z → IsWithin rows y v → IsWithin rows z w
      → kind_of rows p ≢ Some Parallel → closed p ≡ true
  pub taken_below : (p n : ℕ) → closed p ≡ true → IsBelow rows n p → IsTaken rows reached n

-- the node counts for a target
abbrev pub CountsForTarget : List Node → ℕ → OrderedJson → ℕ → Type 0
CountsForTarget rows source target n =
    (s : ℕ) × (led_to rows source target ≡ Some s) × CountsFor rows s n

-- a target clashes with something that was reached, at its text
abbrev pub ClashesWithReached : List Node → ℕ → List ℕ → OrderedJson → MachineFault → Type 0
ClashesWithReached rows source reached target fault =
    (n : ℕ) × CountsForTarget rows source target n × IsTaken rows reached n
    × (fault ≡ Clash (place_of target))

-- the sets tell what was reached once a target was too, and the fault is that of the target
pub record HasReached (rows : List Node) (source : ℕ) (target : OrderedJson) (reached : List ℕ)
    (around closed : ℕ → Bool) (found : Option MachineFault) : Type 0 where
  pub now_reached : List ℕ
  pub told : TellsReached rows now_reached around closed
  pub added : (n : ℕ) →
      Contains now_reached n ↔ (Contains reached n ⊎ CountsForTarget rows source target n)
  pub first : TellsFirst found (ClashesWithReached rows source reached target)
