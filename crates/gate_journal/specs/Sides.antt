-- What both sides of a disk hold together.
use Rattle.std.specs.Prelude.{◌≡◌, ◌⊎◌, ℕ, ◌<◌, ◌≤◌, List, ◌++◌, length, Some, None}
use Rattle.std.specs.declared.option.Option.{Option}
use Rattle.xs_outside.specs.declared.Side.{Side}
use Rattle.xs_outside.specs.declared.Side.TheVariants.{A, B}
use Rattle.xs_outside.specs.Disk.{Sides, on, other}
use Rattle.gate_journal.specs.declared.parts.TheConstants.{HEAD}
use Rattle.gate_journal.specs.declared.held.Held.{Held}
use Rattle.gate_journal.specs.Layout.{Content, HoldsContent, HasHead, HasShortHead, IsClosed, IsBadAt, head_text, places_from}

-- what is held, without the side and the places
abbrev pub held_content : Held → Content
held_content held = record { generation = held.generation; base = held.base; records = held.records }

-- the place of the first record
abbrev pub first_place : Content → ℕ
first_place content = length (head_text content.generation (length content.base) ++ content.base)

-- a side is open and long enough for a head, and this is its generation
abbrev pub HasGeneration : ℕ → List ℕ → Type 0
HasGeneration generation side = (size : ℕ) × (behind : List ℕ) × HasHead generation size behind side

-- a side comes behind one of this generation: it is closed, or its own is smaller
abbrev pub IsBehind : ℕ → List ℕ → Type 0
IsBehind generation side = IsClosed side ⊎ ((own : ℕ) × HasGeneration own side × (own < generation))

-- this is held: its side holds it, at these places, and the other side comes behind
pub record IsHeldBy (sides : Sides) (held : Held) : Type 0 where
  pub holds : HoldsContent (held_content held) (on held.side sides)
  pub places : held.places ≡ places_from (first_place (held_content held)) held.records
  pub behind : IsBehind held.generation (on (other held.side) sides)

-- what the sides hold, or nothing where both are closed
abbrev pub SidesHold : Option Held → Sides → Type 0
SidesHold None sides = IsClosed sides.a × IsClosed sides.b
SidesHold (Some held) sides = IsHeldBy sides held

-- ---- the first fault of both sides

-- a side that ends inside its head; side a is looked at first
abbrev pub HasShortSide : Side → Sides → Type 0
HasShortSide A sides = HasShortHead sides.a
HasShortSide B sides = HasShortHead sides.b × (IsClosed sides.a ⊎ (HEAD ≤ length sides.a))

-- both sides are open with one generation, which is a fault of side b
abbrev pub HasEqualGenerations : Sides → Type 0
HasEqualGenerations sides = (generation : ℕ) × HasGeneration generation sides.a × HasGeneration generation sides.b

-- the side with the greater generation has a fault behind its head
abbrev pub HasBadText : Side → ℕ → Sides → Type 0
HasBadText side place sides = (generation : ℕ) × HasGeneration generation (on side sides) × IsBehind generation (on (other side) sides) × IsBadAt (on side sides) place

-- the side and the place of the first fault, in the order in which the bytes are looked at
abbrev pub AreBadAt : Side → ℕ → Sides → Type 0
AreBadAt side place sides = (HasShortSide side sides × (place ≡ 1)) ⊎ ((side ≡ B) × HasEqualGenerations sides × (place ≡ 1)) ⊎ HasBadText side place sides
