-- What holds of every side, and of both: they are one thing and no other.
use Rattle.std.specs.Prelude.{◌≡◌, ℕ, ◌^◌, ◌<◌, List, All}
use Rattle.std.specs.declared.option.Option.{Option}
use Rattle.xs_outside.specs.declared.Side.{Side}
use Rattle.xs_outside.specs.Disk.{Sides}
use Rattle.gate_journal.specs.declared.held.Held.{Held}
use Rattle.gate_journal.specs.Layout.{Content, HoldsContent, IsBadAt, IsClosed}
use Rattle.gate_journal.specs.Sides.{AreBadAt, SidesHold}

-- what a side may be: closed, open with a content, or bad at a place
pub data OneLayout : Type 0 where
  closed : OneLayout
  holding : Content → OneLayout
  bad : ℕ → OneLayout

-- a side is this
abbrev pub HasLayout : OneLayout → List ℕ → Type 0
HasLayout closed side = IsClosed side
HasLayout (holding content) side = HoldsContent content side
HasLayout (bad place) side = IsBadAt side place

-- a side is one of these, and no other
abbrev pub HasOneLayout : List ℕ → Type 0
HasOneLayout side = (one : OneLayout) × HasLayout one side × ((any : OneLayout) → HasLayout any side → any ≡ one)

-- each side of bytes is closed, or open with one content, or bad at one place, and no two of these
abbrev pub EachSideHasOneLayout : Type 0
EachSideHasOneLayout = (side : List ℕ) → All (λ byte. byte < 2 ^ 8) side → HasOneLayout side

-- what both sides may have: something held, or nothing; or the side and the place of their first fault
pub data OneAnswer : Type 0 where
  hold : Option Held → OneAnswer
  faulty : Side → ℕ → OneAnswer

-- both sides have this
abbrev pub HasAnswer : OneAnswer → Sides → Type 0
HasAnswer (hold held) sides = SidesHold held sides
HasAnswer (faulty side place) sides = AreBadAt side place sides

-- both sides have one of these, and no other
abbrev pub HasOneAnswer : Sides → Type 0
HasOneAnswer sides = (one : OneAnswer) × HasAnswer one sides × ((any : OneAnswer) → HasAnswer any sides → any ≡ one)

-- both sides hold one thing, or nothing, whatever stands in them
abbrev pub SidesHoldOne : Type 0
SidesHoldOne = (sides : Sides) (one any : Option Held) → SidesHold one sides → SidesHold any sides → any ≡ one

-- both sides of bytes hold one thing, or nothing, or have their first fault at one place of one side, and no two of these
abbrev pub BothSidesHaveOneAnswer : Type 0
BothSidesHaveOneAnswer =
    (sides : Sides) → All (λ byte. byte < 2 ^ 8) sides.a → All (λ byte. byte < 2 ^ 8) sides.b → HasOneAnswer sides
