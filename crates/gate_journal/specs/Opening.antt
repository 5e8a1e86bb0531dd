-- Which side is read, as the fronts of both say.
use Rattle.std.specs.Prelude.{◌≡◌, ◌⊎◌, ℕ, ◌≤◌, Bool, true, false, Some, None, List, length, take, drop}
use Rattle.std.specs.declared.option.Option.{Option}
use Rattle.xs_outside.specs.declared.Side.{Side}
use Rattle.xs_outside.specs.declared.Side.TheVariants.{B}
use Rattle.xs_outside.specs.Disk.{Sides, on, other}
use Rattle.gate_journal.specs.declared.parts.TheConstants.{HEAD}
use Rattle.gate_journal.specs.declared.opening.Choice.{Choice}
use Rattle.gate_journal.specs.declared.opening.Choice.TheVariants.{Neither, Held, Bad}
use Rattle.gate_journal.specs.declared.held.Held.{Held as Holding}
use Rattle.gate_journal.specs.declared.held.Layout.{Layout}
use Rattle.gate_journal.specs.declared.held.Layout.TheVariants as layout
use Rattle.gate_journal.specs.Layout.{HasHead, HoldsContent, IsBadAt, IsClosed, places_from, side_text}
use Rattle.gate_journal.specs.Sides.{IsBehind, HasShortSide, HasEqualGenerations, held_content, first_place}

-- what both sides say of which one is held
abbrev pub ChoiceIs : Choice → Sides → Type 0
ChoiceIs Neither sides = IsClosed sides.a × IsClosed sides.b
ChoiceIs (Bad side) sides = HasShortSide side sides ⊎ ((side ≡ B) × HasEqualGenerations sides)
ChoiceIs (Held side generation size) sides = HasHead generation size (drop HEAD (on side sides)) (on side sides) × IsBehind generation (on (other side) sides)

-- the front of a side: all its bytes, or at least as many as a head has
pub record IsFront (front side : List ℕ) : Type 0 where
  pub bytes : front ≡ take (length front) side
  pub enough : (HEAD ≤ length front) ⊎ (front ≡ side)

-- a text holds this, in this place of the disk, and its records end at this gate
pub record IsHeldText (held : Holding) (side : Side) (end : ℕ) (text : List ℕ) : Type 0 where
  pub on_side : held.side ≡ side
  pub holds : HoldsContent (held_content held) text
  pub places : held.places ≡ places_from (first_place (held_content held)) held.records
  pub ends : end ≡ length (side_text (held_content held))

-- one side is closed, or holds this
abbrev pub IsSideOf : Option Holding → Side → List ℕ → Type 0
IsSideOf None side text = IsClosed text
IsSideOf (Some held) side text = (held.side ≡ side) × HoldsContent (held_content held) text × (held.places ≡ places_from (first_place (held_content held)) held.records)

-- what one side is by itself
abbrev pub LayoutIs : Layout → Side → List ℕ → Type 0
LayoutIs layout.Closed side text = IsClosed text
LayoutIs (layout.Open held) side text = (held.side ≡ side) × HoldsContent (held_content held) text × (held.places ≡ places_from (first_place (held_content held)) held.records)
LayoutIs (layout.Bad place) side text = IsBadAt text place
LayoutIs layout.Fault side text = Unit {0}
LayoutIs layout.Memory side text = Unit {0}

-- the answer is a fault
abbrev pub layout_failed : Layout → Bool
layout_failed layout.Closed = false
layout_failed (layout.Open held) = false
layout_failed (layout.Bad place) = false
layout_failed layout.Fault = true
layout_failed layout.Memory = false
