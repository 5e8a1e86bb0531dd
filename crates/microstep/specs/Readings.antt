-- What the parts of a selection are lent.
use Rattle.std.specs.Prelude.{◌≡◌, ◌⊎◌, ℕ, false, List, [], map, unwrap_or, slice_get, Option, None, IsSomeAnd, Result, Ok}
use Rattle.xs_model.specs.declared.env.EvalFault.{EvalFault}
use Rattle.node_tree.specs.Kinds.{Nodes}
use Rattle.node_tree.specs.Nodes.{IsBelow}
use Rattle.office_types.specs.Events.{event_type}
use Rattle.office_types.specs.OwnParts.{HasBegun}
use Rattle.guard_eval.specs.Definitions.{IsWellFormed}
use Rattle.microstep.specs.Candidates.{descriptors_of}
use Rattle.microstep.specs.Patterns.{pattern_text}
use Rattle.microstep.specs.Selection.{Looking, Place, own_transition}
use Rattle.microstep.specs.declared.reading.Reading.{Reading}

-- what is read
abbrev pub looking_of : Reading → Looking
looking_of reading = record {
  def = reading.def.now;
  own = reading.own.now;
  event = reading.event.now;
  eventless = reading.eventless;
}

-- something can be selected: a begun own part of a well-formed definition, with the type of the event and, for a step with an event, its descriptors
pub record IsSelectable (reading : Reading) : Type 0 where
  pub actors : ℕ
  pub well_formed : IsWellFormed actors reading.def.now
  pub begun : HasBegun reading.def.now.tree reading.own.now
  pub kind : reading.kind.now ≡ unwrap_or (event_type reading.event.now) []
  pub patterns : reading.eventless ≡ false
      → map (pattern_text reading.kind.now) reading.patterns.now ≡ descriptors_of reading.kind.now

-- the first of these places is below the node
abbrev pub IsPassed : Nodes → List Place → ℕ → Type 0
IsPassed nodes places n = IsSomeAnd (slice_get places 0) (λ (inner : Place). IsBelow nodes inner.0 n)

-- what a node picks where these are the picks after it, in document order: it isn't asked where the first of them is below it
pub record Picks (looking : Looking) (later : List Place) (n : ℕ) (own : Result (Option ℕ) EvalFault) : Type 0 where
  pub asked : ¬ IsPassed looking.def.tree later n
  pub own_is : own_transition looking n ≡ own

-- nothing is picked: the node isn't asked, or has no enabled transition
abbrev pub PicksNone : Looking → List Place → ℕ → Type 0
PicksNone looking later n = IsPassed looking.def.tree later n ⊎ (own_transition looking n ≡ Ok None)
