-- What definitions are, as bytes, and how they are taken from a source.
use Rattle.std.specs.Prelude.{◌≡◌, ◌⊎◌, ℕ, ◌≤◌, List, length, Option, Some, Result, Ok, Err, ⊤}
use Rattle.std.specs.Io.KnownBytes.{prepend_known, IsAtEnd}
use Rattle.xs_outside.specs.Counts.{Rose}
use Rattle.ordered_json.specs.declared.json.OrderedJson.{OrderedJson}
use Rattle.ordered_json.specs.Meaning.{Means}
use Rattle.action_table.specs.declared.definitions.Defs.{Defs}
use Rattle.action_table.specs.DefsText.{MeansDefs}
use Rattle.flat_core.specs.declared.flat.FlatMachine.{FlatMachine}
use Rattle.flat_core.specs.declared.flat_text.FlatFault.{FlatFault}
use Rattle.flat_core.specs.declared.flat_text.FlatFault.TheVariants.{NotFlat, Memory as no_memory}
use Rattle.flat_core.specs.FlatText.{office_in}
use Rattle.office_run.specs.declared.definitions.TheConstants.{MAX_DEFINITIONS_TAKEN}
use Rattle.office_run.specs.declared.definitions.DefinitionsFault.{DefinitionsFault}
use Rattle.office_run.specs.declared.definitions.DefinitionsFault.TheVariants.{Failed, Memory}

-- the bytes are a JSON text of an office of these flat machines
abbrev pub IsFlatText : List ℕ → List FlatMachine → Type 0
IsFlatText text machines =
    (json : OrderedJson) × Means text json × (office_in json ≡ Some machines)

-- they are no such text
abbrev pub IsNotFlatText : List ℕ → Type 0
IsNotFlatText text = (machines : List FlatMachine) → IsFlatText text machines → ⊥

-- the bytes mean definitions whose machines are these flat ones: a run hosts them
pub record IsHosted (text : List ℕ) (machines : List FlatMachine) : Type 0 where
  pub defs : Defs
  pub means : MeansDefs text defs
  pub flat : IsFlatText text machines

-- the bytes mean definitions that aren't flat machines alone: no run hosts them yet
pub record IsUnhosted (text : List ℕ) : Type 0 where
  pub defs : Defs
  pub means : MeansDefs text defs
  pub not_flat : IsNotFlatText text

-- the flat machines of a text, or none; memory may run out
abbrev pub ReadsFlat : Result (List FlatMachine) FlatFault → List ℕ → Type 0
ReadsFlat (Ok machines) text = IsFlatText text machines
ReadsFlat (Err NotFlat) text = IsNotFlatText text
ReadsFlat (Err no_memory) text = ⊤

-- all bytes of the source were taken, or as many as are taken at most
pub record TakesText (text : List ℕ) (left left' : Option (List ℕ)) : Type 0 where
  pub whole : left ≡ prepend_known text left'
  pub limited : length text ≤ MAX_DEFINITIONS_TAKEN
  pub ends : IsAtEnd left' ⊎ (length text ≡ MAX_DEFINITIONS_TAKEN)

-- the count of the source's faults rose where it failed, and stayed where it didn't
abbrev pub CountsSource : {X : Type 0} → Result X DefinitionsFault → ℕ → ℕ → Type 0
CountsSource (Ok x) old new = new ≡ old
CountsSource (Err Failed) old new = Rose old new
CountsSource (Err Memory) old new = new ≡ old
