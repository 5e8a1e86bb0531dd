-- What the definitions of a text's meaning and of its faults have to do with one another.
use Rattle.std.specs.Prelude.{◌≡◌, ◌≢◌, ℕ, List}
use Rattle.ordered_json.specs.declared.fault.JsonFault.{JsonFault}
use Rattle.ordered_json.specs.declared.fault.JsonFault.TheVariants.{Memory}
use Rattle.ordered_json.specs.declared.json.OrderedJson.{OrderedJson}
use Rattle.ordered_json.specs.Meaning.{Means}
use Rattle.ordered_json.specs.Faults.{HasFault}

-- a text has at most one meaning
abbrev pub MeaningIsUnique : Type 0
MeaningIsUnique = (text : List ℕ) (a b : OrderedJson) → Means text a → Means text b → a ≡ b

-- a text with a meaning has no fault
abbrev pub MeaningExcludesFault : Type 0
MeaningExcludesFault =
    (text : List ℕ) (json : OrderedJson) (fault : JsonFault)
    → fault ≢ Memory → Means text json → HasFault text fault → ⊥

-- a text has at most one first fault
abbrev pub FaultIsUnique : Type 0
FaultIsUnique =
    (text : List ℕ) (a b : JsonFault)
    → a ≢ Memory → b ≢ Memory → HasFault text a → HasFault text b → a ≡ b
