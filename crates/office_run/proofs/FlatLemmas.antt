-- What the reader of flat machines answers of a JSON value, and what that says of a text that means the value.
use Rattle.std.proofs.Common.{◌≡◌, List, ℕ, None, Some, Result, Ok, Err, sym, ap, ◌∙◌}
use Rattle.ordered_json.specs.declared.json.OrderedJson.{OrderedJson}
use Rattle.ordered_json.specs.Meaning.{Means}
use Rattle.flat_core.specs.declared.flat.FlatMachine.{FlatMachine}
use Rattle.flat_core.specs.declared.flat_text.FlatFault.{FlatFault}
use Rattle.flat_core.specs.declared.flat_text.FlatFault.TheVariants.{NotFlat, Memory}
use Rattle.flat_core.specs.FlatText.{ReadsOffice, office_in}
use Rattle.office_run.specs.Definitions.{ReadsFlat}

none_some : {X : Type 0} {x : X} → None ≡ Some x → ⊥
none_some e = cc

pub reads-flat : (result : Result (List FlatMachine) FlatFault) (text : List ℕ) (json : OrderedJson)
    → ((bytes : List ℕ) (one other : OrderedJson) → Means bytes one → Means bytes other → one ≡ other) → Means text json
    → ReadsOffice (office_in json) result → ReadsFlat result text
reads-flat (Ok machines) text json unique means reads = (json, means, reads)
reads-flat (Err NotFlat) text json unique means reads = λ machines flat.
    none_some (sym reads ∙ ap office_in (unique text json flat.0 means flat.1) ∙ flat.2)
reads-flat (Err Memory) text json unique means reads = tt
