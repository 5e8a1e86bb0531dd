-- The letters that tell a parent.
use Rattle.std.proofs.Common.{◌≡◌, ℕ, Bool, false, true, List, refl, subst, sym, ap, ◌∙◌}
use Rattle.std.specs.Prelude.{Err, None, Ok, Option, Some, if◌then◌else◌}
use Rattle.std.specs.Option.{option_map_or}
use Rattle.std.specs.Result.{result_unwrap_or}
use Rattle.xs_model.specs.declared.value.Value.{Value}
use Rattle.office_types.specs.declared.office.OfficeState.{OfficeState}
use Rattle.office_types.specs.declared.office.Origin.TheVariants as origin
use Rattle.office_types.specs.declared.outcome.FaultName.TheVariants.{LettersFull}
use Rattle.office_types.specs.Ends.{after_telling_parent, child_id}
use Rattle.office_types.specs.Fitting.{Fitted}
use Rattle.office_types.specs.Mailboxes.{has_letter_room, with_letter, with_letter_if_room}
use Rattle.office_types.specs.Records.{parent_actor}
use Rattle.actor_tree.specs.declared.part.Part.{Part}
use Rattle.actor_tree.specs.declared.part.Part.TheVariants as part
use Rattle.actor_tree.specs.Changes.{AheadOffice, at_office, with_part}
use Rattle.actor_tree.specs.Parts.{CanPutAll, put, put_part}

-- the letter of a step's actor to its parent
abbrev pub letter_to_parent : AheadOffice → ℕ → (List ℕ → Value) → Part
letter_to_parent ahead parent event = part.Mail (origin.Actor ahead.actor) parent (event (child_id ahead.office parent ahead.actor))

-- a parent is told, where the letter has room
pub told : (old new : AheadOffice) (event : List ℕ → Value) (parent : ℕ) → parent_actor old.office old.actor ≡ Some parent → has_letter_room old.office 1 ≡ true
    → new ≡ with_part old (letter_to_parent old parent event)
    → (after_telling_parent old.office old.actor event ≡ Ok new.office) × (new ≡ at_office old new.office)
told old new event parent is room mailed =
    let letter : ℕ → Fitted = λ (p : ℕ). with_letter_if_room old.office (origin.Actor old.actor) p (event (child_id old.office p old.actor)) in
    let sent : OfficeState = with_letter old.office (origin.Actor old.actor) parent (event (child_id old.office parent old.actor)) in
    let fits : Bool → Fitted = λ (b : Bool). if b then Ok sent else Err LettersFull in
    let office : AheadOffice → Fitted = λ (a : AheadOffice). Ok a.office in
    (ap (λ (o : Option ℕ). option_map_or letter o (Ok old.office)) is ∙ ap fits room ∙ ap office (sym mailed), mailed ∙ ap (λ (a : AheadOffice). at_office old a.office) (sym mailed))

-- the parts of a step that tells the parent at last
pub told_parts : (old new : AheadOffice) (parts : List Part) (event : List ℕ → Value) (parent : ℕ) → parent_actor old.office old.actor ≡ Some parent → has_letter_room old.office 1 ≡ true
    → new ≡ with_part old (letter_to_parent old parent event) → put new.before parts ≡ new.office → CanPutAll new.before parts
    → (after_telling_parent old.office old.actor event ≡ Ok (put old.before parts)) × CanPutAll old.before parts
told_parts old new parts event parent is room mailed office fits =
    let before : new.before ≡ old.before = ap (λ (a : AheadOffice). a.before) mailed in
    let made : put old.before parts ≡ new.office = ap (λ (s : OfficeState). put s parts) (sym before) ∙ office in
    ((told old new event parent is room mailed).0 ∙ ap (λ (s : OfficeState). Ok s) (sym made), subst (λ (s : OfficeState). CanPutAll s parts) before fits)

-- a parent that an end tells
pub ended_told : (old ended : AheadOffice) (after : OfficeState) (parts : List Part) (event : List ℕ → Value) (parent : ℕ) → ended ≡ at_office old after
    → parent_actor ended.office ended.actor ≡ Some parent → has_letter_room ended.office 1 ≡ true
    → put ended.before parts ≡ with_letter ended.office (origin.Actor ended.actor) parent (event (child_id ended.office parent ended.actor))
    → after_telling_parent after old.actor event ≡ Ok (put old.before parts)
ended_told old ended after parts event parent begun is room put_is =
    let letter : ℕ → Fitted = λ (p : ℕ). with_letter_if_room ended.office (origin.Actor ended.actor) p (event (child_id ended.office p ended.actor)) in
    let fits : Bool → Fitted = λ (b : Bool). if b then Ok (with_letter ended.office (origin.Actor ended.actor) parent (event (child_id ended.office parent ended.actor))) else Err LettersFull in
    ap (λ (a : AheadOffice). after_telling_parent a.office a.actor event) (sym begun)
    ∙ ap (λ (o : Option ℕ). option_map_or letter o (Ok ended.office)) is ∙ ap fits room ∙ ap (λ (s : OfficeState). Ok s) (sym put_is)
    ∙ ap (λ (a : AheadOffice). Ok (put a.before parts)) begun

-- an end with no parent to tell
pub ended_alone : (old ended : AheadOffice) (after : OfficeState) (parts : List Part) (event : List ℕ → Value) → ended ≡ at_office old after
    → parent_actor ended.office ended.actor ≡ None → put ended.before parts ≡ ended.office → after_telling_parent after old.actor event ≡ Ok (put old.before parts)
ended_alone old ended after parts event begun is put_is =
    let letter : ℕ → Fitted = λ (p : ℕ). with_letter_if_room ended.office (origin.Actor ended.actor) p (event (child_id ended.office p ended.actor)) in
    ap (λ (a : AheadOffice). after_telling_parent a.office a.actor event) (sym begun)
    ∙ ap (λ (o : Option ℕ). option_map_or letter o (Ok ended.office)) is ∙ ap (λ (s : OfficeState). Ok s) (sym put_is)
    ∙ ap (λ (a : AheadOffice). Ok (put a.before parts)) begun

-- an end whose letter finds no room
pub ended_full : (old ended : AheadOffice) (after : OfficeState) (event : List ℕ → Value) (parent : ℕ) → ended ≡ at_office old after
    → parent_actor ended.office ended.actor ≡ Some parent → has_letter_room ended.office 1 ≡ false → after_telling_parent after old.actor event ≡ Err LettersFull
ended_full old ended after event parent begun is room =
    let letter : ℕ → Fitted = λ (p : ℕ). with_letter_if_room ended.office (origin.Actor ended.actor) p (event (child_id ended.office p ended.actor)) in
    let fits : Bool → Fitted = λ (b : Bool). if b then Ok (with_letter ended.office (origin.Actor ended.actor) parent (event (child_id ended.office parent ended.actor))) else Err LettersFull in
    ap (λ (a : AheadOffice). after_telling_parent a.office a.actor event) (sym begun)
    ∙ ap (λ (o : Option ℕ). option_map_or letter o (Ok ended.office)) is ∙ ap fits room

-- what fits before an end fits the same office by its other name
pub ended_fits : (old ended : AheadOffice) (after : OfficeState) (parts : List Part) → ended ≡ at_office old after → CanPutAll ended.before parts → CanPutAll old.before parts
ended_fits old ended after parts begun fits = subst (λ (a : AheadOffice). CanPutAll a.before parts) begun fits

-- an end in error goes on to where the parent is told
pub failed : (before after : OfficeState) (parts : List Part) (number : ℕ) (event : List ℕ → Value) → after_telling_parent after number event ≡ Ok (put before parts)
    → put before parts ≡ result_unwrap_or (after_telling_parent after number event) after
failed before after parts number event tells = ap (λ (fitted : Fitted). result_unwrap_or fitted after) (sym tells)

-- an end in error whose letter finds no room
pub failed_full : (old ended : AheadOffice) (after : OfficeState) (parts : List Part) (event : List ℕ → Value) → ended ≡ at_office old after → put ended.before parts ≡ ended.office
    → after_telling_parent after old.actor event ≡ Err LettersFull → put old.before parts ≡ result_unwrap_or (after_telling_parent after old.actor event) after
failed_full old ended after parts event begun put_is full =
    ap (λ (a : AheadOffice). put a.before parts) (sym begun) ∙ put_is ∙ ap (λ (a : AheadOffice). a.office) begun
    ∙ ap (λ (fitted : Fitted). result_unwrap_or fitted after) (sym full)
