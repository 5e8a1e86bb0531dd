-- A change that is prepared leaves an office valid.
use Rattle.std.proofs.Common.{◌≡◌, ℕ, ◌+◌, ◌<◌, ◌≤◌, ◌^◌, true, List, [], ◌∷◌, ◌++◌, length, Option, Some, None, IsTrue, refl, sym, ap, ◌∙◌, subst, arith, length-append}
use Rattle.std.specs.Fmt.{decimal}
use Rattle.std.proofs.lemmas.Fmt.{decimal_nonempty, length-decimal-le}
use Rattle.xs_data.specs.Ascii.{space}
use Rattle.office_types.specs.declared.office.OfficeState.{OfficeState}
use Rattle.office_types.specs.declared.outcome.Outcome.{Outcome}
use Rattle.office_types.specs.declared.outcome.Own.{Own}
use Rattle.office_types.specs.declared.request.Ask.{Ask}
use Rattle.office_types.specs.declared.request.Reply.{Reply}
use Rattle.office_types.specs.declared.request.Request.{Request}
use Rattle.office_types.specs.Decisions.{Row, after_grant, decided, decision_by, refusal}
use Rattle.office_types.specs.Definitions.{AreLinked, OfficeDefinitions}
use Rattle.office_types.specs.Laws.{DecisionsKeepValidity, StepsKeepValidity}
use Rattle.office_types.specs.Observation.{own_of}
use Rattle.office_types.specs.Outcomes.{IsAllowedOutcome}
use Rattle.office_types.specs.Records.{is_ready}
use Rattle.office_types.specs.RequestLines.{IsRequest, ask_parts, ask_word, line_with, spaced}
use Rattle.office_types.specs.Step.{took, with_entry}
use Rattle.office_types.specs.ValidOffice.{IsValidOffice}
use Rattle.actor_tree.specs.declared.part.Part.{Part}
use Rattle.actor_tree.specs.Changes.{stepped}
use Rattle.actor_tree.specs.Laws.{StepsAreEntries}
use Rattle.actor_tree.specs.Parts.{put}
use Rattle.actor_tree.proofs.ValidLemmas.{put_callers, put_entries, stripped, stripped_same, valid_stripped}

-- an office with these parts put in is valid, if it is valid with other books
valid_put : (definitions : OfficeDefinitions) (office other : OfficeState) (parts : List Part) → office.callers ≡ [] → office.entries ≡ 0 → IsValidOffice definitions other → stripped other ≡ stripped (put office parts)
    → IsValidOffice definitions (put office parts)
valid_put definitions office other parts callers entries valid same =
    subst (IsValidOffice definitions) (same ∙ stripped_same (put office parts) (put_callers parts office callers) (put_entries parts office entries)) (valid_stripped definitions other valid)

pub step_valid : (definitions : OfficeDefinitions) (office : OfficeState) (actor : ℕ) (own : Own) (outcome : Outcome) (parts : List Part) → StepsKeepValidity → StepsAreEntries
    → AreLinked definitions → IsValidOffice definitions office → office.callers ≡ [] → office.entries ≡ 0
    → IsTrue (is_ready office actor) → own_of office actor ≡ Some own → IsAllowedOutcome definitions own outcome
    → put office parts ≡ stepped definitions actor outcome office → IsValidOffice definitions (put office parts)
step_valid definitions office actor own outcome parts keep entry linked valid callers entries ready its allowed change =
    let after : IsValidOffice definitions (took definitions actor outcome office) = keep definitions office actor own outcome linked valid ready its allowed (omega arith) in
    valid_put definitions office (took definitions actor outcome office) parts callers entries after
    (ap stripped (entry definitions actor outcome office) ∙ ap (λ (state : OfficeState). stripped (with_entry state)) (sym change))

-- ---- a request of any number is one of number 1

line_length : (caller number word : List ℕ) (rest : List (List ℕ)) → length (spaced (caller ∷ number ∷ word ∷ rest)) ≡ length caller + length number + length (spaced (word ∷ rest)) + 2
line_length caller number word rest =
    omega (arith, length-append caller (space ∷ (number ++ (space ∷ spaced (word ∷ rest)))), length-append number (space ∷ spaced (word ∷ rest)))

pub request_one : (caller : List ℕ) (asked : Ask) (number : ℕ) → IsRequest (record { caller = caller; number = number; ask = asked }) → IsRequest (record { caller = caller; number = 1; ask = asked })
request_one caller asked number is =
    let line = is.1 in
    let word = ask_word asked in
    let rest = ask_parts asked line.json in
    let one : length (decimal 1) ≤ 1 = length-decimal-le 1 1 (omega arith) (omega arith) (omega arith) in
    let some : 0 < length (decimal number) = decimal_nonempty number line.form.number in
    let short = subst (λ (l : List ℕ). length l ≤ 65536) line.spelled line.short in (
      line_with (record { caller = caller; number = 1; ask = asked }) line.json,
      record {
        short = omega (arith, line_length caller (decimal 1) word rest, line_length caller (decimal number) word rest, short);
        form = record { caller = line.form.caller; numbered = omega arith; number = omega arith; ask = line.form.ask };
        json = line.json;
        meaning = line.meaning;
        spelled = refl;
      },
    )

-- ---- a granted request

granted : (definitions : OfficeDefinitions) (office : OfficeState) (caller : List ℕ) (asked : Ask) → refusal definitions (stripped office) asked ≡ None
    → stripped (decided definitions (stripped office) (record { caller = caller; number = 1; ask = asked })).after ≡ stripped (after_grant definitions caller asked (stripped office))
unfolding decided
granted definitions office caller asked none =
    ap (λ (row : Row). stripped (decision_by definitions (stripped office) (record { caller = caller; number = 1; ask = asked }) row).after) none

pub ask_valid : (definitions : OfficeDefinitions) (office : OfficeState) (caller : List ℕ) (asked : Ask) (parts : List Part) → DecisionsKeepValidity
    → IsValidOffice definitions office → office.callers ≡ [] → office.entries ≡ 0
    → (number : ℕ) × IsRequest (record { caller = caller; number = number; ask = asked }) → refusal definitions office asked ≡ None
    → put office parts ≡ after_grant definitions caller asked office → IsValidOffice definitions (put office parts)
ask_valid definitions office caller asked parts keep valid callers entries request none change =
    let same : stripped office ≡ office = stripped_same office callers entries in
    let one = request_one caller asked request.0 request.1 in
    let unrefused : refusal definitions (stripped office) asked ≡ None = ap (λ (state : OfficeState). refusal definitions state asked) same ∙ none in
    let after : IsValidOffice definitions (decided definitions (stripped office) (record { caller = caller; number = 1; ask = asked })).after = keep definitions (stripped office) (record { caller = caller; number = 1; ask = asked }) (valid_stripped definitions office valid) one in
    valid_put definitions office (decided definitions (stripped office) (record { caller = caller; number = 1; ask = asked })).after parts callers entries after
    (granted definitions office caller asked unrefused ∙ (ap (λ (state : OfficeState). stripped (after_grant definitions caller asked state)) same ∙ ap stripped (sym change)))
