-- What follows from the definitions, in the words of one who reads lines and entries.
use Rattle.std.specs.Prelude.{◌≡◌, ◌≢◌, ◌⊎◌, ◌<◌, ◌≤◌, ℕ, true, List, [], ◌∷◌, ◌++◌, length, map, Option, None, Some, All, AllPairs, Contains, FitsSigned, IsTrue, IsUtf8, ⊤, if◌then◌else◌, option_to_list}
use Rattle.std.specs.Int.{w64}
use Rattle.std.specs.List.{AllByRecursion, range_with_len}
use Rattle.std.specs.List.Sorted.{IsStrictlyIncreasing}
use Rattle.std.specs.Option.{option_map, option_map_or}
use Rattle.std.specs.Str.{bytes_eq}
use Rattle.xs_model.specs.declared.value.Value.{Value}
use Rattle.xs_model.specs.declared.value.Value.TheFolds.{every-Value}
use Rattle.xs_model.specs.declared.value.Value.TheOpen.{Value-F}
use Rattle.xs_model.specs.Compact.{compact_text, nesting}
use Rattle.xs_model.specs.Rising.{KeysRise}
use Rattle.office_types.specs.declared.entry.Entry.{Entry}
use Rattle.office_types.specs.declared.entry.Entry.TheVariants.{Decided, Step}
use Rattle.office_types.specs.declared.limits.TheConstants.{MAX_ENTRIES}
use Rattle.office_types.specs.declared.office.ActorRecord.{ActorRecord}
use Rattle.office_types.specs.declared.office.Letter.{Letter}
use Rattle.office_types.specs.declared.office.OfficeState.{OfficeState}
use Rattle.office_types.specs.declared.outcome.Outcome.{Outcome}
use Rattle.office_types.specs.declared.outcome.Own.{Own}
use Rattle.office_types.specs.declared.request.Request.{Request}
use Rattle.office_types.specs.Decisions.{decided, next_number}
use Rattle.office_types.specs.Definitions.{AreLinked, OfficeDefinitions}
use Rattle.office_types.specs.Entries.{AreLegal, IsAllowedMacrostep, Macrostep, after, after_entry, head_of}
use Rattle.office_types.specs.JsonValues.{MeansValue}
use Rattle.office_types.specs.Observation.{own_of}
use Rattle.office_types.specs.Outcomes.{IsAllowedOutcome}
use Rattle.office_types.specs.Records.{empty_office, is_active_machine, is_ready, actor_record}
use Rattle.office_types.specs.RequestLines.{IsEntryText, IsRequest, IsRequestLine, canonical_line, entry_text}
use Rattle.office_types.specs.Requests.{IsNumber}
use Rattle.office_types.specs.Step.{took}
use Rattle.office_types.specs.ValidOffice.{IsValidOffice, letters_of}

-- a layer as those of values in a program are: numbers of 64 bits, texts in UTF-8, and keys in UTF-8 that rise
abbrev pub IsPlainLayer : Value-F Value → Type 0
IsPlainLayer (Value-F.Int number) = FitsSigned w64 number
IsPlainLayer (Value-F.Text text) = IsUtf8 text
IsPlainLayer (Value-F.Map members) = KeysRise members × AllByRecursion (λ (member : List ℕ × Value). IsUtf8 member.0) members
IsPlainLayer _ = ⊤

-- each layer of the value is such a one
abbrev pub IsPlain : Value → Type 0
IsPlain = every-Value IsPlainLayer

-- the compact text of a plain value means the value, where it is neither too long nor nested too deep for JSON
abbrev pub CompactTextMeansItsValue : Type 0
CompactTextMeansItsValue = (x : Value) → IsPlain x → nesting x ≤ 64 → length (compact_text x) ≤ 1048576 → MeansValue (compact_text x) x

-- what a text means is plain
abbrev pub MeantValuesArePlain : Type 0
MeantValuesArePlain = (text : List ℕ) (x : Value) → MeansValue text x → IsPlain x

-- the canonical line of a request is a line of that request
abbrev pub CanonicalLinesAreLines : Type 0
CanonicalLinesAreLines = (request : Request) → IsRequest request → IsRequestLine (canonical_line request) request

-- a decision on a request, or a step of an actor with a number of 64 bits
abbrev pub IsEntry : Entry → Type 0
IsEntry (Decided request) = IsRequest request
IsEntry (Step actor) = IsNumber actor

-- what is written of an entry reads as the entry, and as no other
pub record EntriesReadBack : Type 0 where
  pub written : (entry : Entry) → IsEntry entry → IsEntryText (entry_text entry) entry
  pub once : (payload : List ℕ) (a b : Entry) → IsEntryText payload a → IsEntryText payload b → a ≡ b

-- ---- callers

-- the numbers of a caller's requests among entries, in their order
abbrev pub numbers_of : List ℕ → List Entry → List ℕ
numbers_of caller [] = []
numbers_of caller (Decided request ∷ entries) = if bytes_eq request.caller caller then request.number ∷ numbers_of caller entries else numbers_of caller entries
numbers_of caller (Step actor ∷ entries) = numbers_of caller entries

-- in legal entries the requests of each caller have its next numbers, with none left out and none twice
abbrev pub RequestsStandOnce : Type 0
RequestsStandOnce =
    (definitions : OfficeDefinitions) (macrostep : Macrostep) (state : OfficeState) (entries : List Entry) (caller : List ℕ) → AreLegal definitions macrostep state entries
    → numbers_of caller entries ≡ range_with_len (next_number state caller) (length (numbers_of caller entries))

-- a request with the caller and the number of a decided one gets the reply to that one, whatever else it says
-- and whatever happened since, and changes nothing
abbrev pub RepeatsGetTheReply : Type 0
RepeatsGetTheReply =
    (definitions : OfficeDefinitions) (macrostep : Macrostep) (state : OfficeState) (request again : Request) (entries : List Entry)
    → AreLegal definitions macrostep state (Decided request ∷ entries) → again.caller ≡ request.caller → again.number ≡ request.number
    → decided definitions (after definitions macrostep state (Decided request ∷ entries)) again
    ≡ record { reply = (decided definitions state request).reply; after = after definitions macrostep state (Decided request ∷ entries) }

-- ---- letters

-- a letter that waits after entries, and whose number was given before them, waited before, with the same event
abbrev pub LettersWaitedBefore : Type 0
LettersWaitedBefore =
    (definitions : OfficeDefinitions) (macrostep : Macrostep) (state : OfficeState) (entries : List Entry) (letter : Letter)
    → Contains (letters_of (after definitions macrostep state entries).actors) letter → letter.number < state.next_letter
    → Contains (letters_of state.actors) letter

-- the letters that wait for an actor
abbrev pub mailbox_of : OfficeState → ℕ → List Letter
mailbox_of state number = option_map_or (λ (actor : ActorRecord). actor.mailbox) (actor_record state number) []

-- records rise by number, and letters do in each mailbox; the numbers of both were given, and no letter has the
-- number of another one
pub record AreNumbersInOrder (state : OfficeState) : Type 0 where
  pub actors_rise : IsStrictlyIncreasing (map (λ (actor : ActorRecord). actor.number) state.actors)
  pub actors_given : All (λ (actor : ActorRecord). actor.number < state.next_actor) state.actors
  pub letters_given : All (λ (letter : Letter). letter.number < state.next_letter) (letters_of state.actors)
  pub letters_once : AllPairs (λ (a b : Letter). a.number ≢ b.number) (letters_of state.actors)
  pub mailboxes_rise : All (λ (actor : ActorRecord). IsStrictlyIncreasing (map (λ (letter : Letter). letter.number) actor.mailbox)) state.actors

-- the numbers of an office in which nothing has happened and of each valid office are in order, and entries leave them so
pub record NumbersAreInOrder : Type 0 where
  pub empty : AreNumbersInOrder empty_office
  pub valid : (definitions : OfficeDefinitions) (state : OfficeState) → IsValidOffice definitions state → AreNumbersInOrder state
  pub later :
      (definitions : OfficeDefinitions) (macrostep : Macrostep) (state : OfficeState) (entries : List Entry)
      → AreNumbersInOrder state → AreNumbersInOrder (after definitions macrostep state entries)

-- a letter that waits at a moment, and didn't at an earlier one, has a greater number than those that waited then
abbrev pub LaterLettersHaveGreaterNumbers : Type 0
LaterLettersHaveGreaterNumbers =
    (definitions : OfficeDefinitions) (macrostep : Macrostep) (state : OfficeState) (entries : List Entry) (earlier later : Letter)
    → AreNumbersInOrder state → Contains (letters_of state.actors) earlier
    → Contains (letters_of (after definitions macrostep state entries).actors) later → (Contains (letters_of state.actors) later → ⊥)
    → earlier.number < later.number

-- a number enters one mailbox: where it waits at two moments, it is the same letter, and waits for the same actor
abbrev pub LettersEnterOneMailbox : Type 0
LettersEnterOneMailbox =
    (definitions : OfficeDefinitions) (macrostep : Macrostep) (state : OfficeState) (before between : List Entry) (actor actor' : ℕ) (letter letter' : Letter)
    → AreNumbersInOrder state
    → Contains (mailbox_of (after definitions macrostep state before) actor) letter
    → Contains (mailbox_of (after definitions macrostep state (before ++ between)) actor') letter'
    → letter.number ≡ letter'.number → (actor ≡ actor') × (letter ≡ letter')

-- a letter that an actor took
pub record TakenLetter : Type 0 where
  pub actor : ℕ
  pub letter : Letter

-- the letter that an entry takes: a step takes the head of its actor's mailbox
abbrev pub taken_letter : OfficeState → Entry → Option TakenLetter
taken_letter state (Decided request) = None
taken_letter state (Step number) = option_map (λ (letter : Letter). record { actor = number; letter = letter }) (head_of state number)

-- the letters that entries take, in their order
abbrev pub letters_taken : OfficeDefinitions → Macrostep → OfficeState → List Entry → List TakenLetter
letters_taken definitions macrostep state [] = []
letters_taken definitions macrostep state (entry ∷ entries) =
    option_to_list (taken_letter state entry) ++ letters_taken definitions macrostep (after_entry definitions macrostep state entry) entries

-- each number is taken once at most, and those that one actor takes in their order, which is that in which they were sent,
-- whoever sent them
pub record AreTakenInTurn (taken : List TakenLetter) : Type 0 where
  pub once : AllPairs (λ (a b : TakenLetter). a.letter.number ≢ b.letter.number) taken
  pub in_order : AllPairs (λ (a b : TakenLetter). a.actor ≡ b.actor → a.letter.number < b.letter.number) taken

-- legal entries take letters in turn
abbrev pub LettersAreTakenInTurn : Type 0
LettersAreTakenInTurn =
    (definitions : OfficeDefinitions) (macrostep : Macrostep) (state : OfficeState) (entries : List Entry)
    → AreNumbersInOrder state → AreLegal definitions macrostep state entries → AreTakenInTurn (letters_taken definitions macrostep state entries)

-- the letter that a step takes is the head of its actor's mailbox, and the earliest there; once it is taken, and whatever
-- entries follow, no letter of its number waits in any mailbox, and none is taken
pub record IsTakenAsHead (definitions : OfficeDefinitions) (macrostep : Macrostep) (state : OfficeState) (number : ℕ) (entries : List Entry) : Type 0 where
  pub letter : Letter
  pub head : head_of state number ≡ Some letter
  pub earliest : All (λ (other : Letter). letter.number ≤ other.number) (mailbox_of state number)
  pub gone : All (λ (other : Letter). other.number ≢ letter.number) (letters_of (after definitions macrostep state (Step number ∷ entries)).actors)
  pub once : All (λ (other : TakenLetter). other.letter.number ≢ letter.number) (letters_taken definitions macrostep (after_entry definitions macrostep state (Step number)) entries)

-- each step among legal entries takes one
abbrev pub StepsTakeHeads : Type 0
StepsTakeHeads =
    (definitions : OfficeDefinitions) (macrostep : Macrostep) (state : OfficeState) (before : List Entry) (number : ℕ) (entries : List Entry)
    → AreNumbersInOrder state → AreLegal definitions macrostep state (before ++ Step number ∷ entries)
    → IsTakenAsHead definitions macrostep (after definitions macrostep state before) number entries

-- no letter is lost: what waits for an actor that stays active still waits for it, or was taken by it
abbrev pub NoLetterIsLost : Type 0
NoLetterIsLost =
    (definitions : OfficeDefinitions) (macrostep : Macrostep) (state : OfficeState) (entries : List Entry) (number : ℕ) (letter : Letter)
    → AreNumbersInOrder state → AreLegal definitions macrostep state entries → Contains (mailbox_of state number) letter
    → is_active_machine (after definitions macrostep state entries) number ≡ true
    → Contains (mailbox_of (after definitions macrostep state entries) number) letter
    ⊎ Contains (letters_taken definitions macrostep state entries) (record { actor = number; letter = letter })

-- ---- validity

-- a decision on a request that a line gives keeps an office valid
abbrev pub DecisionsKeepValidity : Type 0
DecisionsKeepValidity =
    (definitions : OfficeDefinitions) (state : OfficeState) (request : Request)
    → IsValidOffice definitions state → IsRequest request
    → IsValidOffice definitions (decided definitions state request).after

-- a step of a ready actor with an outcome that the rules allow keeps an office valid where it has room
-- for an entry, and each row of the table of actors that is of a machine names one of the machines
abbrev pub StepsKeepValidity : Type 0
StepsKeepValidity =
    (definitions : OfficeDefinitions) (state : OfficeState) (number : ℕ) (own : Own) (outcome : Outcome)
    → AreLinked definitions → IsValidOffice definitions state
    → IsTrue (is_ready state number) → own_of state number ≡ Some own
    → IsAllowedOutcome definitions own outcome → state.entries < MAX_ENTRIES
    → IsValidOffice definitions (took definitions number outcome state)

-- the empty office is valid
abbrev pub EmptyOfficeIsValid : Type 0
EmptyOfficeIsValid = (definitions : OfficeDefinitions) → IsValidOffice definitions empty_office

-- legal entries keep an office valid, where the rules allow each outcome of the macrostep
abbrev pub EntriesKeepValidity : Type 0
EntriesKeepValidity =
    (definitions : OfficeDefinitions) (macrostep : Macrostep) (state : OfficeState) (entries : List Entry)
    → AreLinked definitions → IsAllowedMacrostep definitions macrostep
    → IsValidOffice definitions state → AreLegal definitions macrostep state entries
    → IsValidOffice definitions (after definitions macrostep state entries)
