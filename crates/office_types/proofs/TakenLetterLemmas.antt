-- In which order letters are taken.
use Rattle.std.proofs.Common.{◌≡◌, ℕ, ◌+◌, ◌<◌, ◌≤◌, Bool, true, false, ◌&&◌, List, [], ◌∷◌, ◌++◌, length, drop, refl, sym, ap, subst, ◌∙◌, inl, inr, arith}
use Rattle.std.specs.Prelude.{◌≢◌, ◌⊎◌, All, Option, None, Some, is_some, nat_eq, nat_lt, if◌then◌else◌, option_to_list, slice_get}
use Rattle.std.specs.List.{AllByRecursion}
use Rattle.std.specs.Option.{option_map, option_map_or, option_and_then}
use Rattle.std.proofs.lemmas.Bool.{cases_lt, eqb-false}
use Rattle.std.proofs.lemmas.List.Elements.{All-contains, All-from_recursion}
use Rattle.office_types.specs.declared.entry.Entry.{Entry}
use Rattle.office_types.specs.declared.entry.Entry.TheVariants.{Decided, Step}
use Rattle.office_types.specs.declared.office.ActorRecord.{ActorRecord}
use Rattle.office_types.specs.declared.office.Letter.{Letter}
use Rattle.office_types.specs.declared.office.OfficeState.{OfficeState}
use Rattle.office_types.specs.declared.outcome.Outcome.{Outcome}
use Rattle.office_types.specs.declared.outcome.Own.{Own}
use Rattle.office_types.specs.Definitions.{OfficeDefinitions}
use Rattle.office_types.specs.Entries.{AreLegal, Macrostep, after, after_entry, head_of}
use Rattle.office_types.specs.Laws.{LaterLettersHaveGreaterNumbers, LettersAreTakenInTurn, StepsTakeHeads, TakenLetter, letters_taken, mailbox_of}
use Rattle.office_types.specs.Mailboxes.{without_head}
use Rattle.office_types.specs.Records.{is_active, is_ready_actor, actor_record}
use Rattle.office_types.specs.Step.{took}
use Rattle.office_types.specs.ValidOffice.{letters_of}
use Rattle.office_types.proofs.ChangeLemmas.{beside_taking, decided_keeps, entries_keep, rest_keeps}
use Rattle.office_types.proofs.LetterLemmas.{letters_waited_before, of_mailboxes}
use Rattle.office_types.proofs.LetterOrderLemmas.{IsOther, found_has, holder, others_differ}
use Rattle.office_types.proofs.NumberLemmas.{InOrder, PairsByRecursion, Rise, Single, order_from, order_kept, pairs_at, pairs_weaker}
use Rattle.office_types.proofs.RecordLemmas.{Among, Everywhere, Mail, all_drop, all_map, all_weaker, among_has, mail_kept}

-- ---- entries

-- what is left of legal entries is legal
pub legal_rest : (definitions : OfficeDefinitions) (macrostep : Macrostep) (state : OfficeState) (entries others : List Entry) → AreLegal definitions macrostep state (entries ++ others)
    → AreLegal definitions macrostep (after definitions macrostep state entries) others
legal_rest definitions macrostep state [] others legal = legal
legal_rest definitions macrostep state (entry ∷ entries) others legal = legal_rest definitions macrostep (after_entry definitions macrostep state entry) entries others legal.1

-- ---- the head of a ready actor

-- a record with a head letter, and the outcome of its next step
pub record HasHead (macrostep : Macrostep) (o : Option ActorRecord) : Type 0 where
  pub found : ActorRecord
  pub letter : Letter
  pub others : List Letter
  pub outcome : Outcome
  pub is : o ≡ Some found
  pub active : is_active found ≡ true
  pub mailbox : found.mailbox ≡ letter ∷ others
  pub head : option_and_then (λ (actor : ActorRecord). slice_get actor.mailbox 0) o ≡ Some letter
  pub next :
      option_and_then (λ (own : Own). option_map (λ (letter : Letter). macrostep own letter.event) (option_and_then (λ (actor : ActorRecord). slice_get actor.mailbox 0) o))
      (option_and_then (λ (actor : ActorRecord). actor.own) o)
      ≡ Some outcome

pub has_head : (macrostep : Macrostep) (o : Option ActorRecord) → option_map_or is_ready_actor o false ≡ true → HasHead macrostep o
has_head macrostep None ready = absurd cc
has_head macrostep (Some actor) ready = by_parts (is_active actor) refl actor.own refl actor.mailbox refl ready where
  by_parts : (active : Bool) → is_active actor ≡ active → (own : Option Own) → actor.own ≡ own → (mailbox : List Letter) → actor.mailbox ≡ mailbox
      → (active && (is_some own && nat_lt 0 (length mailbox))) ≡ true → HasHead macrostep (Some actor)
  by_parts false active own owns mailbox mails ready = absurd cc
  by_parts true active None owns mailbox mails ready = absurd cc
  by_parts true active (Some own) owns [] mails ready = absurd cc
  by_parts true active (Some own) owns (letter ∷ others) mails ready = record {
    found = actor;
    letter = letter;
    others = others;
    outcome = macrostep own letter.event;
    is = refl;
    active = active;
    mailbox = mails;
    head = ap (λ (letters : List Letter). slice_get letters 0) mails;
    next = rw (owns, mails) refl;
  }

-- ---- what is left once the head is taken

-- a letter has another number than the one that is taken, and a greater one where it waits for the same actor
abbrev pub IsApart : ℕ → Letter → ℕ → Letter → Type 0
IsApart number letter other m = (letter.number ≢ m.number) × (number ≡ other → letter.number < m.number)

pub apart_later : (number : ℕ) (letter : Letter) (other : ℕ) (m : Letter) → letter.number + 1 ≤ m.number → IsApart number letter other m
apart_later number letter other m later = ((λ same. absurd (omega arith)), (λ same. omega arith))

-- each letter that waits is apart from the one that is taken
abbrev pub Left : ℕ → Letter → OfficeState → Type 0
Left number letter = Everywhere (Mail (IsApart number letter) (letter.number + 1) (apart_later number letter)) (letter.number + 1) 0

module _ (macrostep : Macrostep) (state : OfficeState) (number : ℕ) (order : InOrder state) (head : HasHead macrostep (actor_record state number)) where
  single : Single state.next_actor state.next_letter head.found × (head.found.number ≡ number)
  single = found_has (Single state.next_actor state.next_letter) number state.actors order.0 head.found head.is

  pub head_rises : Rise (head.letter ∷ head.others)
  head_rises = subst Rise head.mailbox single.0.1

  in_mailbox : Among head.found.mailbox head.letter
  in_mailbox = subst (λ (letters : List Letter). Among letters head.letter) (sym head.mailbox) (inl refl)

  own_left : (actor : ActorRecord) → actor ≡ head.found → (test : Bool) → nat_eq actor.number number ≡ test
      → Mail (IsApart number head.letter) (head.letter.number + 1) (apart_later number head.letter) (if test then record actor { mailbox = drop 1 actor.mailbox } else actor)
  own_left actor same true is =
      subst (λ (letters : List Letter). AllByRecursion (IsApart number head.letter actor.number) (drop 1 letters)) (sym (ap (λ (a : ActorRecord). a.mailbox) same ∙ head.mailbox))
      (all_weaker (λ (m : Letter). head.letter.number < m.number) (IsApart number head.letter actor.number) (λ m less. ((λ e. absurd (omega arith)), (λ e. less))) head.others head_rises.0)
  own_left actor same false is = absurd (eqb-false actor.number number is (ap (λ (a : ActorRecord). a.number) same ∙ single.1))

  other_left : (actor : ActorRecord) → IsOther number head.found actor → (test : Bool)
      → Mail (IsApart number head.letter) (head.letter.number + 1) (apart_later number head.letter) (if test then record actor { mailbox = drop 1 actor.mailbox } else actor)
  other_left actor other test = by_test all test where
    all : AllByRecursion (IsApart number head.letter actor.number) actor.mailbox
    all =
        all_weaker (λ (m : Letter). head.letter.number ≢ m.number) (IsApart number head.letter actor.number) (λ m differ. (differ, (λ same. absurd (other.0 (sym same))))) actor.mailbox
        (among_has (λ (l : Letter). AllByRecursion (λ (m : Letter). l.number ≢ m.number) actor.mailbox) head.found.mailbox other.1 head.letter in_mailbox)

    by_test : AllByRecursion (IsApart number head.letter actor.number) actor.mailbox → (test' : Bool)
        → Mail (IsApart number head.letter) (head.letter.number + 1) (apart_later number head.letter) (if test' then record actor { mailbox = drop 1 actor.mailbox } else actor)
    by_test rest true = all_drop (IsApart number head.letter actor.number) 1 actor.mailbox rest
    by_test rest false = rest

  left : Left number head.letter (without_head state number)
  left = (
    all_map (λ (actor : ActorRecord). (actor ≡ head.found) ⊎ IsOther number head.found actor)
        (Mail (IsApart number head.letter) (head.letter.number + 1) (apart_later number head.letter))
        (λ (actor : ActorRecord). if nat_eq actor.number number then record actor { mailbox = drop 1 actor.mailbox } else actor)
        by_case state.actors (others_differ number state.actors order.1 head.found head.is),
    (let given : head.letter.number < state.next_letter = among_has (λ (m : Letter). m.number < state.next_letter) head.found.mailbox single.0.2 head.letter in_mailbox in omega arith),
    omega arith,
  ) where
    by_case : (actor : ActorRecord) → (actor ≡ head.found) ⊎ IsOther number head.found actor
        → Mail (IsApart number head.letter) (head.letter.number + 1) (apart_later number head.letter) (if nat_eq actor.number number then record actor { mailbox = drop 1 actor.mailbox } else actor)
    by_case actor (inl same) = own_left actor same (nat_eq actor.number number) refl
    by_case actor (inr other) = other_left actor other (nat_eq actor.number number)

  pub step_leaves : (definitions : OfficeDefinitions) → Left number head.letter (after_entry definitions macrostep state (Step number))
  step_leaves definitions =
      let kept = mail_kept (IsApart number head.letter) (head.letter.number + 1) (apart_later number head.letter) in
      subst (λ (o : Option Outcome). Left number head.letter (option_map_or (λ (outcome : Outcome). took definitions number outcome state) o state)) (sym head.next)
      (rest_keeps (Left number head.letter) (beside_taking (Left number head.letter) kept) definitions number head.outcome state left)

  -- the head is the earliest letter of its mailbox
  pub head_is_earliest : All (λ (other : Letter). head.letter.number ≤ other.number) (mailbox_of state number)
  head_is_earliest =
      let mailbox : mailbox_of state number ≡ head.letter ∷ head.others = ap (λ (o : Option ActorRecord). option_map_or (λ (actor : ActorRecord). actor.mailbox) o []) head.is ∙ head.mailbox in
      All-from_recursion (λ (other : Letter). head.letter.number ≤ other.number) (mailbox_of state number)
      (subst (λ (letters : List Letter). AllByRecursion (λ (other : Letter). head.letter.number ≤ other.number) letters) (sym mailbox)
      (omega arith, all_weaker (λ (m : Letter). head.letter.number < m.number) (λ (other : Letter). head.letter.number ≤ other.number) (λ m less. omega arith) head.others head_rises.0))

-- ---- what entries take

first_among : (letters : List Letter) (letter : Letter) → slice_get letters 0 ≡ Some letter → Among letters letter
first_among [] letter is = absurd cc
first_among (l ∷ letters) letter is = inl (cc)

head_among : (o : Option ActorRecord) (letter : Letter) → option_and_then (λ (actor : ActorRecord). slice_get actor.mailbox 0) o ≡ Some letter
    → Among (option_map_or (λ (actor : ActorRecord). actor.mailbox) o []) letter
head_among None letter is = absurd cc
head_among (Some actor) letter is = first_among actor.mailbox letter is

module _ (P : ℕ → Letter → Type 0) (n : ℕ) (new : (number : ℕ) (letter : Letter) → n ≤ letter.number → P number letter) (definitions : OfficeDefinitions) (macrostep : Macrostep) where
  head_has : (number : ℕ) (state : OfficeState) (letter : Letter) → Everywhere (Mail P n new) n 0 state → head_of state number ≡ Some letter → P number letter
  head_has number state letter is head =
      let held = holder (actor_record state number) letter (head_among (actor_record state number) letter head) in
      let found = found_has (Mail P n new) number state.actors is.0 held.0 held.1 in
      subst (λ (k : ℕ). P k letter) found.1 (among_has (P held.0.number) held.0.mailbox found.0 letter held.2)

  with_taken : (number : ℕ) (o : Option Letter) (others : List TakenLetter) → ((letter : Letter) → o ≡ Some letter → P number letter)
      → AllByRecursion (λ (t : TakenLetter). P t.actor t.letter) others
      → AllByRecursion (λ (t : TakenLetter). P t.actor t.letter) (option_to_list (option_map {U = TakenLetter} (λ (letter : Letter). record { actor = number; letter = letter }) o) ++ others)
  with_taken number None others each rest = rest
  with_taken number (Some letter) others each rest = (each letter refl, rest)

  -- what holds of each letter that waits holds of each that is taken later
  pub taken_have : (entries : List Entry) (state : OfficeState) → Everywhere (Mail P n new) n 0 state
      → AllByRecursion (λ (t : TakenLetter). P t.actor t.letter) (letters_taken definitions macrostep state entries)
  taken_have [] state is = tt
  taken_have (Decided request ∷ entries) state is =
      taken_have entries (after_entry definitions macrostep state (Decided request)) (decided_keeps (Everywhere (Mail P n new) n 0) (mail_kept P n new) definitions state request is)
  taken_have (Step number ∷ entries) state is =
      with_taken number (head_of state number) (letters_taken definitions macrostep (after_entry definitions macrostep state (Step number)) entries)
      (λ letter head. head_has number state letter is head)
      (taken_have entries (after_entry definitions macrostep state (Step number)) (entries_keep (Everywhere (Mail P n new) n 0) (mail_kept P n new) definitions macrostep (Step number ∷ []) state is))

-- ---- the laws

-- a letter and one that is taken later
abbrev IsInTurn : TakenLetter → TakenLetter → Type 0
IsInTurn a b = IsApart a.actor a.letter b.actor b.letter

taken_later : (definitions : OfficeDefinitions) (macrostep : Macrostep) (number : ℕ) (letter : Letter) (entries : List Entry) (state : OfficeState) → Left number letter state
    → AllByRecursion (λ (t : TakenLetter). IsApart number letter t.actor t.letter) (letters_taken definitions macrostep state entries)
taken_later definitions macrostep number letter entries state is = taken_have (IsApart number letter) (letter.number + 1) (apart_later number letter) definitions macrostep entries state is

turns : (definitions : OfficeDefinitions) (macrostep : Macrostep) (entries : List Entry) (state : OfficeState) → InOrder state → AreLegal definitions macrostep state entries
    → PairsByRecursion IsInTurn (letters_taken definitions macrostep state entries)
turns definitions macrostep [] state order legal = tt
turns definitions macrostep (Decided request ∷ entries) state order legal =
    turns definitions macrostep entries (after_entry definitions macrostep state (Decided request)) (decided_keeps InOrder order_kept definitions state request order) legal.1
turns definitions macrostep (Step number ∷ entries) state order legal =
    let later : OfficeState = after_entry definitions macrostep state (Step number) in
    let head = has_head macrostep (actor_record state number) legal.0.0 in
    let rest = turns definitions macrostep entries later (entries_keep InOrder order_kept definitions macrostep (Step number ∷ []) state order) legal.1 in
    let apart = taken_later definitions macrostep number head.letter entries later (step_leaves macrostep state number order head definitions) in
    subst (λ (o : Option Letter). PairsByRecursion IsInTurn (option_to_list (option_map {U = TakenLetter} (λ (letter : Letter). record { actor = number; letter = letter }) o) ++ letters_taken definitions macrostep later entries)) (sym head.head)
    (apart, rest)

pub letters_are_taken_in_turn : LettersAreTakenInTurn
letters_are_taken_in_turn definitions macrostep state entries order legal =
    let taken = letters_taken definitions macrostep state entries in
    let pairs = turns definitions macrostep entries state (order_from state order) legal in
    record {
      once = pairs_at (λ (a b : TakenLetter). a.letter.number ≢ b.letter.number) taken (pairs_weaker IsInTurn (λ (a b : TakenLetter). a.letter.number ≢ b.letter.number) (λ a b turn. turn.0) taken pairs);
      in_order = pairs_at (λ (a b : TakenLetter). a.actor ≡ b.actor → a.letter.number < b.letter.number) taken
          (pairs_weaker IsInTurn (λ (a b : TakenLetter). a.actor ≡ b.actor → a.letter.number < b.letter.number) (λ a b turn. turn.1) taken pairs);
    }

pub steps_take_heads : StepsTakeHeads
steps_take_heads definitions macrostep state before number entries order legal =
    let now : OfficeState = after definitions macrostep state before in
    let order' = entries_keep InOrder order_kept definitions macrostep before state (order_from state order) in
    let legal' = legal_rest definitions macrostep state before (Step number ∷ entries) legal in
    let head = has_head macrostep (actor_record now number) legal'.0.0 in
    let later : OfficeState = after_entry definitions macrostep now (Step number) in
    let left = step_leaves macrostep now number order' head definitions in
    let kept = entries_keep (Left number head.letter) (mail_kept (IsApart number head.letter) (head.letter.number + 1) (apart_later number head.letter)) definitions macrostep entries later left in
    let taken = letters_taken definitions macrostep later entries in
    let other : Letter → Type 0 = λ (m : Letter). m.number ≢ head.letter.number in
    record {
      letter = head.letter;
      head = head.head;
      earliest = head_is_earliest macrostep now number order' head;
      gone = All-from_recursion other (letters_of (after definitions macrostep later entries).actors)
          (of_mailboxes other (after definitions macrostep later entries).actors
          (all_weaker (Mail (IsApart number head.letter) (head.letter.number + 1) (apart_later number head.letter)) (λ (actor : ActorRecord). AllByRecursion other actor.mailbox)
          (λ actor mail. all_weaker (IsApart number head.letter actor.number) other (λ m apart same. apart.0 (sym same)) actor.mailbox mail) (after definitions macrostep later entries).actors kept.0));
      once = All-from_recursion (λ (t : TakenLetter). t.letter.number ≢ head.letter.number) taken
          (all_weaker (λ (t : TakenLetter). IsApart number head.letter t.actor t.letter) (λ (t : TakenLetter). t.letter.number ≢ head.letter.number) (λ t apart same. apart.0 (sym same)) taken
          (taken_later definitions macrostep number head.letter entries later left));
    }

pub later_letters_have_greater_numbers : LaterLettersHaveGreaterNumbers
later_letters_have_greater_numbers definitions macrostep state entries earlier later order waits waits' new = by_case (cases_lt later.number state.next_letter) where
  by_case : (later.number < state.next_letter) ⊎ (state.next_letter ≤ later.number) → earlier.number < later.number
  by_case (inl old) = absurd (new (letters_waited_before definitions macrostep state entries later waits' old))
  by_case (inr given) =
      let less : earlier.number < state.next_letter = All-contains (λ (l : Letter). l.number < state.next_letter) (letters_of state.actors) earlier order.letters_given waits in omega arith
