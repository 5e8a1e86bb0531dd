-- The kinds of actors, the events that the office makes, and what parents are told.
use Rattle.std.proofs.Common.{◌≡◌, inl, ℕ, ◌+◌, ◌<◌, ◌≤◌, Bool, true, false, true≢false, List, [], ◌∷◌, ◌++◌, length, map, refl, sym, ap, subst, ◌∙◌, arith}
use Rattle.std.specs.Prelude.{Option, None, Some, is_some, count_by, nat_eq, nat_le, IsTrue, IfSome, MatchBool, Ok, Err, if◌then◌else◌}
use Rattle.std.specs.Option.{option_map_or}
use Rattle.std.proofs.lemmas.Bool.{and_parts, and_from, leb-true, le-leb}
use Rattle.std.proofs.lemmas.List.Elements.{All-from_recursion, recursion_from_All}
use Rattle.xs_model.specs.declared.value.Value.{Value}
use Rattle.xs_model.specs.declared.value.Value.TheVariants.{Null}
use Rattle.office_types.specs.declared.limits.TheConstants.{MAX_LETTERS, MAX_NEXT_NUMBER}
use Rattle.office_types.specs.declared.office.ActorRecord.{ActorRecord}
use Rattle.office_types.specs.declared.office.Caller.{Caller}
use Rattle.office_types.specs.declared.office.Item.{Item}
use Rattle.office_types.specs.declared.office.Letter.{Letter}
use Rattle.office_types.specs.declared.office.OfficeState.{OfficeState}
use Rattle.office_types.specs.declared.office.Origin.TheVariants as origin
use Rattle.office_types.specs.declared.office.Status.TheVariants as status
use Rattle.office_types.specs.declared.outcome.FaultName.TheVariants as fault
use Rattle.office_types.specs.declared.outcome.Own.{Own}
use Rattle.office_types.specs.Definitions.{OfficeDefinitions}
use Rattle.office_types.specs.Effects.{fresh_own, fresh_record}
use Rattle.office_types.specs.Ends.{after_telling_parent, child_id, done_record, ended_record, error_record, with_letter_to_parent}
use Rattle.office_types.specs.Limits.{is_event, is_name, is_short}
use Rattle.office_types.specs.Mailboxes.{has_letter_room, waiting_letters, with_letter, with_letter_if_room, with_mail}
use Rattle.office_types.specs.Records.{is_active, is_active_status, parent_actor}
use Rattle.office_types.specs.ValidOffice.{HasInitAsHead, HasItsInit, HasNoInit, IsGiven, IsOfOneKind, is_init}
use Rattle.office_types.proofs.ValidityListLemmas.{each_look, each_push, look_number}
use Rattle.office_types.proofs.ValidityEventLemmas.{begins_none, null_is_short}
use Rattle.office_types.proofs.ValidityTreeLemmas.{number_of, record_in}
use Rattle.office_types.proofs.ValidityPartLemmas.{RecordRules, running, runs_in, runs_from}
use Rattle.office_types.proofs.ValidityLemmas.{HasKind, SoundOffice}
use Rattle.office_types.proofs.ValidityChangeLemmas.{letter_sound, new_letter}

-- ---- kinds

no_init_push : (letters : List Letter) (letter : Letter) → is_init letter ≡ false → HasNoInit letters → HasNoInit (letters ++ letter ∷ [])
no_init_push letters letter none is =
    All-from_recursion (λ (l : Letter). is_init l ≡ false) (letters ++ letter ∷ []) (each_push (λ (l : Letter). is_init l ≡ false) letters letter (recursion_from_All (λ (l : Letter). is_init l ≡ false) letters is) none)

its_init_push : (own : Own) (letters : List Letter) (letter : Letter) → is_init letter ≡ false → HasItsInit own letters → HasItsInit own (letters ++ letter ∷ [])
its_init_push own letters letter none is = by_begun own.begun is where
  by_head : (ls : List Letter) → HasInitAsHead ls → HasInitAsHead (ls ++ letter ∷ [])
  by_head [] is = absurd is
  by_head (head ∷ others) is = (is.0, no_init_push others letter none is.1)

  by_begun : (b : Bool) → MatchBool b (HasNoInit letters) (HasInitAsHead letters) → MatchBool b (HasNoInit (letters ++ letter ∷ [])) (HasInitAsHead (letters ++ letter ∷ []))
  by_begun true is = no_init_push letters letter none is
  by_begun false is = by_head letters is

module _ (definitions : OfficeDefinitions) where
  -- a machine actor gets a letter that begins none
  pub kind_mail : (letter : Letter) (a : ActorRecord) → is_init letter ≡ false → is_some a.own ≡ true → HasKind definitions a → HasKind definitions (with_mail letter a)
  kind_mail letter a none own kind = by_kind a.own a.item own kind where
    by_kind : (own : Option Own) (item : Option Item) → is_some own ≡ true → IsOfOneKind definitions a own item → IsOfOneKind definitions (with_mail letter a) own item
    by_kind (Some own) None is kind = record { machine = kind.machine; part = kind.part; kids = kind.kids; init = λ active. its_init_push own a.mailbox letter none (kind.init active) }
    by_kind (Some own) (Some item) is kind = absurd kind
    by_kind None (Some item) is kind = absurd (true≢false (sym is))
    by_kind None None is kind = absurd kind

  -- a kind of one that ended
  pub kind_over : (a b : ActorRecord) → b.number ≡ a.number → b.own ≡ a.own → b.item ≡ a.item → b.kids ≡ a.kids → b.mailbox ≡ [] → is_active b ≡ false → HasKind definitions a → HasKind definitions b
  kind_over a b same_number same_own same_item same_kids empty inactive kind =
      subst (λ (o : Option Own). IsOfOneKind definitions b o b.item) (sym same_own) (subst (λ (i : Option Item). IsOfOneKind definitions b a.own i) (sym same_item) (by_kind a.own a.item kind)) where
        by_kind : (own : Option Own) (item : Option Item) → IsOfOneKind definitions a own item → IsOfOneKind definitions b own item
        by_kind (Some own) None kind = record {
          machine = kind.machine;
          part = kind.part;
          kids = ap (map (λ (kid : List ℕ × ℕ). kid.0)) same_kids ∙ kind.kids;
          init = λ active. absurd (true≢false (sym active ∙ inactive));
        }
        by_kind (Some own) (Some item) kind = absurd kind
        by_kind None (Some item) kind = record { number = kind.number ∙ sym same_number; input = kind.input; kids = same_kids ∙ kind.kids; letters = empty }
        by_kind None None kind = absurd kind

  pub kind_stopped : (a : ActorRecord) → HasKind definitions a → HasKind definitions (ended_record status.Stopped a)
  kind_stopped a kind = kind_over a (ended_record status.Stopped a) refl refl refl refl refl refl kind

  -- a machine actor with the letter that begins it
  pub kind_begins : (number : ℕ) (parent : Option ℕ) (system : Option (List ℕ)) (machine : ℕ) (letter : Letter) → machine < length definitions.machines → is_init letter ≡ true
      → HasKind definitions (with_mail letter (fresh_record number parent system (Some (fresh_own machine)) None))
  kind_begins number parent system machine letter below begins = record {
    machine = below;
    part = inl refl;
    kids = refl;
    init = λ active. (begins, λ k d within. absurd (omega arith));
  }

  -- who has a child is a machine actor
  parent_is_machine : (a : ActorRecord) (c : ℕ) → count_by (λ (kid : List ℕ × ℕ). nat_eq kid.1 c) a.kids ≡ 1 → HasKind definitions a → is_some a.own ≡ true
  parent_is_machine a c listed kind = by_kind a.own a.item kind where
    by_kind : (own : Option Own) (item : Option Item) → IsOfOneKind definitions a own item → is_some own ≡ true
    by_kind (Some own) item kind = refl
    by_kind None (Some item) kind = absurd (omega (arith, ap (count_by (λ (kid : List ℕ × ℕ). nat_eq kid.1 c)) kind.kids))
    by_kind None None kind = absurd kind

  -- the parent of an active actor is an active machine actor
  pub parent_runs : (K : ActorRecord → Type 0) (callers : List Caller) (state : OfficeState) → SoundOffice K callers state → (n p : ℕ) (a : ActorRecord) → record_in state.actors n ≡ Some a → is_active a ≡ true
      → a.parent ≡ Some p → ((b : ActorRecord) → record_in state.actors p ≡ Some b → p < n → K b → HasKind definitions b) → runs_in state.actors p ≡ true
  parent_runs K callers state sound n p a seen active parent kinds =
      let child = sound.tree.parents n a p seen parent in
      let at_n : a.number ≡ n = look_number number_of state.actors n a seen in
      let less : p < a.number = child.smaller in
      runs_from state.actors p child.above child.seen (child.active active)
      (parent_is_machine child.above a.number child.listed (kinds child.above child.seen (omega arith) (each_look number_of K state.actors sound.kinds p child.above child.seen)))

-- ---- how ended records stand

pub stands_done : (output : Value) (a : ActorRecord) → is_active a ≡ true → is_short output ≡ true → RecordRules a → RecordRules (done_record output a)
stands_done output a active short stands = record {
  ended = λ is. record { letters = refl; name = refl };
  system = tt;
  output = λ other. absurd (other refl);
  error = λ other. stands.error (λ is. true≢false (sym active ∙ ap is_active_status is));
  values = and_from (is_short output) (is_short a.error) short ((and_parts (is_short a.output) (is_short a.error) stands.values).1);
  mailbox = tt;
}

pub stands_error : (error : Value) (a : ActorRecord) → is_active a ≡ true → is_short error ≡ true → RecordRules a → RecordRules (error_record error a)
stands_error error a active short stands = record {
  ended = λ is. record { letters = refl; name = refl };
  system = tt;
  output = λ other. stands.output (λ is. true≢false (sym active ∙ ap is_active_status is));
  error = λ other. absurd (other refl);
  values = and_from (is_short a.output) (is_short error) ((and_parts (is_short a.output) (is_short a.error) stands.values).0) short;
  mailbox = tt;
}

pub stands_fresh : (number : ℕ) (parent : Option ℕ) (system : Option (List ℕ)) (own : Option Own) (item : Option Item) → IfSome system (λ name. IsTrue (is_name name)) → RecordRules (fresh_record number parent system own item)
stands_fresh number parent system own item name = record {
  ended = λ is. absurd (true≢false is);
  system = name;
  output = λ other. refl;
  error = λ other. refl;
  values = and_from (is_short Null) (is_short Null) null_is_short null_is_short;
  mailbox = tt;
}

-- ---- room for letters

pub room_from : (state : OfficeState) (more : ℕ) → waiting_letters state + more ≤ MAX_LETTERS → state.next_letter + more ≤ MAX_NEXT_NUMBER → has_letter_room state more ≡ true
room_from state more few numbers = and_from (nat_le (waiting_letters state + more) MAX_LETTERS) (nat_le (state.next_letter + more) MAX_NEXT_NUMBER) (le-leb (waiting_letters state + more) MAX_LETTERS few) (le-leb (state.next_letter + more) MAX_NEXT_NUMBER numbers)

pub room_of : (state : OfficeState) (more : ℕ) → has_letter_room state more ≡ true → (waiting_letters state + more ≤ MAX_LETTERS) × (state.next_letter + more ≤ MAX_NEXT_NUMBER)
room_of state more room =
    let rooms = and_parts (nat_le (waiting_letters state + more) MAX_LETTERS) (nat_le (state.next_letter + more) MAX_NEXT_NUMBER) room in
    (leb-true (waiting_letters state + more) MAX_LETTERS rooms.0, leb-true (state.next_letter + more) MAX_NEXT_NUMBER rooms.1)

-- ---- letters to parents

module _ (definitions : OfficeDefinitions) (callers : List Caller) (state : OfficeState) (n : ℕ) (event : List ℕ → Value) (sound : SoundOffice (HasKind definitions) callers state) (given : IsGiven state.next_actor n)
    (fits : (id : List ℕ) → is_event (event id) ≡ true) (begins : (id : List ℕ) → begins_none (event id)) where
  to_parent : (p : ℕ) → runs_in state.actors p ≡ true → has_letter_room state 1 ≡ true → SoundOffice (HasKind definitions) callers (with_letter state (origin.Actor n) p (event (child_id state p n)))
  to_parent p runner room =
      let letter_event : Value = event (child_id state p n) in
      letter_sound (HasKind definitions) (HasKind definitions) callers state (origin.Actor n) p letter_event sound room given (fits (child_id state p n)) runner (λ a differs kind. kind)
      (λ a seen kind. (
      let runner_record = running state.actors p runner in
      let same_record : Some runner_record.0 ≡ Some a = sym runner_record.1 ∙ seen in
      let same : runner_record.0 ≡ a = cc in
      kind_mail definitions (new_letter state (origin.Actor n) letter_event) a (begins (child_id state p n)) (ap (λ (z : ActorRecord). is_some z.own) (sym same) ∙ runner_record.3) kind))

  -- a letter to the parent, if there is one
  pub told_sound : ((p : ℕ) → parent_actor state n ≡ Some p → runs_in state.actors p ≡ true) → ((p : ℕ) → parent_actor state n ≡ Some p → has_letter_room state 1 ≡ true) → SoundOffice (HasKind definitions) callers (with_letter_to_parent state n event)
  told_sound runner room = by_parent (parent_actor state n) refl where
    by_parent : (o : Option ℕ) → parent_actor state n ≡ o → SoundOffice (HasKind definitions) callers (option_map_or (λ (parent : ℕ). with_letter state (origin.Actor n) parent (event (child_id state parent n))) o state)
    by_parent None is = sound
    by_parent (Some p) is = to_parent p (runner p is) (room p is)

  -- the same, where it finds room
  pub told_if_room : ((p : ℕ) → parent_actor state n ≡ Some p → runs_in state.actors p ≡ true) → (after : OfficeState) → after_telling_parent state n event ≡ Ok after → SoundOffice (HasKind definitions) callers after
  told_if_room runner after is = by_parent (parent_actor state n) refl is where
    by_room : (p : ℕ) → runs_in state.actors p ≡ true → (b : Bool) → has_letter_room state 1 ≡ b → (if b then Ok (with_letter state (origin.Actor n) p (event (child_id state p n))) else Err fault.LettersFull) ≡ Ok after → SoundOffice (HasKind definitions) callers after
    by_room p runner true room is = (let same : with_letter state (origin.Actor n) p (event (child_id state p n)) ≡ after = cc in subst (SoundOffice (HasKind definitions) callers) same (to_parent p runner room))
    by_room p runner false room is = absurd (cc)

    by_parent : (o : Option ℕ) → parent_actor state n ≡ o → option_map_or (λ (parent : ℕ). with_letter_if_room state (origin.Actor n) parent (event (child_id state parent n))) o (Ok state) ≡ Ok after → SoundOffice (HasKind definitions) callers after
    by_parent None none is = (let same : state ≡ after = cc in subst (SoundOffice (HasKind definitions) callers) same sound)
    by_parent (Some p) parent is = by_room p (runner p parent) (has_letter_room state 1) refl is
