-- The callers of a valid office after a decision, and what the rows of the table leave.
use Rattle.std.proofs.Common.{◌≡◌, ◌≢◌, inl, inr, ℕ, ◌+◌, ◌<◌, ◌≤◌, Bool, true, false, cond, not, ◌&&◌, true≢false, List, [], ◌∷◌, ◌++◌, length, length-append, refl, sym, subst, ◌∙◌, arith}
use Rattle.std.specs.Prelude.{Option, None, Some, is_none, find, sum_by, nat_le, Contains, IsTrue, if◌then◌else◌}
use Rattle.std.specs.List.{AllByRecursion}
use Rattle.std.specs.Option.{option_map, option_or}
use Rattle.std.specs.Str.{bytes_eq}
use Rattle.std.proofs.lemmas.Bool.{and_cases, leb-false}
use Rattle.std.proofs.lemmas.List.Elements.{All-from_recursion, recursion_from_All}
use Rattle.std.proofs.lemmas.List.Sums.{sum_by-cons}
use Rattle.office_types.specs.declared.limits.TheConstants.{MAX_CALLERS, MAX_ENTRIES, MAX_REPLIES}
use Rattle.office_types.specs.declared.office.Caller.{Caller}
use Rattle.office_types.specs.declared.office.OfficeState.{OfficeState}
use Rattle.office_types.specs.declared.request.Ask.{Ask}
use Rattle.office_types.specs.declared.request.Ask.TheVariants as ask
use Rattle.office_types.specs.declared.request.Reply.{Reply}
use Rattle.office_types.specs.declared.request.Request.{Request}
use Rattle.office_types.specs.declared.request.Word.{Word}
use Rattle.office_types.specs.declared.request.Word.TheVariants as word
use Rattle.office_types.specs.Callers.{is_caller}
use Rattle.office_types.specs.Decisions.{Row, actor_row, actors_row, caller_of, callers_row, closed_row, entries_row, first_row, gap_row, grant, item_row, letters_row, machine_row, moment_row, name_row, refusal, repeat_row, replies_row, reply_with, reserved_row, row_if, stopped_row, undecided, with_reply}
use Rattle.office_types.specs.Definitions.{OfficeDefinitions}
use Rattle.office_types.specs.ValidOffice.{IsCaller, IsDecidedReply, decided_words}
use Rattle.office_types.proofs.ValidityLemmas.{CallerRules}
use Rattle.office_types.proofs.ValidityListLemmas.{EachPair, all_from_pairs, each_push, pairs_from}
use Rattle.office_types.proofs.ValidityStopLemmas.{bytes_same}

-- ---- rows

pub both_none : {X : Type 0} (a b : Option X) → option_or a b ≡ None → (a ≡ None) × (b ≡ None)
both_none None b is = (refl, is)
both_none (Some x) b is = absurd (cc)

pub test_fails : (test : Bool) (status : ℕ) (w : Word) (value : ℕ) → row_if test status w value ≡ None → test ≡ false
test_fails true status w value is = absurd (cc)
test_fails false status w value is = refl

pub not_fails : (b : Bool) → not b ≡ false → b ≡ true
not_fails true is = refl
not_fails false is = sym is

-- a row answers with words of the table
abbrev AnswersInTable : Row → Type 0
AnswersInTable row = (reply : Reply) → row ≡ Some reply → IsDecidedReply reply

in_table_if : (test : Bool) (status : ℕ) (w : Word) (value : ℕ) → Contains decided_words (status, w) → AnswersInTable (row_if test status w value)
in_table_if true status w value has reply is = let same : reply_with status w value ≡ reply = cc in subst IsDecidedReply same has
in_table_if false status w value has reply is = absurd (cc)

in_table_or : (row rest : Row) → AnswersInTable row → AnswersInTable rest → AnswersInTable (option_or row rest)
in_table_or None rest one other = other
in_table_or (Some x) rest one other = one

in_table_none : AnswersInTable None
in_table_none reply is = absurd (cc)

name_in_table : (o : Option ℕ) → AnswersInTable (option_map (λ (holder : ℕ). reply_with 409 word.Name holder) o)
name_in_table None reply is = absurd (cc)
name_in_table (Some holder) reply is = let same : reply_with 409 word.Name holder ≡ reply = cc in subst IsDecidedReply same (1, omega arith, refl)

letters_in_table : (state : OfficeState) (letters : ℕ) → AnswersInTable (first_row (letters_row state letters ∷ []))
letters_in_table state letters = in_table_or (letters_row state letters) None (in_table_if _ 429 word.Letters _ (9, omega arith, refl)) in_table_none

pub refusal_in_table : (definitions : OfficeDefinitions) (state : OfficeState) (asked : Ask) → AnswersInTable (refusal definitions state asked)
refusal_in_table definitions state (ask.Start machine system input) =
    in_table_or (machine_row definitions machine) _ (in_table_if _ 404 word.Machine _ (0, omega arith, refl))
    (in_table_or (name_row state system) _ (name_in_table _)
    (in_table_or (actors_row state) _ (in_table_if _ 429 word.Actors _ (2, omega arith, refl)) (letters_in_table state 1)))
refusal_in_table definitions state (ask.Send actor event) =
    in_table_or (actor_row state actor) _ (in_table_if _ 404 word.Actor _ (3, omega arith, refl))
    (in_table_or (stopped_row state actor) _ (in_table_if _ 410 word.Stopped _ (4, omega arith, refl))
    (in_table_or (reserved_row actor event) _ (in_table_if _ 422 word.Reserved _ (5, omega arith, refl)) (letters_in_table state 1)))
refusal_in_table definitions state (ask.Resolve item output) =
    in_table_or (item_row state item) _ (in_table_if _ 404 word.Item _ (6, omega arith, refl))
    (in_table_or (closed_row state item) _ (in_table_if _ 410 word.Closed _ (7, omega arith, refl)) (letters_in_table state _))
refusal_in_table definitions state (ask.Reject item error) =
    in_table_or (item_row state item) _ (in_table_if _ 404 word.Item _ (6, omega arith, refl))
    (in_table_or (closed_row state item) _ (in_table_if _ 410 word.Closed _ (7, omega arith, refl)) (letters_in_table state _))
refusal_in_table definitions state (ask.At moment) =
    in_table_or (moment_row state moment) _ (in_table_if _ 409 word.Moment _ (8, omega arith, refl)) (letters_in_table state _)

pub grant_in_table : (state : OfficeState) (asked : Ask) → IsDecidedReply (grant state asked)
grant_in_table state (ask.Start machine system input) = (10, omega arith, refl)
grant_in_table state (ask.Send actor event) = (11, omega arith, refl)
grant_in_table state (ask.Resolve item output) = (12, omega arith, refl)
grant_in_table state (ask.Reject item error) = (12, omega arith, refl)
grant_in_table state (ask.At moment) = (13, omega arith, refl)

-- ---- what isn't undecided

pub record Decidable (state : OfficeState) (request : Request) : Type 0 where
  pub callers : is_none (caller_of state request.caller) ≡ true → length state.callers < MAX_CALLERS
  pub replies : sum_by (λ (caller : Caller). length caller.replies) state.callers < MAX_REPLIES
  pub entries : state.entries < MAX_ENTRIES

pub decidable : (state : OfficeState) (request : Request) → undecided state request ≡ None → Decidable state request
decidable state request none =
    let after_repeat = both_none (repeat_row state request) (first_row (gap_row state request ∷ callers_row state request ∷ replies_row state ∷ entries_row state ∷ [])) none in
    let after_gap = both_none (gap_row state request) (first_row (callers_row state request ∷ replies_row state ∷ entries_row state ∷ [])) after_repeat.1 in
    let after_callers = both_none (callers_row state request) (first_row (replies_row state ∷ entries_row state ∷ [])) after_gap.1 in
    let after_replies = both_none (replies_row state) (first_row (entries_row state ∷ [])) after_callers.1 in
    let after_entries = both_none (entries_row state) None after_replies.1 in
    record {
      callers = λ is. (
          let fails : (is_none (caller_of state request.caller) && nat_le MAX_CALLERS (length state.callers)) ≡ false = test_fails _ 429 word.Callers MAX_CALLERS after_callers.0 in
          elim (and_cases (is_none (caller_of state request.caller)) (nat_le MAX_CALLERS (length state.callers)) fails) [
            | inl other ↦ absurd (true≢false (sym is ∙ other))
            | inr less ↦ leb-false MAX_CALLERS (length state.callers) less
          ]);
      replies = leb-false MAX_REPLIES (sum_by (λ (caller : Caller). length caller.replies) state.callers) (test_fails _ 429 word.Replies MAX_REPLIES after_replies.0);
      entries = leb-false MAX_ENTRIES state.entries (test_fails _ 429 word.Entries MAX_ENTRIES after_entries.0);
    }

-- ---- callers with a reply more

caller_more : (caller : Caller) (reply : Reply) → IsDecidedReply reply → IsCaller caller → IsCaller (record { name = caller.name; replies = caller.replies ++ reply ∷ [] })
caller_more caller reply decided is = record {
  name = is.name;
  some = omega (arith, length-append caller.replies (reply ∷ []), is.some);
  replies = All-from_recursion IsDecidedReply (caller.replies ++ reply ∷ []) (each_push IsDecidedReply caller.replies reply (recursion_from_All IsDecidedReply caller.replies is.replies) decided);
}

module _ (name : List ℕ) (reply : Reply) where
  each_reply : IsDecidedReply reply → IsTrue (is_caller name) → (callers : List Caller) → AllByRecursion IsCaller callers → AllByRecursion IsCaller (with_reply name reply callers)
  each_reply decided named [] all = (record { name = named; some = omega arith; replies = All-from_recursion IsDecidedReply (reply ∷ []) (decided, tt) }, tt)
  each_reply decided named (caller ∷ callers) all = by_name (each_reply decided named callers all.1) (bytes_eq caller.name name) where
    by_name : AllByRecursion IsCaller (with_reply name reply callers) → (b : Bool)
        → AllByRecursion IsCaller (if b then record { name = caller.name; replies = caller.replies ++ reply ∷ [] } ∷ callers else caller ∷ with_reply name reply callers)
    by_name rest true = (caller_more caller reply decided all.0, all.1)
    by_name rest false = (all.0, rest)

  -- what holds of all names and of the new one
  names_reply : (P : List ℕ → Type 0) (callers : List Caller) → P name → AllByRecursion (λ (caller : Caller). P caller.name) callers → AllByRecursion (λ (caller : Caller). P caller.name) (with_reply name reply callers)
  names_reply P [] is all = (is, tt)
  names_reply P (caller ∷ callers) is all = by_name (names_reply P callers is all.1) (bytes_eq caller.name name) where
    by_name : AllByRecursion (λ (other : Caller). P other.name) (with_reply name reply callers) → (b : Bool)
        → AllByRecursion (λ (other : Caller). P other.name) (if b then record { name = caller.name; replies = caller.replies ++ reply ∷ [] } ∷ callers else caller ∷ with_reply name reply callers)
    by_name rest true = (all.0, all.1)
    by_name rest false = (all.0, rest)

  once_reply : (callers : List Caller) → EachPair (λ (a b : Caller). a.name ≢ b.name) callers → EachPair (λ (a b : Caller). a.name ≢ b.name) (with_reply name reply callers)
  once_reply [] once = (tt, tt)
  once_reply (caller ∷ callers) once = by_name (once_reply callers once.1) (bytes_eq caller.name name) refl where
    by_name : EachPair (λ (a b : Caller). a.name ≢ b.name) (with_reply name reply callers) → (b : Bool) → bytes_eq caller.name name ≡ b
        → EachPair (λ (a b : Caller). a.name ≢ b.name) (if b then record { name = caller.name; replies = caller.replies ++ reply ∷ [] } ∷ callers else caller ∷ with_reply name reply callers)
    by_name rest true is = (once.0, once.1)
    by_name rest false is = (names_reply (λ other. caller.name ≢ other) callers (λ same. true≢false (sym (bytes_same caller.name name same) ∙ is)) once.0, rest)

  kept_reply : (callers : List Caller) → sum_by (λ (caller : Caller). length caller.replies) (with_reply name reply callers) ≡ sum_by (λ (caller : Caller). length caller.replies) callers + 1
  kept_reply [] = refl
  kept_reply (caller ∷ callers) = by_name (kept_reply callers) (bytes_eq caller.name name) where
    by_name : sum_by (λ (other : Caller). length other.replies) (with_reply name reply callers) ≡ sum_by (λ (other : Caller). length other.replies) callers + 1 → (b : Bool)
        → sum_by (λ (other : Caller). length other.replies) (if b then record { name = caller.name; replies = caller.replies ++ reply ∷ [] } ∷ callers else caller ∷ with_reply name reply callers)
        ≡ sum_by (λ (other : Caller). length other.replies) (caller ∷ callers) + 1
    by_name rest true = omega (
      arith,
      sum_by-cons (λ (other : Caller). length other.replies) caller callers,
      sum_by-cons (λ (other : Caller). length other.replies) (record { name = caller.name; replies = caller.replies ++ reply ∷ [] }) callers,
      length-append caller.replies (reply ∷ []),
    )
    by_name rest false = omega (arith, sum_by-cons (λ (other : Caller). length other.replies) caller callers, sum_by-cons (λ (other : Caller). length other.replies) caller (with_reply name reply callers))

  -- one caller more only where it is new
  count_reply : (callers : List Caller) → length (with_reply name reply callers) ≤ length callers + cond (is_none (find (λ (caller : Caller). bytes_eq caller.name name) callers)) 1 0
  count_reply [] = omega arith
  count_reply (caller ∷ callers) = by_name (count_reply callers) (bytes_eq caller.name name) where
    by_name : length (with_reply name reply callers) ≤ length callers + cond (is_none (find (λ (other : Caller). bytes_eq other.name name) callers)) 1 0 → (b : Bool)
        → length (if b then record { name = caller.name; replies = caller.replies ++ reply ∷ [] } ∷ callers else caller ∷ with_reply name reply callers)
        ≤ length (caller ∷ callers) + cond (is_none (cond b (Some caller) (find (λ (other : Caller). bytes_eq other.name name) callers))) 1 0
    by_name rest true = omega arith
    by_name rest false = omega arith

pub rules_reply : (state : OfficeState) (request : Request) (reply : Reply) → Decidable state request → IsTrue (is_caller request.caller) → IsDecidedReply reply → CallerRules state.callers
    → CallerRules (with_reply request.caller reply state.callers)
rules_reply state request reply room named decided rules = record {
  count = few (is_none (caller_of state request.caller)) refl (count_reply request.caller reply state.callers);
  replies = (let less : sum_by (λ (caller : Caller). length caller.replies) state.callers < MAX_REPLIES = room.replies in omega (arith, kept_reply request.caller reply state.callers));
  each = All-from_recursion IsCaller (with_reply request.caller reply state.callers) (each_reply request.caller reply decided named state.callers (recursion_from_All IsCaller state.callers rules.each));
  once = all_from_pairs (λ (a b : Caller). a.name ≢ b.name) (with_reply request.caller reply state.callers)
      (once_reply request.caller reply state.callers (pairs_from (λ (a b : Caller). a.name ≢ b.name) state.callers rules.once));
} where
  few : (b : Bool) → is_none (caller_of state request.caller) ≡ b → length (with_reply request.caller reply state.callers) ≤ length state.callers + cond b 1 0 → length (with_reply request.caller reply state.callers) ≤ MAX_CALLERS
  few true new more = (let less : length state.callers < MAX_CALLERS = room.callers new in omega arith)
  few false old more = (let less : length state.callers ≤ MAX_CALLERS = rules.count in omega arith)
