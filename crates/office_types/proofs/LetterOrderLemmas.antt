-- Where letters wait, and in which order they are taken.
use Rattle.std.proofs.Common.{◌≡◌, ℕ, ◌<◌, ◌≤◌, Bool, true, false, cond, List, [], ◌∷◌, ◌++◌, refl, sym, ap, subst, ◌∙◌, inl, inr, arith}
use Rattle.std.specs.Prelude.{◌≢◌, ◌⊎◌, Contains, Option, None, Some, find, nat_eq}
use Rattle.std.specs.List.{AllByRecursion}
use Rattle.std.specs.Option.{option_map_or}
use Rattle.std.proofs.lemmas.Bool.{eqb-true, eqb-false}
use Rattle.office_types.specs.declared.entry.Entry.{Entry}
use Rattle.office_types.specs.declared.office.ActorRecord.{ActorRecord}
use Rattle.office_types.specs.declared.office.Letter.{Letter}
use Rattle.office_types.specs.declared.office.OfficeState.{OfficeState}
use Rattle.office_types.specs.Definitions.{OfficeDefinitions}
use Rattle.office_types.specs.Entries.{Macrostep, after, after_entry}
use Rattle.office_types.specs.Laws.{LettersEnterOneMailbox, mailbox_of}
use Rattle.office_types.specs.Records.{actor_record}
use Rattle.office_types.proofs.ChangeLemmas.{entries_keep}
use Rattle.office_types.proofs.NumberLemmas.{Before, Differ, InOrder, PairsByRecursion, Rise, Single, order_from, order_kept}
use Rattle.office_types.proofs.RecordLemmas.{Among, Everywhere, Mail, all_weaker, among_at, among_has, mail_kept}

-- ---- the record of a number

-- the records are found by their numbers
abbrev pub record_in : List ActorRecord → ℕ → Option ActorRecord
record_in actors number = find (λ (actor : ActorRecord). nat_eq actor.number number) actors

-- what holds of each record holds of the one that is found, which has the number
pub found_has : (M : ActorRecord → Type 0) (number : ℕ) (actors : List ActorRecord) → AllByRecursion M actors → (found : ActorRecord) → record_in actors number ≡ Some found → M found × (found.number ≡ number)
found_has M number [] all found is = absurd cc
found_has M number (actor ∷ actors) all found is = by_test (found_has M number actors all.1 found) (nat_eq actor.number number) refl is where
  by_test : (record_in actors number ≡ Some found → M found × (found.number ≡ number)) → (test : Bool) → nat_eq actor.number number ≡ test
      → cond test (Some actor) (record_in actors number) ≡ Some found → M found × (found.number ≡ number)
  by_test rest true same is =
      let e : actor ≡ found = cc in
      (subst M e all.0, subst (λ (a : ActorRecord). a.number ≡ number) e (eqb-true actor.number number same))
  by_test rest false other is = rest is

-- a record with another number, and other letters
abbrev pub IsOther : ℕ → ActorRecord → ActorRecord → Type 0
IsOther number found actor = (actor.number ≢ number) × Differ found.mailbox actor.mailbox

differ_back : (letters others : List Letter) → Differ letters others → Differ others letters
differ_back letters [] differ = tt
differ_back letters (m ∷ others) differ = (
  all_weaker (λ (l : Letter). AllByRecursion (λ (m' : Letter). l.number ≢ m'.number) (m ∷ others)) (λ (l : Letter). m.number ≢ l.number) (λ l both same. both.0 (sym same)) letters differ,
  differ_back letters others (all_weaker (λ (l : Letter). AllByRecursion (λ (m' : Letter). l.number ≢ m'.number) (m ∷ others)) (λ (l : Letter). AllByRecursion (λ (m' : Letter). l.number ≢ m'.number) others) (λ l both. both.1) letters differ),
)

-- each record is the one that is found, or another
pub others_differ : (number : ℕ) (actors : List ActorRecord) → PairsByRecursion Before actors → (found : ActorRecord) → record_in actors number ≡ Some found → AllByRecursion (λ (actor : ActorRecord). (actor ≡ found) ⊎ IsOther number found actor) actors
others_differ number [] pairs found is = tt
others_differ number (actor ∷ actors) pairs found is = by_test (others_differ number actors pairs.1 found) (nat_eq actor.number number) refl is where
  by_test : (record_in actors number ≡ Some found → AllByRecursion (λ (other : ActorRecord). (other ≡ found) ⊎ IsOther number found other) actors) → (test : Bool) → nat_eq actor.number number ≡ test
      → cond test (Some actor) (record_in actors number) ≡ Some found → AllByRecursion (λ (other : ActorRecord). (other ≡ found) ⊎ IsOther number found other) (actor ∷ actors)
  by_test rest true same is =
      let e : actor ≡ found = cc in
      let first : actor.number ≡ number = eqb-true actor.number number same in (
        inl e,
        all_weaker (Before actor) (λ (other : ActorRecord). (other ≡ found) ⊎ IsOther number found other)
            (λ other before. inr ((λ again. let less : actor.number < other.number = before.0 in absurd (omega arith)), subst (λ (a : ActorRecord). Differ a.mailbox other.mailbox) e before.1)) actors pairs.0,
      )
  by_test rest false other is =
      let before = found_has (Before actor) number actors pairs.0 found is in
      (inr (eqb-false actor.number number other, differ_back actor.mailbox found.mailbox before.0.1), rest is)

-- who has a letter in its mailbox has a record
pub holder : (o : Option ActorRecord) (letter : Letter) → Among (option_map_or (λ (actor : ActorRecord). actor.mailbox) o []) letter → (found : ActorRecord) × (o ≡ Some found) × Among found.mailbox letter
holder None letter among = absurd among
holder (Some found) letter among = (found, refl, among)

-- ---- a number waits in one place

alone : (letter : Letter) (letters : List Letter) → Rise letters → Among letters letter → AllByRecursion (λ (m : Letter). m.number ≡ letter.number → letter ≡ m) letters
alone letter [] rise among = tt
alone letter (l ∷ letters) rise (inl is) =
    let number : l.number ≡ letter.number = ap (λ (x : Letter). x.number) is in
    ((λ same. sym is), all_weaker (λ (m : Letter). l.number < m.number) (λ (m : Letter). m.number ≡ letter.number → letter ≡ m) (λ m less same. absurd (omega arith)) letters rise.0)
alone letter (l ∷ letters) rise (inr among) =
    let less : l.number < letter.number = among_has (λ (m : Letter). l.number < m.number) letters rise.0 letter among in
    ((λ same. absurd (omega arith)), alone letter letters rise.1 among)

-- a letter of the same number is the letter, and waits for the same actor
abbrev IsIt : ℕ → Letter → ℕ → Letter → Type 0
IsIt number letter other m = letter.number ≡ m.number → (number ≡ other) × (letter ≡ m)

one_place : (number : ℕ) (letter : Letter) (state : OfficeState) → InOrder state → Among (mailbox_of state number) letter
    → AllByRecursion (λ (actor : ActorRecord). AllByRecursion (IsIt number letter actor.number) actor.mailbox) state.actors × (letter.number < state.next_letter)
one_place number letter state order among =
    let held = holder (actor_record state number) letter among in
    let found : ActorRecord = held.0 in
    let single = found_has (Single state.next_actor state.next_letter) number state.actors order.0 found held.1 in
    let it : AllByRecursion (IsIt number letter found.number) found.mailbox =
    all_weaker (λ (m : Letter). m.number ≡ letter.number → letter ≡ m) (IsIt number letter found.number) (λ m same e. (sym single.1, same (sym e))) found.mailbox
    (alone letter found.mailbox single.0.1 held.2) in (
      all_weaker (λ (actor : ActorRecord). (actor ≡ found) ⊎ IsOther number found actor) (λ (actor : ActorRecord). AllByRecursion (IsIt number letter actor.number) actor.mailbox)
          (λ actor case. by_case found it held.2 actor case) state.actors (others_differ number state.actors order.1 found held.1),
      among_has (λ (m : Letter). m.number < state.next_letter) found.mailbox single.0.2 letter held.2,
    ) where
      by_case : (found : ActorRecord) → AllByRecursion (IsIt number letter found.number) found.mailbox → Among found.mailbox letter → (actor : ActorRecord)
          → (actor ≡ found) ⊎ IsOther number found actor → AllByRecursion (IsIt number letter actor.number) actor.mailbox
      by_case found it among actor (inl same) = subst (λ (a : ActorRecord). AllByRecursion (IsIt number letter a.number) a.mailbox) (sym same) it
      by_case found it among actor (inr other) =
          all_weaker (λ (m : Letter). letter.number ≢ m.number) (IsIt number letter actor.number) (λ m differ same. absurd (differ same)) actor.mailbox
          (among_has (λ (l : Letter). AllByRecursion (λ (m : Letter). l.number ≢ m.number) actor.mailbox) found.mailbox other.1 letter among)

pub after_both : (definitions : OfficeDefinitions) (macrostep : Macrostep) (state : OfficeState) (entries others : List Entry)
    → after definitions macrostep state (entries ++ others) ≡ after definitions macrostep (after definitions macrostep state entries) others
after_both definitions macrostep state [] others = refl
after_both definitions macrostep state (entry ∷ entries) others = after_both definitions macrostep (after_entry definitions macrostep state entry) entries others

pub letters_enter_one_mailbox : LettersEnterOneMailbox
letters_enter_one_mailbox definitions macrostep state before between actor actor' letter letter' order waits waits' same =
    let now = after definitions macrostep state before in
    let first = one_place actor letter now (entries_keep InOrder order_kept definitions macrostep before state (order_from state order)) (among_at (mailbox_of now actor) letter waits.0 waits.1 waits.2) in
    let P : ℕ → Letter → Type 0 = IsIt actor letter in
    let new : (number : ℕ) (l : Letter) → now.next_letter ≤ l.number → P number l = λ number l large e. let old : letter.number < now.next_letter = first.1 in absurd (omega arith) in
    let kept = entries_keep (Everywhere (Mail P now.next_letter new) now.next_letter 0) (mail_kept P now.next_letter new) definitions macrostep between now (first.0, omega arith, omega arith) in
    let then' = after definitions macrostep now between in
    let waiting : Contains (mailbox_of then' actor') letter' = subst (λ (s : OfficeState). Contains (mailbox_of s actor') letter') (after_both definitions macrostep state before between) waits' in
    let held = holder (actor_record then' actor') letter' (among_at (mailbox_of then' actor') letter' waiting.0 waiting.1 waiting.2) in
    let found = found_has (λ (a : ActorRecord). AllByRecursion (P a.number) a.mailbox) actor' then'.actors kept.0 held.0 held.1 in
    let it = among_has (P held.0.number) held.0.mailbox found.0 letter' held.2 same in
    (it.0 ∙ found.1, it.1)
