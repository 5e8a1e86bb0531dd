-- What each change of an office keeps: letters, own parts, new actors, removals, ends and timers.
use Rattle.std.proofs.Common.{◌≡◌, ◌≢◌, ℕ, ◌+◌, ◌≤◌, Bool, true, false, cond, ◌&&◌, List, [], ◌∷◌, ◌++◌, length, length-append, map, drop, refl, sym, ap, subst, ◌∙◌, arith}
use Rattle.std.specs.Prelude.{Option, Some, is_some, filter, sum_by, nat_eq, nat_le, IsTrue, IfSome, if◌then◌else◌, option_to_list}
use Rattle.std.specs.List.{AllByRecursion}
use Rattle.std.proofs.lemmas.Bool.{and_parts, leb-true}
use Rattle.std.proofs.lemmas.List.Sums.{sum_by-cons}
use Rattle.xs_model.specs.declared.value.Value.{Value}
use Rattle.office_types.specs.declared.limits.TheConstants.{MAX_ACTIVE_ACTORS, MAX_LETTERS, MAX_NEXT_NUMBER}
use Rattle.office_types.specs.declared.office.ActorRecord.{ActorRecord}
use Rattle.office_types.specs.declared.office.Caller.{Caller}
use Rattle.office_types.specs.declared.office.Letter.{Letter}
use Rattle.office_types.specs.declared.office.OfficeState.{OfficeState}
use Rattle.office_types.specs.declared.office.Origin.{Origin}
use Rattle.office_types.specs.declared.office.Timer.{Timer}
use Rattle.office_types.specs.declared.outcome.Own.{Own}
use Rattle.office_types.specs.Limits.{is_event, is_name, is_short}
use Rattle.office_types.specs.Mailboxes.{has_letter_room, waiting_letters, with_letter, with_mail, without_head}
use Rattle.office_types.specs.Records.{active_actors, is_active, is_active_status}
use Rattle.office_types.specs.Step.{with_own}
use Rattle.office_types.specs.ValidOffice.{IsGiven, name_of}
use Rattle.office_types.proofs.ValidityListLemmas.{Rises, change_at, at_number, at_same, each_at, each_both, each_mono, each_push, passing_map_le, sum_at_le, sum_map_le}
use Rattle.office_types.proofs.ValidityTreeLemmas.{ActorTree, number_of, record_in, tree_map}
use Rattle.office_types.proofs.ValidityPartLemmas.{FitsOrigin, PartRules, RecordRules, letters_numbered, parts_letter, parts_map, runs_in}
use Rattle.office_types.proofs.ValidityLemmas.{SoundOffice}

-- ---- one record changed

-- a change of one record that leaves its place in the tree
pub tree_at : (next : ℕ) (actors : List ActorRecord) → ActorTree next actors → (n : ℕ) (change : ActorRecord → ActorRecord) → ((a : ActorRecord) → (change a).number ≡ a.number) → ((a : ActorRecord) → (change a).parent ≡ a.parent)
    → ((a : ActorRecord) → (change a).kids ≡ a.kids) → ((a : ActorRecord) → is_active (change a) ≡ is_active a) → ActorTree next (map (change_at number_of n change) actors)
tree_at next actors tree n change same_number same_parent same_kids same_active =
    tree_map next actors tree (change_at number_of n change) (at_number number_of n change same_number) (at_same number_of (λ (z : ActorRecord). z.parent) n change same_parent) (at_same number_of (λ (z : ActorRecord). z.kids) n change same_kids)
    (λ m a p b seen parent above active. (
    let child = tree.parents m a p seen parent in
    let same_record : Some child.above ≡ Some b = sym child.seen ∙ above in
    let same : child.above ≡ b = cc in
    at_same number_of is_active n change same_active b ∙ ap is_active (sym same) ∙ child.active (sym (at_same number_of is_active n change same_active a) ∙ active)))

pub active_at_le : (n : ℕ) (change : ActorRecord → ActorRecord) (actors : List ActorRecord) → ((a : ActorRecord) → is_active (change a) ≡ is_active a)
    → length (filter is_active (map (change_at number_of n change) actors)) ≤ length (filter is_active actors)
active_at_le n change actors same = passing_map_le is_active (change_at number_of n change) actors (λ a is. sym (at_same number_of is_active n change same a) ∙ is)

stands_at : (n : ℕ) (change : ActorRecord → ActorRecord) → ((a : ActorRecord) → RecordRules a → RecordRules (change a)) → (a : ActorRecord) → RecordRules a → RecordRules (change_at number_of n change a)
stands_at n change keeps a stands = by_test (nat_eq a.number n) where
  by_test : (b : Bool) → RecordRules (if b then change a else a)
  by_test true = keeps a stands
  by_test false = stands

runs_at : (n : ℕ) (change : ActorRecord → ActorRecord) → ((a : ActorRecord) → is_active (change a) ≡ is_active a) → ((a : ActorRecord) → is_some a.own ≡ true → is_some (change a).own ≡ true)
    → (a : ActorRecord) → is_active a ≡ true → is_some a.own ≡ true → (is_active (change_at number_of n change a) ≡ true) × (is_some (change_at number_of n change a).own ≡ true)
runs_at n change same own a active is = (at_same number_of is_active n change same a ∙ active, by_test (nat_eq a.number n)) where
  by_test : (b : Bool) → is_some (if b then change a else a).own ≡ true
  by_test true = own a is
  by_test false = is

-- ---- a letter

abbrev pub new_letter : OfficeState → Origin → Value → Letter
new_letter state from event = record { number = state.next_letter; origin = from; event = event }

pub letter_sound : (K K' : ActorRecord → Type 0) (callers : List Caller) (state : OfficeState) (from : Origin) (n : ℕ) (event : Value) → SoundOffice K callers state → has_letter_room state 1 ≡ true
    → FitsOrigin state.next_actor from → IsTrue (is_event event) → runs_in state.actors n ≡ true → ((a : ActorRecord) → a.number ≢ n → K a → K' a)
    → ((a : ActorRecord) → record_in state.actors n ≡ Some a → K a → K' (with_mail (new_letter state from event) a)) → SoundOffice K' callers (with_letter state from n event)
letter_sound K K' callers state from n event sound room fits is_sent runner others target =
    let letter : Letter = new_letter state from event in
    let rooms = and_parts (nat_le (waiting_letters state + 1) MAX_LETTERS) (nat_le (state.next_letter + 1) MAX_NEXT_NUMBER) room in
    record {
      counts = record {
        actor = sound.counts.actor;
        letter = record { numbered = omega arith; limit = leb-true (state.next_letter + 1) MAX_NEXT_NUMBER rooms.1 };
        timer = sound.counts.timer;
        active = (let fewer = active_at_le n (with_mail letter) state.actors (λ a. refl) in let few : active_actors state ≤ MAX_ACTIVE_ACTORS = sound.counts.active in omega arith);
        waiting = (
            let more = sum_at_le number_of (λ (a : ActorRecord). length a.mailbox) 1 n (with_mail letter) state.actors sound.tree.rise (λ a. omega (arith, length-append a.mailbox (letter ∷ []))) in
            let few : waiting_letters state + 1 ≤ MAX_LETTERS = leb-true (waiting_letters state + 1) MAX_LETTERS rooms.0 in
            omega arith);
        standing = sound.counts.standing;
        moment = sound.counts.moment;
        entries = sound.counts.entries;
        same_callers = sound.counts.same_callers;
      };
      tree = tree_at state.next_actor state.actors sound.tree n (with_mail letter) (λ a. refl) (λ a. refl) (λ a. refl) (λ a. refl);
      parts = parts_letter state.next_actor state.next_letter state.next_timer state.actors state.timers state.names n letter sound.counts.letter.numbered refl fits is_sent sound.tree.rise runner sound.parts;
      kinds = each_at number_of K K' n (with_mail letter) state.actors sound.tree.rise sound.kinds others target;
    }

-- ---- the head letter out, another own part in

stands_head : (a : ActorRecord) → RecordRules a → RecordRules (record a { mailbox = drop 1 a.mailbox })
stands_head a stands = record {
  ended = λ is. (let ended = stands.ended is in record { letters = ap (drop 1) ended.letters; name = ended.name });
  system = stands.system;
  output = stands.output;
  error = stands.error;
  values = stands.values;
  mailbox = rest a.mailbox stands.mailbox;
} where
  rest : (letters : List Letter) → Rises (λ (l : Letter). l.number) letters → Rises (λ (l : Letter). l.number) (drop 1 letters)
  rest [] rising = tt
  rest (letter ∷ letters) rising = rising.1

mail_head : (P : Letter → Type 0) (letters : List Letter) → AllByRecursion P letters → AllByRecursion P (drop 1 letters)
mail_head P [] all = tt
mail_head P (letter ∷ letters) all = all.1

fewer_head : (f : Letter → ℕ) (letters : List Letter) → sum_by f (drop 1 letters) ≤ sum_by f letters
fewer_head f [] = omega arith
fewer_head f (letter ∷ letters) = omega (arith, sum_by-cons f letter letters)

shorter_head : (letters : List Letter) → length (drop 1 letters) ≤ length letters
shorter_head [] = omega arith
shorter_head (letter ∷ letters) = omega arith

-- a fact of one record, changed or not
pub either_at : (Q : ActorRecord → Type 0) (n : ℕ) (change : ActorRecord → ActorRecord) (a : ActorRecord) → Q (change a) → Q a → Q (change_at number_of n change a)
either_at Q n change a changed same = by_test (nat_eq a.number n) where
  by_test : (b : Bool) → Q (if b then change a else a)
  by_test true = changed
  by_test false = same

pub head_sound : (K K' : ActorRecord → Type 0) (callers : List Caller) (state : OfficeState) (n : ℕ) → SoundOffice K callers state → ((a : ActorRecord) → a.number ≢ n → K a → K' a)
    → ((a : ActorRecord) → record_in state.actors n ≡ Some a → K a → K' (record a { mailbox = drop 1 a.mailbox })) → SoundOffice K' callers (without_head state n)
head_sound K K' callers state n sound others target =
    let shorter = sum_map_le (λ (a : ActorRecord). length a.mailbox) (change_at number_of n (λ (z : ActorRecord). record z { mailbox = drop 1 z.mailbox })) state.actors
    (λ a. either_at (λ (z : ActorRecord). length z.mailbox ≤ length a.mailbox) n (λ (z : ActorRecord). record z { mailbox = drop 1 z.mailbox }) a (shorter_head a.mailbox) (omega arith)) in
    record {
      counts = record {
        actor = sound.counts.actor;
        letter = sound.counts.letter;
        timer = sound.counts.timer;
        active = (let fewer = active_at_le n (λ (z : ActorRecord). record z { mailbox = drop 1 z.mailbox }) state.actors (λ a. refl) in let few : active_actors state ≤ MAX_ACTIVE_ACTORS = sound.counts.active in omega arith);
        waiting = (let few : waiting_letters state ≤ MAX_LETTERS = sound.counts.waiting in omega arith);
        standing = sound.counts.standing;
        moment = sound.counts.moment;
        entries = sound.counts.entries;
        same_callers = sound.counts.same_callers;
      };
      tree = tree_at state.next_actor state.actors sound.tree n (λ (z : ActorRecord). record z { mailbox = drop 1 z.mailbox }) (λ a. refl) (λ a. refl) (λ a. refl) (λ a. refl);
      parts = parts_map state.next_actor state.next_letter state.next_timer state.actors state.timers state.names (change_at number_of n (λ (z : ActorRecord). record z { mailbox = drop 1 z.mailbox }))
          (at_number number_of n (λ (z : ActorRecord). record z { mailbox = drop 1 z.mailbox }) (λ a. refl))
          (stands_at n (λ (z : ActorRecord). record z { mailbox = drop 1 z.mailbox }) stands_head)
          (at_same number_of name_of n (λ (z : ActorRecord). record z { mailbox = drop 1 z.mailbox }) (λ a. refl))
          (λ P a mail. either_at (λ (z : ActorRecord). AllByRecursion P z.mailbox) n (λ (z : ActorRecord). record z { mailbox = drop 1 z.mailbox }) a (mail_head P a.mailbox mail) mail)
          (λ m a. either_at (λ (z : ActorRecord). letters_numbered m z ≤ letters_numbered m a) n (λ (z : ActorRecord). record z { mailbox = drop 1 z.mailbox }) a (fewer_head (λ (l : Letter). cond (nat_eq l.number m) 1 0) a.mailbox) (omega arith))
          (runs_at n (λ (z : ActorRecord). record z { mailbox = drop 1 z.mailbox }) (λ a. refl) (λ a is. is)) sound.parts;
      kinds = each_at number_of K K' n (λ (z : ActorRecord). record z { mailbox = drop 1 z.mailbox }) state.actors sound.tree.rise sound.kinds others target;
    }

pub stands_quiet : (a b : ActorRecord) → b.status ≡ a.status → b.system ≡ a.system → b.output ≡ a.output → b.error ≡ a.error → b.mailbox ≡ a.mailbox → RecordRules a → RecordRules b
stands_quiet a b same_status same_system same_output same_error same_mailbox stands = record {
  ended = λ is. (let ended = stands.ended (ap is_active_status (sym same_status) ∙ is) in record { letters = same_mailbox ∙ ended.letters; name = same_system ∙ ended.name });
  system = subst (λ (o : Option (List ℕ)). IfSome o (λ name. IsTrue (is_name name))) (sym same_system) stands.system;
  output = λ other. same_output ∙ stands.output (λ is. other (same_status ∙ is));
  error = λ other. same_error ∙ stands.error (λ is. other (same_status ∙ is));
  values = ap (λ (v : Value). is_short v && is_short b.error) same_output ∙ ap (λ (v : Value). is_short a.output && is_short v) same_error ∙ stands.values;
  mailbox = subst (Rises (λ (l : Letter). l.number)) (sym same_mailbox) stands.mailbox;
}

-- what is kept besides the tree where one record gets another own part or other children
pub parts_quiet : (na la ta : ℕ) (actors : List ActorRecord) (timers : List Timer) (names : List (List ℕ × ℕ)) (n : ℕ) (change : ActorRecord → ActorRecord) → ((a : ActorRecord) → (change a).number ≡ a.number)
    → ((a : ActorRecord) → (change a).status ≡ a.status) → ((a : ActorRecord) → (change a).system ≡ a.system) → ((a : ActorRecord) → (change a).output ≡ a.output) → ((a : ActorRecord) → (change a).error ≡ a.error)
    → ((a : ActorRecord) → (change a).mailbox ≡ a.mailbox) → ((a : ActorRecord) → is_some a.own ≡ true → is_some (change a).own ≡ true)
    → PartRules na la ta actors timers names → PartRules na la ta (map (change_at number_of n change) actors) timers names
parts_quiet na la ta actors timers names n change same_number same_status same_system same_output same_error same_mailbox own parts =
    parts_map na la ta actors timers names (change_at number_of n change) (at_number number_of n change same_number)
    (stands_at n change (λ a. stands_quiet a (change a) (same_status a) (same_system a) (same_output a) (same_error a) (same_mailbox a)))
    (at_same number_of name_of n change (λ a. ap (λ (m : ℕ). map (λ (name : List ℕ). (name, m)) (option_to_list (change a).system)) (same_number a) ∙ ap (λ (o : Option (List ℕ)). map (λ (name : List ℕ). (name, a.number)) (option_to_list o)) (same_system a)))
    (λ P a mail. either_at (λ (z : ActorRecord). AllByRecursion P z.mailbox) n change a (subst (AllByRecursion P) (sym (same_mailbox a)) mail) mail)
    (λ m a. either_at (λ (z : ActorRecord). letters_numbered m z ≤ letters_numbered m a) n change a (omega (arith, ap (λ (letters : List Letter). sum_by (λ (l : Letter). cond (nat_eq l.number m) 1 0) letters) (same_mailbox a))) (omega arith))
    (runs_at n change (λ a. ap is_active_status (same_status a)) own) parts

pub own_sound : (K K' : ActorRecord → Type 0) (callers : List Caller) (state : OfficeState) (n : ℕ) (own : Own) → SoundOffice K callers state → ((a : ActorRecord) → a.number ≢ n → K a → K' a)
    → ((a : ActorRecord) → record_in state.actors n ≡ Some a → K a → K' (record a { own = Some own })) → SoundOffice K' callers (with_own n own state)
own_sound K K' callers state n own sound others target =
    let same_waiting = sum_map_le (λ (a : ActorRecord). length a.mailbox) (change_at number_of n (λ (z : ActorRecord). record z { own = Some own })) state.actors
    (λ a. either_at (λ (z : ActorRecord). length z.mailbox ≤ length a.mailbox) n (λ (z : ActorRecord). record z { own = Some own }) a (omega arith) (omega arith)) in
    record {
      counts = record {
        actor = sound.counts.actor;
        letter = sound.counts.letter;
        timer = sound.counts.timer;
        active = (let fewer = active_at_le n (λ (z : ActorRecord). record z { own = Some own }) state.actors (λ a. refl) in let few : active_actors state ≤ MAX_ACTIVE_ACTORS = sound.counts.active in omega arith);
        waiting = (let few : waiting_letters state ≤ MAX_LETTERS = sound.counts.waiting in omega arith);
        standing = sound.counts.standing;
        moment = sound.counts.moment;
        entries = sound.counts.entries;
        same_callers = sound.counts.same_callers;
      };
      tree = tree_at state.next_actor state.actors sound.tree n (λ (z : ActorRecord). record z { own = Some own }) (λ a. refl) (λ a. refl) (λ a. refl) (λ a. refl);
      parts = parts_quiet state.next_actor state.next_letter state.next_timer state.actors state.timers state.names n (λ (z : ActorRecord). record z { own = Some own })
          (λ a. refl) (λ a. refl) (λ a. refl) (λ a. refl) (λ a. refl) (λ a. refl) (λ a is. refl) sound.parts;
      kinds = each_at number_of K K' n (λ (z : ActorRecord). record z { own = Some own }) state.actors sound.tree.rise sound.kinds others target;
    }

-- ---- a new actor

-- all but one are of such kinds, and that one of another
pub record Except (K : ActorRecord → Type 0) (n : ℕ) (M : ActorRecord → Type 0) (actor : ActorRecord) : Type 0 where
  pub other : actor.number ≢ n → K actor
  pub one : actor.number ≡ n → M actor

-- each of the old ones has another number than the next
pub kinds_push : (K : ActorRecord → Type 0) (next : ℕ) (actors : List ActorRecord) (fresh : ActorRecord) → ActorTree next actors → fresh.number ≡ next → AllByRecursion K actors
    → AllByRecursion (Except K next (λ a. a ≡ fresh)) (actors ++ fresh ∷ [])
kinds_push K next actors fresh tree fresh_number kinds =
    each_push (Except K next (λ a. a ≡ fresh)) actors fresh
    (each_mono (λ (a : ActorRecord). K a × IsGiven next a.number) (Except K next (λ a. a ≡ fresh)) actors (λ a facts. record { other = λ differs. facts.0; one = λ same. absurd (omega (arith, facts.1.1)) })
    (each_both K (λ (a : ActorRecord). IsGiven next a.number) actors kinds tree.given))
    (record { other = λ differs. absurd (differs fresh_number); one = λ same. refl })
