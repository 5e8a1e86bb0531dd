-- What an office has besides its tree of actors: how its records stand, letters, timers and names.
use Rattle.std.proofs.Common.{◌≡◌, ◌≢◌, ℕ, ◌+◌, ◌<◌, ◌≤◌, Bool, true, false, cond, ◌&&◌, true≢false, List, [], ◌∷◌, ◌++◌, map, refl, sym, ap, ◌∙◌, arith}
use Rattle.std.specs.Prelude.{Option, None, Some, is_some, sum_by, count_by, nat_eq, IsTrue, IfSome}
use Rattle.std.specs.List.{AllByRecursion}
use Rattle.std.specs.Option.{option_map, option_map_or}
use Rattle.std.proofs.lemmas.Bool.{and_parts, and_from, eqb-true, ne_eqb}
use Rattle.xs_model.specs.declared.value.Value.TheVariants.{Null}
use Rattle.office_types.specs.declared.office.ActorRecord.{ActorRecord}
use Rattle.office_types.specs.declared.office.Letter.{Letter}
use Rattle.office_types.specs.declared.office.Origin.{Origin}
use Rattle.office_types.specs.declared.office.Origin.TheVariants as origin
use Rattle.office_types.specs.declared.office.Status.TheVariants as status
use Rattle.office_types.specs.declared.office.Timer.{Timer}
use Rattle.office_types.specs.Events.{event_type, init_type}
use Rattle.office_types.specs.Limits.{is_event, is_name, is_short}
use Rattle.office_types.specs.Mailboxes.{with_mail}
use Rattle.office_types.specs.Records.{is_active}
use Rattle.office_types.specs.ValidOffice.{AreOfOneId, HasEnded, IsGiven, name_of, names_of}
use Rattle.office_types.proofs.ValidityListLemmas.{EachPair, Rises, change_at, at_number, at_same, count_none, each_at, each_both, each_map, each_mono, each_push, look_map, pairs_push, sum_at_le, sum_map_le, sum_push, sum_zero}
use Rattle.office_types.proofs.ValidityTreeLemmas.{number_of, record_in}

-- ---- what each record says

-- how a record stands by itself
pub record RecordRules (actor : ActorRecord) : Type 0 where
  pub ended : is_active actor ≡ false → HasEnded actor
  pub system : IfSome actor.system (λ name. IsTrue (is_name name))
  pub output : actor.status ≢ status.Done → actor.output ≡ Null
  pub error : actor.status ≢ status.Error → actor.error ≡ Null
  pub values : IsTrue (is_short actor.output && is_short actor.error)
  pub mailbox : Rises (λ (letter : Letter). letter.number) actor.mailbox

-- an active machine actor has this number
abbrev pub runs_in : List ActorRecord → ℕ → Bool
runs_in actors n = option_map_or (λ (actor : ActorRecord). is_active actor && is_some actor.own) (record_in actors n) false

pub running : (actors : List ActorRecord) (n : ℕ) → runs_in actors n ≡ true → (a : ActorRecord) × (record_in actors n ≡ Some a) × (is_active a ≡ true) × (is_some a.own ≡ true)
running actors n is = by_record (record_in actors n) refl is where
  by_record : (o : Option ActorRecord) → record_in actors n ≡ o → option_map_or (λ (actor : ActorRecord). is_active actor && is_some actor.own) o false ≡ true
      → (a : ActorRecord) × (record_in actors n ≡ Some a) × (is_active a ≡ true) × (is_some a.own ≡ true)
  by_record None e is = absurd (true≢false (sym is))
  by_record (Some a) e is = let parts = and_parts (is_active a) (is_some a.own) is in (a, e, parts.0, parts.1)

pub runs_from : (actors : List ActorRecord) (n : ℕ) (a : ActorRecord) → record_in actors n ≡ Some a → is_active a ≡ true → is_some a.own ≡ true → runs_in actors n ≡ true
runs_from actors n a seen active own =
    ap (λ (o : Option ActorRecord). option_map_or (λ (actor : ActorRecord). is_active actor && is_some actor.own) o false) seen ∙ and_from (is_active a) (is_some a.own) active own

-- ---- letters

abbrev pub FitsOrigin : ℕ → Origin → Type 0
FitsOrigin next (origin.Caller name) = Unit {0}
FitsOrigin next (origin.Actor number) = IsGiven next number

abbrev pub FitsLetter : ℕ → ℕ → Letter → Type 0
FitsLetter next_actor next_letter letter = IsGiven next_letter letter.number × FitsOrigin next_actor letter.origin × IsTrue (is_event letter.event)

origin_more : (next later : ℕ) (from : Origin) → next ≤ later → FitsOrigin next from → FitsOrigin later from
origin_more next later (origin.Caller name) more fits = tt
origin_more next later (origin.Actor number) more fits = (fits.0, omega (arith, fits.1))

-- numbers only grow
pub letter_more : (na nb la lb : ℕ) → na ≤ nb → la ≤ lb → (letter : Letter) → FitsLetter na la letter → FitsLetter nb lb letter
letter_more na nb la lb more_actors more_letters letter fits = ((fits.0.0, omega (arith, fits.0.1)), origin_more na nb letter.origin more_actors fits.1, fits.2)

-- the letters of a record
abbrev pub Mail : ℕ → ℕ → ActorRecord → Type 0
Mail next_actor next_letter actor = AllByRecursion (FitsLetter next_actor next_letter) actor.mailbox

-- how many letters of a record have this number
abbrev pub letters_numbered : ℕ → ActorRecord → ℕ
letters_numbered m actor = count_by (λ (letter : Letter). nat_eq letter.number m) actor.mailbox

-- ---- timers

pub record FitsTimer (next_actor next_timer : ℕ) (actors : List ActorRecord) (timer : Timer) : Type 0 where
  pub order : IsGiven next_timer timer.order
  pub owner : runs_in actors timer.owner ≡ true
  pub target : IsGiven next_actor timer.target
  pub id : IfSome timer.id (λ id. IsTrue (is_name id))
  pub event : IsTrue (is_event timer.event)
  pub no_init : event_type timer.event ≢ Some init_type

pub timer_more : (na nb ta tb : ℕ) (before after : List ActorRecord) (timer : Timer) → na ≤ nb → ta ≤ tb → (runs_in before timer.owner ≡ true → runs_in after timer.owner ≡ true) → FitsTimer na ta before timer → FitsTimer nb tb after timer
timer_more na nb ta tb before after timer more_actors more_timers owner fits = record {
  order = (fits.order.0, omega (arith, fits.order.1));
  owner = owner fits.owner;
  target = (fits.target.0, omega (arith, fits.target.1));
  id = fits.id;
  event = fits.event;
  no_init = fits.no_init;
}

-- ---- all of them

pub record PartRules (next_actor next_letter next_timer : ℕ) (actors : List ActorRecord) (timers : List Timer) (names : List (List ℕ × ℕ)) : Type 0 where
  pub stands : AllByRecursion RecordRules actors
  pub mail : AllByRecursion (Mail next_actor next_letter) actors
  pub once : (m : ℕ) → sum_by (letters_numbered m) actors ≤ 1
  pub timers_fit : AllByRecursion (FitsTimer next_actor next_timer actors) timers
  pub timers_rise : Rises (λ (timer : Timer). timer.order) timers
  pub timer_ids : EachPair (λ (a b : Timer). AreOfOneId a b → ⊥) timers
  pub names_same : names ≡ names_of actors
  pub names_once : EachPair (λ (a b : List ℕ × ℕ). a.0 ≢ b.0) names

-- ---- records changed

names_map : (f : ActorRecord → ActorRecord) (actors : List ActorRecord) → ((a : ActorRecord) → name_of (f a) ≡ name_of a) → names_of (map f actors) ≡ names_of actors
names_map f [] same = refl
names_map f (actor ∷ actors) same = ap (λ (names : List (List ℕ × ℕ)). names ++ names_of (map f actors)) (same actor) ∙ ap (λ (names : List (List ℕ × ℕ)). name_of actor ++ names) (names_map f actors same)

pub runs_map : (f : ActorRecord → ActorRecord) (actors : List ActorRecord) → ((a : ActorRecord) → (f a).number ≡ a.number) → (n : ℕ)
    → ((a : ActorRecord) → record_in actors n ≡ Some a → is_active a ≡ true → is_some a.own ≡ true → (is_active (f a) ≡ true) × (is_some (f a).own ≡ true)) → runs_in actors n ≡ true → runs_in (map f actors) n ≡ true
runs_map f actors same n keeps is =
    let a = running actors n is in
    let after = keeps a.0 a.1 a.2 a.3 in
    runs_from (map f actors) n (f a.0) (look_map number_of f same actors n ∙ ap (option_map f) a.1) after.0 after.1

-- no new letters, the same names, and who runs runs on
pub parts_map : (na la ta : ℕ) (actors : List ActorRecord) (timers : List Timer) (names : List (List ℕ × ℕ)) (f : ActorRecord → ActorRecord)
    → ((a : ActorRecord) → (f a).number ≡ a.number) → ((a : ActorRecord) → RecordRules a → RecordRules (f a)) → ((a : ActorRecord) → name_of (f a) ≡ name_of a)
    → ((P : Letter → Type 0) (a : ActorRecord) → AllByRecursion P a.mailbox → AllByRecursion P (f a).mailbox) → ((m : ℕ) (a : ActorRecord) → letters_numbered m (f a) ≤ letters_numbered m a)
    → ((a : ActorRecord) → is_active a ≡ true → is_some a.own ≡ true → (is_active (f a) ≡ true) × (is_some (f a).own ≡ true))
    → PartRules na la ta actors timers names → PartRules na la ta (map f actors) timers names
parts_map na la ta actors timers names f same stands named mail counted on parts = record {
  stands = each_map RecordRules f actors (each_mono RecordRules (λ (a : ActorRecord). RecordRules (f a)) actors stands parts.stands);
  mail = each_map (Mail na la) f actors (each_mono (Mail na la) (λ (a : ActorRecord). Mail na la (f a)) actors (mail (FitsLetter na la)) parts.mail);
  once = λ m. omega (arith, sum_map_le (letters_numbered m) f actors (counted m), parts.once m);
  timers_fit = each_mono (FitsTimer na ta actors) (FitsTimer na ta (map f actors)) timers
      (λ timer fits. timer_more na na ta ta actors (map f actors) timer (omega arith) (omega arith) (runs_map f actors same timer.owner (λ a seen. on a)) fits) parts.timers_fit;
  timers_rise = parts.timers_rise;
  timer_ids = parts.timer_ids;
  names_same = parts.names_same ∙ sym (names_map f actors named);
  names_once = parts.names_once;
}

-- ---- a letter more

stands_mail : (next_actor next_letter : ℕ) (letter : Letter) (a : ActorRecord) → letter.number ≡ next_letter → is_active a ≡ true → Mail next_actor next_letter a → RecordRules a → RecordRules (with_mail letter a)
stands_mail next_actor next_letter letter a new active mail stands = record {
  ended = λ ended. absurd (true≢false (sym active ∙ ended));
  system = stands.system;
  output = stands.output;
  error = stands.error;
  values = stands.values;
  mailbox = pairs_push (λ (x y : Letter). x.number < y.number) a.mailbox letter stands.mailbox (each_mono (FitsLetter next_actor next_letter) (λ (x : Letter). x.number < letter.number) a.mailbox (λ x fits. omega (arith, fits.0.1)) mail);
}

pub parts_letter : (na la ta : ℕ) (actors : List ActorRecord) (timers : List Timer) (names : List (List ℕ × ℕ)) (n : ℕ) (letter : Letter)
    → 0 < la → letter.number ≡ la → FitsOrigin na letter.origin → IsTrue (is_event letter.event) → Rises number_of actors → runs_in actors n ≡ true
    → PartRules na la ta actors timers names → PartRules na (la + 1) ta (map (change_at number_of n (with_mail letter)) actors) timers names
parts_letter na la ta actors timers names n letter positive new from event rising is parts = record {
  stands = each_at number_of (λ (a : ActorRecord). RecordRules a × Mail na la a) RecordRules n (with_mail letter) actors rising (each_both RecordRules (Mail na la) actors parts.stands parts.mail) (λ a other facts. facts.0)
      (λ a seen facts. (
      let runner = running actors n is in
      let same_record : Some runner.0 ≡ Some a = sym runner.1 ∙ seen in
      let same : runner.0 ≡ a = cc in
      stands_mail na la letter a new (ap is_active (sym same) ∙ runner.2) facts.1 facts.0));
  mail = each_at number_of (Mail na la) (Mail na (la + 1)) n (with_mail letter) actors rising parts.mail
      (λ a other mail. each_mono (FitsLetter na la) (FitsLetter na (la + 1)) a.mailbox (letter_more na na la (la + 1) (omega arith) (omega arith)) mail)
      (λ a seen mail. each_push (FitsLetter na (la + 1)) a.mailbox letter (each_mono (FitsLetter na la) (FitsLetter na (la + 1)) a.mailbox (letter_more na na la (la + 1) (omega arith) (omega arith)) mail)
      ((omega arith, omega arith), from, event));
  once = once;
  timers_fit = each_mono (FitsTimer na ta actors) (FitsTimer na ta (map (change_at number_of n (with_mail letter)) actors)) timers
      (λ timer fits. timer_more na na ta ta actors (map (change_at number_of n (with_mail letter)) actors) timer (omega arith) (omega arith)
      (runs_map (change_at number_of n (with_mail letter)) actors (at_number number_of n (with_mail letter) (λ a. refl)) timer.owner
      (λ a seen active own. (at_same number_of is_active n (with_mail letter) (λ z. refl) a ∙ active, at_same number_of (λ (z : ActorRecord). is_some z.own) n (with_mail letter) (λ z. refl) a ∙ own))) fits) parts.timers_fit;
  timers_rise = parts.timers_rise;
  timer_ids = parts.timer_ids;
  names_same = parts.names_same ∙ sym (names_map (change_at number_of n (with_mail letter)) actors (at_same number_of name_of n (with_mail letter) (λ z. refl)));
  names_once = parts.names_once;
} where
  added : (m : ℕ) (a : ActorRecord) → letters_numbered m (with_mail letter a) ≤ letters_numbered m a + cond (nat_eq letter.number m) 1 0
  added m a = omega (arith, sum_push (λ (l : Letter). cond (nat_eq l.number m) 1 0) a.mailbox letter)

  once : (m : ℕ) → sum_by (letters_numbered m) (map (change_at number_of n (with_mail letter)) actors) ≤ 1
  once m = by_number (nat_eq letter.number m) refl where
    by_number : (b : Bool) → nat_eq letter.number m ≡ b → sum_by (letters_numbered m) (map (change_at number_of n (with_mail letter)) actors) ≤ 1
    by_number true is =
        let same : letter.number ≡ m = eqb-true letter.number m is in
        let none : sum_by (letters_numbered m) actors ≡ 0 = sum_zero (letters_numbered m) actors (each_mono (Mail na la) (λ (a : ActorRecord). letters_numbered m a ≡ 0) actors
        (λ a mail. count_none (λ (l : Letter). nat_eq l.number m) a.mailbox (each_mono (FitsLetter na la) (λ (l : Letter). nat_eq l.number m ≡ false) a.mailbox (λ l fits. ne_eqb l.number m (λ e. omega (arith, fits.0.1))) mail)) parts.mail) in
        omega (arith, sum_at_le number_of (letters_numbered m) (cond (nat_eq letter.number m) 1 0) n (with_mail letter) actors rising (added m), ap {B = ℕ} (λ (b : Bool). cond b 1 0) is)
    by_number false is = omega (arith, sum_at_le number_of (letters_numbered m) (cond (nat_eq letter.number m) 1 0) n (with_mail letter) actors rising (added m), ap {B = ℕ} (λ (b : Bool). cond b 1 0) is, parts.once m)
