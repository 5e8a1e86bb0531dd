-- What an office has besides its tree, after an actor was made, was removed or ended.
use Rattle.std.proofs.Common.{◌≡◌, ◌≢◌, ℕ, ◌+◌, ◌<◌, ◌≤◌, Bool, true, false, cond, not, ◌&&◌, ◌||◌, true≢false, List, [], ◌∷◌, ◌++◌, length, map, refl, sym, ap, subst, ◌∙◌, arith, append-nil, append_assoc}
use Rattle.std.specs.Prelude.{Option, None, Some, is_some, filter, fold, sum_by, nat_eq, if◌then◌else◌, option_to_list}
use Rattle.std.specs.List.{AllByRecursion}
use Rattle.std.specs.Option.{option_map_or, option_or}
use Rattle.std.specs.Str.{bytes_eq}
use Rattle.std.proofs.lemmas.Bool.{eqb-true, eqb-false}
use Rattle.office_types.specs.declared.office.ActorRecord.{ActorRecord}
use Rattle.office_types.specs.declared.office.Letter.{Letter}
use Rattle.office_types.specs.declared.office.Status.TheVariants as status
use Rattle.office_types.specs.declared.office.Timer.{Timer}
use Rattle.office_types.specs.Ends.{ended_record, is_among, record_after_end, stopped_record}
use Rattle.office_types.specs.Records.{is_active, is_active_status}
use Rattle.office_types.specs.SystemNames.{holder_of, with_holder, without_holder}
use Rattle.office_types.specs.Timers.{beside, without_owner}
use Rattle.office_types.specs.ValidOffice.{AreOfOneId, name_of, names_of}
use Rattle.office_types.proofs.ValidityListLemmas.{EachPair, Rises, each_filter, each_look, each_map, each_mono, each_passing, each_push, filter_all, filter_filter, filter_joined, filter_same, look_each, look_filter, look_number, look_push, pairs_filter, pairs_push, sum_filter_le, sum_map_le, sum_push}
use Rattle.office_types.proofs.ValidityTreeLemmas.{number_of, record_in}
use Rattle.office_types.proofs.ValidityPartLemmas.{FitsLetter, FitsTimer, Mail, PartRules, RecordRules, letter_more, letters_numbered, running, runs_in, runs_from, runs_map, timer_more}
use Rattle.office_types.proofs.ValidityStopLemmas.{bytes_same}

-- ---- a record more

names_push : (actors : List ActorRecord) (fresh : ActorRecord) → names_of (actors ++ fresh ∷ []) ≡ names_of actors ++ name_of fresh
names_push [] fresh = append-nil (name_of fresh)
names_push (actor ∷ actors) fresh = ap (λ (names : List (List ℕ × ℕ)). name_of actor ++ names) (names_push actors fresh) ∙ sym (append_assoc (name_of actor) (names_of actors) (name_of fresh))

runs_push : (actors : List ActorRecord) (fresh : ActorRecord) (n : ℕ) → runs_in actors n ≡ true → runs_in (actors ++ fresh ∷ []) n ≡ true
runs_push actors fresh n is =
    let a = running actors n is in
    runs_from (actors ++ fresh ∷ []) n a.0 (look_push number_of actors fresh n ∙ ap (λ (o : Option ActorRecord). option_or o (record_in (fresh ∷ []) n)) a.1) a.2 a.3

-- a name that nobody holds is none of those that are held
unheld : (name : List ℕ) (names : List (List ℕ × ℕ)) → holder_of name names ≡ None → AllByRecursion (λ (pair : List ℕ × ℕ). pair.0 ≢ name) names
unheld name [] none = tt
unheld name (pair ∷ names) none = by_test (unheld name names) (bytes_eq name pair.0) refl none where
  by_test : (holder_of name names ≡ None → AllByRecursion (λ (other : List ℕ × ℕ). other.0 ≢ name) names) → (b : Bool) → bytes_eq name pair.0 ≡ b → cond b (Some pair.1) (holder_of name names) ≡ None
      → AllByRecursion (λ (other : List ℕ × ℕ). other.0 ≢ name) (pair ∷ names)
  by_test rest true is none = absurd (cc)
  by_test rest false is none = (λ same. true≢false (sym (bytes_same name pair.0 (sym same)) ∙ is), rest none)

pub parts_push : (na la ta : ℕ) (actors : List ActorRecord) (timers : List Timer) (names : List (List ℕ × ℕ)) (fresh : ActorRecord) → fresh.mailbox ≡ [] → RecordRules fresh
    → ((name : List ℕ) → fresh.system ≡ Some name → holder_of name names ≡ None)
    → PartRules na la ta actors timers names
    → PartRules (na + 1) la ta (actors ++ fresh ∷ []) timers (option_map_or (λ (name : List ℕ). with_holder names name fresh.number) fresh.system names)
parts_push na la ta actors timers names fresh empty stands free parts = record {
  stands = each_push RecordRules actors fresh parts.stands stands;
  mail = each_push (Mail (na + 1) la) actors fresh
      (each_mono (Mail na la) (Mail (na + 1) la) actors (λ a mail. each_mono (FitsLetter na la) (FitsLetter (na + 1) la) a.mailbox (letter_more na (na + 1) la la (omega arith) (omega arith)) mail) parts.mail)
      (subst (AllByRecursion (FitsLetter (na + 1) la)) (sym empty) tt);
  once = λ m. omega (arith, sum_push (letters_numbered m) actors fresh, ap (λ (letters : List Letter). sum_by (λ (l : Letter). cond (nat_eq l.number m) 1 0) letters) empty, parts.once m);
  timers_fit = each_mono (FitsTimer na ta actors) (FitsTimer (na + 1) ta (actors ++ fresh ∷ [])) timers
      (λ timer fits. timer_more na (na + 1) ta ta actors (actors ++ fresh ∷ []) timer (omega arith) (omega arith) (runs_push actors fresh timer.owner) fits) parts.timers_fit;
  timers_rise = parts.timers_rise;
  timer_ids = parts.timer_ids;
  names_same = same fresh.system refl ∙ sym (names_push actors fresh);
  names_once = once fresh.system refl;
} where
  same : (o : Option (List ℕ)) → fresh.system ≡ o
      → option_map_or (λ (name : List ℕ). with_holder names name fresh.number) o names ≡ names_of actors ++ map (λ (name : List ℕ). (name, fresh.number)) (option_to_list fresh.system)
  same None is = parts.names_same ∙ sym (append-nil (names_of actors)) ∙ ap (λ (o : Option (List ℕ)). names_of actors ++ map (λ (name : List ℕ). (name, fresh.number)) (option_to_list o)) (sym is)
  same (Some name) is =
      ap (λ (others : List (List ℕ × ℕ)). others ++ (name, fresh.number) ∷ []) parts.names_same
      ∙ ap (λ (o : Option (List ℕ)). names_of actors ++ map (λ (name : List ℕ). (name, fresh.number)) (option_to_list o)) (sym is)

  once : (o : Option (List ℕ)) → fresh.system ≡ o → EachPair (λ (a b : List ℕ × ℕ). a.0 ≢ b.0) (option_map_or (λ (name : List ℕ). with_holder names name fresh.number) o names)
  once None is = parts.names_once
  once (Some name) is = pairs_push (λ (a b : List ℕ × ℕ). a.0 ≢ b.0) names (name, fresh.number) parts.names_once (unheld name names (free name is))

-- ---- belongings

-- those of some numbers are left out one after the other
pub fold_without : {X : Type 0} (key : X → ℕ) (gone : List ℕ) (xs : List X) → fold (λ (ys : List X) (n : ℕ). filter (λ (y : X). not (nat_eq (key y) n)) ys) xs gone ≡ filter (λ (x : X). not (is_among gone (key x))) xs
fold_without {X} key [] xs = sym (filter_all (λ x. true) xs (all xs)) where
  all : (ys : List X) → AllByRecursion (λ y. true ≡ true) ys
  all [] = tt
  all (y ∷ ys) = (refl, all ys)
fold_without {X} key (n ∷ gone) xs =
    fold_without key gone (filter (λ (y : X). not (nat_eq (key y) n)) xs)
    ∙ filter_filter (λ (x : X). not (is_among gone (key x))) (λ (y : X). not (nat_eq (key y) n)) xs
    ∙ filter_same (λ (x : X). not (nat_eq (key x) n) && not (is_among gone (key x))) (λ (x : X). not (nat_eq (key x) n || is_among gone (key x))) xs (λ x. both (nat_eq (key x) n) (is_among gone (key x))) where
      both : (a b : Bool) → (not a && not b) ≡ not (a || b)
      both true b = refl
      both false b = refl

stays_true : (b : Bool) → not b ≡ true → b ≡ false
stays_true true is = sym is
stays_true false is = refl

-- the names of a record whose number stays, or is gone
name_stays : (gone : List ℕ) (a : ActorRecord) (o : Option (List ℕ)) → is_among gone a.number ≡ false
    → filter (λ (pair : List ℕ × ℕ). not (is_among gone pair.1)) (map (λ (name : List ℕ). (name, a.number)) (option_to_list o)) ≡ map (λ (name : List ℕ). (name, a.number)) (option_to_list o)
name_stays gone a None kept = refl
name_stays gone a (Some name) kept = ap (λ (b : Bool). cond (not b) ((name, a.number) ∷ []) []) kept

name_goes : (gone : List ℕ) (a : ActorRecord) (o : Option (List ℕ)) → is_among gone a.number ≡ true
    → filter (λ (pair : List ℕ × ℕ). not (is_among gone pair.1)) (map (λ (name : List ℕ). (name, a.number)) (option_to_list o)) ≡ []
name_goes gone a None left = refl
name_goes gone a (Some name) left = ap (λ (b : Bool). cond (not b) ((name, a.number) ∷ []) []) left

-- timers of those that stay
timers_stay : (na ta : ℕ) (gone : List ℕ) (before after : List ActorRecord) (timers : List Timer) → ((n : ℕ) → is_among gone n ≡ false → runs_in before n ≡ true → runs_in after n ≡ true)
    → AllByRecursion (FitsTimer na ta before) timers → AllByRecursion (FitsTimer na ta after) (filter (λ (timer : Timer). not (is_among gone timer.owner)) timers)
timers_stay na ta gone before after timers on fit =
    each_passing (FitsTimer na ta before) (FitsTimer na ta after) (λ (timer : Timer). not (is_among gone timer.owner)) timers
    (λ timer fits stays. timer_more na na ta ta before after timer (omega arith) (omega arith) (on timer.owner (stays_true (is_among gone timer.owner) stays)) fits) fit

-- ---- records removed

module _ (gone : List ℕ) where
  names_filter : (actors : List ActorRecord) → names_of (filter (λ (a : ActorRecord). not (is_among gone a.number)) actors) ≡ filter (λ (pair : List ℕ × ℕ). not (is_among gone pair.1)) (names_of actors)
  names_filter [] = refl
  names_filter (actor ∷ actors) =
      by_test (filter (λ (a : ActorRecord). not (is_among gone a.number)) actors) (names_filter actors) (is_among gone actor.number) refl
      ∙ sym (filter_joined (λ (pair : List ℕ × ℕ). not (is_among gone pair.1)) (name_of actor) (names_of actors)) where
        by_test : (others : List ActorRecord) → names_of others ≡ filter (λ (pair : List ℕ × ℕ). not (is_among gone pair.1)) (names_of actors) → (b : Bool) → is_among gone actor.number ≡ b
            → names_of (cond (not b) (actor ∷ others) others) ≡ filter (λ (pair : List ℕ × ℕ). not (is_among gone pair.1)) (name_of actor) ++ filter (λ (pair : List ℕ × ℕ). not (is_among gone pair.1)) (names_of actors)
        by_test others rest true is = rest ∙ ap (λ (names : List (List ℕ × ℕ)). names ++ filter (λ (pair : List ℕ × ℕ). not (is_among gone pair.1)) (names_of actors)) (sym (name_goes gone actor actor.system is))
        by_test others rest false is =
            ap (λ (names : List (List ℕ × ℕ)). name_of actor ++ names) rest
            ∙ ap (λ (names : List (List ℕ × ℕ)). names ++ filter (λ (pair : List ℕ × ℕ). not (is_among gone pair.1)) (names_of actors)) (sym (name_stays gone actor actor.system is))

  runs_filter : (actors : List ActorRecord) (n : ℕ) → is_among gone n ≡ false → runs_in actors n ≡ true → runs_in (filter (λ (a : ActorRecord). not (is_among gone a.number)) actors) n ≡ true
  runs_filter actors n kept is =
      let a = running actors n is in
      runs_from (filter (λ (z : ActorRecord). not (is_among gone z.number)) actors) n a.0
      (look_filter number_of (λ m. not (is_among gone m)) actors n ∙ ap (λ (b : Bool). if not b then record_in actors n else None) kept ∙ a.1) a.2 a.3

  pub parts_gone : (na la ta : ℕ) (actors : List ActorRecord) (timers : List Timer) (names : List (List ℕ × ℕ)) → PartRules na la ta actors timers names
      → PartRules na la ta (filter (λ (a : ActorRecord). not (is_among gone a.number)) actors) (fold (λ (others : List Timer) (n : ℕ). without_owner n others) timers gone) (fold without_holder names gone)
  parts_gone na la ta actors timers names parts =
      let left_timers = fold_without (λ (timer : Timer). timer.owner) gone timers in
      let left_names = fold_without (λ (pair : List ℕ × ℕ). pair.1) gone names in
      record {
        stands = each_filter RecordRules (λ (a : ActorRecord). not (is_among gone a.number)) actors parts.stands;
        mail = each_filter (Mail na la) (λ (a : ActorRecord). not (is_among gone a.number)) actors parts.mail;
        once = λ m. omega (arith, sum_filter_le (letters_numbered m) (λ (a : ActorRecord). not (is_among gone a.number)) actors, parts.once m);
        timers_fit = subst (AllByRecursion (FitsTimer na ta (filter (λ (a : ActorRecord). not (is_among gone a.number)) actors))) (sym left_timers)
            (timers_stay na ta gone actors (filter (λ (a : ActorRecord). not (is_among gone a.number)) actors) timers (runs_filter actors) parts.timers_fit);
        timers_rise = subst (Rises (λ (timer : Timer). timer.order)) (sym left_timers) (pairs_filter (λ (a b : Timer). a.order < b.order) (λ (timer : Timer). not (is_among gone timer.owner)) timers parts.timers_rise);
        timer_ids = subst (EachPair (λ (a b : Timer). AreOfOneId a b → ⊥)) (sym left_timers) (pairs_filter (λ (a b : Timer). AreOfOneId a b → ⊥) (λ (timer : Timer). not (is_among gone timer.owner)) timers parts.timer_ids);
        names_same = left_names ∙ ap (filter (λ (pair : List ℕ × ℕ). not (is_among gone pair.1))) parts.names_same ∙ sym (names_filter actors);
        names_once = subst (EachPair (λ (a b : List ℕ × ℕ). a.0 ≢ b.0)) (sym left_names) (pairs_filter (λ (a b : List ℕ × ℕ). a.0 ≢ b.0) (λ (pair : List ℕ × ℕ). not (is_among gone pair.1)) names parts.names_once);
      }

-- ---- records ended

-- what becomes of a record at the end of an actor
pub end_cases : (Q : ActorRecord → Type 0) (gone : List ℕ) (n : ℕ) (end : ActorRecord → ActorRecord) (a : ActorRecord) → (a.number ≡ n → Q (end a))
    → (a.number ≢ n → is_among gone a.number ≡ true → is_active a ≡ true → Q (ended_record status.Stopped a)) → (a.number ≢ n → is_among gone a.number ≡ true → is_active a ≡ false → Q a)
    → (a.number ≢ n → is_among gone a.number ≡ false → Q a) → Q (record_after_end gone n end a)
end_cases Q gone n end a ends stops ended other = by_number (nat_eq a.number n) refl where
  by_status : (b : Bool) → is_active a ≡ b → a.number ≢ n → is_among gone a.number ≡ true → Q (if b then ended_record status.Stopped a else a)
  by_status true active differs below = stops differs below active
  by_status false inactive differs below = ended differs below inactive

  by_place : (b : Bool) → is_among gone a.number ≡ b → a.number ≢ n → Q (if b then stopped_record a else a)
  by_place true below differs = by_status (is_active a) refl differs below
  by_place false beside differs = other differs beside

  by_number : (b : Bool) → nat_eq a.number n ≡ b → Q (if b then end a else if is_among gone a.number then stopped_record a else a)
  by_number true is = ends (eqb-true a.number n is)
  by_number false is = by_place (is_among gone a.number) refl (eqb-false a.number n is)

-- an actor below one that ended is as one that is no longer active has to be
stands_stopped : (a : ActorRecord) → is_active a ≡ true → RecordRules a → RecordRules (ended_record status.Stopped a)
stands_stopped a active stands = record {
  ended = λ is. record { letters = refl; name = refl };
  system = tt;
  output = λ other. stands.output (λ done. true≢false (sym active ∙ ap (λ s. is_active_status s) done));
  error = λ other. stands.error (λ done. true≢false (sym active ∙ ap (λ s. is_active_status s) done));
  values = stands.values;
  mailbox = tt;
}

module _ (gone : List ℕ) (n : ℕ) (end : ActorRecord → ActorRecord) (same_number : (a : ActorRecord) → (end a).number ≡ a.number) (empty : (a : ActorRecord) → (end a).mailbox ≡ []) (unnamed : (a : ActorRecord) → (end a).system ≡ None)
    (ended_below : is_among gone n ≡ true) where
  abbrev after : ActorRecord → ActorRecord
  after = record_after_end gone n end

  pub number_after : (a : ActorRecord) → (after a).number ≡ a.number
  number_after a = end_cases (λ (z : ActorRecord). z.number ≡ a.number) gone n end a (λ is. same_number a) (λ other below active. refl) (λ other below inactive. refl) (λ other beside. refl)

  -- an actor that isn't below stays as it is
  pub stays_after : (a : ActorRecord) → is_among gone a.number ≡ false → after a ≡ a
  stays_after a kept = end_cases (λ (z : ActorRecord). z ≡ a) gone n end a (λ is. absurd (true≢false (sym ended_below ∙ ap (is_among gone) (sym is) ∙ kept)))
      (λ other below active. absurd (true≢false (sym below ∙ kept))) (λ other below inactive. refl) (λ other beside. refl)

  name_after : (a : ActorRecord) → RecordRules a → name_of (after a) ≡ filter (λ (pair : List ℕ × ℕ). not (is_among gone pair.1)) (name_of a)
  name_after a stands = end_cases (λ (z : ActorRecord). name_of z ≡ filter (λ (pair : List ℕ × ℕ). not (is_among gone pair.1)) (name_of a)) gone n end a
      (λ is. ap (λ (o : Option (List ℕ)). map (λ (name : List ℕ). (name, (end a).number)) (option_to_list o)) (unnamed a) ∙ sym (name_goes gone a a.system (ap (is_among gone) is ∙ ended_below)))
      (λ other below active. sym (name_goes gone a a.system below))
      (λ other below inactive. ap (λ (o : Option (List ℕ)). map (λ (name : List ℕ). (name, a.number)) (option_to_list o)) ((stands.ended inactive).name) ∙ sym (name_goes gone a a.system below))
      (λ other beside. sym (name_stays gone a a.system beside))

  names_after : (actors : List ActorRecord) → AllByRecursion RecordRules actors → names_of (map after actors) ≡ filter (λ (pair : List ℕ × ℕ). not (is_among gone pair.1)) (names_of actors)
  names_after [] stand = refl
  names_after (a ∷ actors) stand =
      ap (λ (names : List (List ℕ × ℕ)). names ++ names_of (map after actors)) (name_after a stand.0)
      ∙ ap (λ (names : List (List ℕ × ℕ)). filter (λ (pair : List ℕ × ℕ). not (is_among gone pair.1)) (name_of a) ++ names) (names_after actors stand.1)
      ∙ sym (filter_joined (λ (pair : List ℕ × ℕ). not (is_among gone pair.1)) (name_of a) (names_of actors))

  mail_after : (P : Letter → Type 0) (a : ActorRecord) → AllByRecursion P a.mailbox → AllByRecursion P (after a).mailbox
  mail_after P a mail = end_cases (λ (z : ActorRecord). AllByRecursion P z.mailbox) gone n end a (λ is. subst (AllByRecursion P) (sym (empty a)) tt) (λ other below active. tt) (λ other below inactive. mail) (λ other beside. mail)

  numbered_after : (m : ℕ) (a : ActorRecord) → letters_numbered m (after a) ≤ letters_numbered m a
  numbered_after m a = end_cases (λ (z : ActorRecord). letters_numbered m z ≤ letters_numbered m a) gone n end a
      (λ is. omega (arith, ap (λ (letters : List Letter). sum_by (λ (l : Letter). cond (nat_eq l.number m) 1 0) letters) (empty a))) (λ other below active. omega arith) (λ other below inactive. omega arith) (λ other beside. omega arith)

  pub mailbox_after : (a : ActorRecord) → length (after a).mailbox ≤ length a.mailbox
  mailbox_after a = end_cases (λ (z : ActorRecord). length z.mailbox ≤ length a.mailbox) gone n end a
      (λ is. omega (arith, ap length (empty a))) (λ other below active. omega arith) (λ other below inactive. omega arith) (λ other beside. omega arith)

  pub parts_end : (na la ta : ℕ) (actors : List ActorRecord) (timers : List Timer) (names : List (List ℕ × ℕ)) → Rises number_of actors
      → ((a : ActorRecord) → record_in actors n ≡ Some a → RecordRules a → RecordRules (end a)) → PartRules na la ta actors timers names
      → PartRules na la ta (map after actors) (fold (λ (others : List Timer) (m : ℕ). without_owner m others) timers gone) (fold without_holder names gone)
  parts_end na la ta actors timers names rising stands_end parts =
      let left_timers = fold_without (λ (timer : Timer). timer.owner) gone timers in
      let left_names = fold_without (λ (pair : List ℕ × ℕ). pair.1) gone names in
      record {
        stands = each_map RecordRules after actors (look_each number_of (λ (a : ActorRecord). RecordRules (after a)) actors rising (λ m a seen. (
            let stands : RecordRules a = each_look number_of RecordRules actors parts.stands m a seen in
            end_cases RecordRules gone n end a (λ is. stands_end a (ap (record_in actors) (sym is ∙ look_number number_of actors m a seen) ∙ seen) stands)
            (λ other below active. stands_stopped a active stands) (λ other below inactive. stands) (λ other beside. stands))));
        mail = each_map (Mail na la) after actors (each_mono (Mail na la) (λ (a : ActorRecord). Mail na la (after a)) actors (mail_after (FitsLetter na la)) parts.mail);
        once = λ m. omega (arith, sum_map_le (letters_numbered m) after actors (numbered_after m), parts.once m);
        timers_fit = subst (AllByRecursion (FitsTimer na ta (map after actors))) (sym left_timers)
            (timers_stay na ta gone actors (map after actors) timers (λ m kept. runs_map after actors number_after m
            (λ a seen active own. (let same : after a ≡ a = stays_after a (ap (is_among gone) (look_number number_of actors m a seen) ∙ kept) in
            (ap is_active same ∙ active, ap (λ (z : ActorRecord). is_some z.own) same ∙ own)))) parts.timers_fit);
        timers_rise = subst (Rises (λ (timer : Timer). timer.order)) (sym left_timers) (pairs_filter (λ (a b : Timer). a.order < b.order) (λ (timer : Timer). not (is_among gone timer.owner)) timers parts.timers_rise);
        timer_ids = subst (EachPair (λ (a b : Timer). AreOfOneId a b → ⊥)) (sym left_timers) (pairs_filter (λ (a b : Timer). AreOfOneId a b → ⊥) (λ (timer : Timer). not (is_among gone timer.owner)) timers parts.timer_ids);
        names_same = left_names ∙ ap (filter (λ (pair : List ℕ × ℕ). not (is_among gone pair.1))) parts.names_same ∙ sym (names_after actors parts.stands);
        names_once = subst (EachPair (λ (a b : List ℕ × ℕ). a.0 ≢ b.0)) (sym left_names) (pairs_filter (λ (a b : List ℕ × ℕ). a.0 ≢ b.0) (λ (pair : List ℕ × ℕ). not (is_among gone pair.1)) names parts.names_once);
      }
