-- What a step's notes say once an actor is removed with all below it, or has ended.
use Rattle.std.proofs.Common.{◌≡◌, ◌≢◌, ◌⊎◌, inl, inr, ℕ, suc, ◌+◌, ◌<◌, ◌≤◌, Bool, true, false, cond, ◌&&◌, ◌||◌, not, true≢false, List, [], ◌∷◌, ◌++◌, length, map, refl, sym, ap, subst, ◌∙◌, arith}
use Rattle.std.specs.Prelude.{Option, None, Some, filter, fold, nat_eq, sum_by, if◌then◌else◌}
use Rattle.std.specs.List.{AllByRecursion, list_any}
use Rattle.std.specs.Option.{option_map_or}
use Rattle.std.proofs.lemmas.Bool.{cases_Bool, eqb-true, eq-eqb, ne_eqb}
use Rattle.std.proofs.lemmas.List.Sums.{sum_by-cons}
use Rattle.office_types.specs.declared.office.ActorRecord.{ActorRecord}
use Rattle.office_types.specs.declared.office.OfficeState.{OfficeState}
use Rattle.office_types.specs.declared.office.Status.TheVariants as status
use Rattle.office_types.specs.declared.office.Timer.{Timer}
use Rattle.office_types.specs.Ends.{after_end, ended_record, is_among, record_after_end, removed, stopped_record, subtree_of}
use Rattle.office_types.specs.Mailboxes.{waiting_letters}
use Rattle.office_types.specs.Records.{is_active}
use Rattle.office_types.specs.SystemNames.{without_holder}
use Rattle.office_types.specs.Timers.{without_owner}
use Rattle.actor_tree.specs.Noted.{AreGone, AreRecordsNoted, Face, Noted, all_faces, faces_of, made_faces, next_of, without_actor, without_record}
use Rattle.actor_tree.proofs.FaceLemmas.{all_rise, face_number, made_below, made_from}
use Rattle.actor_tree.proofs.NoteListLemmas.{each_filter, each_join, each_mono, filter_all, filter_filter, filter_same, rises_filter}
use Rattle.actor_tree.proofs.NotedSubtreeLemmas.{IsNewer, add_face, added, among_itself, among_one, below, below_closed, below_from, subtree_is}

-- ---- one after the other

-- those of some numbers are left out one after the other
pub fold_without : {X : Type 0} (key : X → ℕ) (gone : List ℕ) (xs : List X) → fold (λ (ys : List X) (n : ℕ). filter (λ (y : X). not (nat_eq (key y) n)) ys) xs gone ≡ filter (λ (x : X). not (is_among gone (key x))) xs
fold_without {X} key [] xs = sym (filter_all (λ x. true) xs (all xs)) where
  all : (ys : List X) → AllByRecursion (λ y. true ≡ true) ys
  all [] = tt
  all (y ∷ ys) = (refl, all ys)
fold_without {X} key (n ∷ gone) xs =
    fold_without key gone (filter (λ (y : X). not (nat_eq (key y) n)) xs)
    ∙ filter_filter (λ (x : X). not (is_among gone (key x))) (λ (y : X). not (nat_eq (key y) n)) xs
    ∙ filter_same (λ (x : X). not (nat_eq (key x) n) && not (is_among gone (key x))) (λ (x : X). not (nat_eq (key x) n || is_among gone (key x))) xs (λ x. both (nat_eq (key x) n) (is_among gone (key x))) where
      both : (a b : Bool) → (not a && not b) ≡ not (a || b)
      both true b = refl
      both false b = refl

fold_office : (numbers : List ℕ) (office : OfficeState) → fold without_actor office numbers ≡ record office {
  actors = fold (λ (actors : List ActorRecord) (n : ℕ). without_record n actors) office.actors numbers;
  timers = fold (λ (timers : List Timer) (n : ℕ). without_owner n timers) office.timers numbers;
  names = fold without_holder office.names numbers;
}
fold_office [] office = refl
fold_office (n ∷ numbers) office = fold_office numbers (without_actor office n)

-- who is removed is gone with all below it, one by one
pub removed_is : (office : OfficeState) (child : ℕ) → fold without_actor office (subtree_of office child) ≡ removed child office
unfolding removed
removed_is office child =
    let gone : List ℕ = subtree_of office child in
    fold_office gone office
    ∙ ap (λ (actors : List ActorRecord). record office { actors = actors; timers = fold (λ (timers : List Timer) (n : ℕ). without_owner n timers) office.timers gone; names = fold without_holder office.names gone })
    (fold_without (λ (a : ActorRecord). a.number) gone office.actors)

-- ---- who is below

among_faces : (P : ℕ → Type 0) (faces : List Face) (found : List ℕ) → AllByRecursion (λ (face : Face). P face.number) faces → ((n : ℕ) → is_among found n ≡ true → P n) → (n : ℕ) → is_among (below faces found) n ≡ true → P n
among_faces P [] found all at n is = at n is
among_faces P (face ∷ faces) found all at n is =
    among_faces P faces (add_face found face) all.1 (λ m e. elim (added found face m e) [
      | inl before ↦ at m before
      | inr here ↦ subst P (sym here.0) all.0
    ]) n is

each_kept : {X : Type 0} (P : X → Type 0) (keep : X → Bool) (xs : List X) → AllByRecursion P (filter keep xs) → AllByRecursion (λ x. keep x ≡ true → P x) xs
each_kept P keep [] all = tt
each_kept {X} P keep (x ∷ xs) all = by_test (each_kept P keep xs) (keep x) refl all where
  by_test : (AllByRecursion P (filter keep xs) → AllByRecursion (λ y. keep y ≡ true → P y) xs) → (b : Bool) → keep x ≡ b → AllByRecursion P (cond b (x ∷ filter keep xs) (filter keep xs))
      → (keep x ≡ true → P x) × AllByRecursion (λ y. keep y ≡ true → P y) xs
  by_test rest true e all = (λ kept. all.0, rest all.1)
  by_test rest false e all = (λ kept. absurd (true≢false (sym kept ∙ e)), rest all)

module _ (before office : OfficeState) (actor : ℕ) (notes other : Noted) (is : AreRecordsNoted before actor notes office.actors) (gone : AreGone before actor notes) (newer : AllByRecursion IsNewer (all_faces before actor notes))
    (child : ℕ) (later : actor < child) (given : child < next_of before notes) (machines : other.machines ≡ notes.machines) (too : (n : ℕ) → other.gone n ≡ (is_among (subtree_of office child) n || notes.gone n)) where
  same_subtree : subtree_of office child ≡ below (filter (λ (face : Face). not (notes.gone face.number)) (all_faces before actor notes)) (child ∷ [])
  same_subtree = subtree_is office child ∙ ap (λ (faces : List Face). below faces (child ∷ [])) is.faces

  all_given : AllByRecursion (λ (face : Face). face.number < next_of before notes) (all_faces before actor notes)
  all_given =
      each_join (λ (face : Face). face.number < next_of before notes) (faces_of before.actors) (made_faces actor before.next_actor notes.machines)
      (each_mono (λ (face : Face). face.number < before.next_actor) (λ (face : Face). face.number < next_of before notes) (faces_of before.actors) (λ face less. omega arith) is.given)
      (made_below actor before.next_actor notes.machines)

  pub removed_later : (n : ℕ) → is_among (subtree_of office child) n ≡ true → actor < n
  removed_later n e =
      let low : child ≤ n = below_from (filter (λ (face : Face). not (notes.gone face.number)) (all_faces before actor notes)) (child ∷ []) child
      (each_filter IsNewer (λ (face : Face). not (notes.gone face.number)) (all_faces before actor notes) newer) (λ m first. (let same : m ≡ child = among_one child m first in omega arith)) n
      (ap (λ (ns : List ℕ). is_among ns n) (sym same_subtree) ∙ e) in
      omega arith

  removed_given : (n : ℕ) → is_among (subtree_of office child) n ≡ true → n < next_of before notes
  removed_given n e =
      among_faces (λ (m : ℕ). m < next_of before notes) (filter (λ (face : Face). not (notes.gone face.number)) (all_faces before actor notes)) (child ∷ [])
      (each_filter (λ (face : Face). face.number < next_of before notes) (λ (face : Face). not (notes.gone face.number)) (all_faces before actor notes) all_given)
      (λ m first. (let same : m ≡ child = among_one child m first in omega arith)) n (ap (λ (ns : List ℕ). is_among ns n) (sym same_subtree) ∙ e)

  whole : AllByRecursion (λ (face : Face). not (notes.gone face.number) ≡ true → (p : ℕ) → face.parent ≡ Some p → is_among (subtree_of office child) p ≡ true → is_among (subtree_of office child) face.number ≡ true) (all_faces before actor notes)
  whole =
      each_kept (λ (face : Face). (p : ℕ) → face.parent ≡ Some p → is_among (subtree_of office child) p ≡ true → is_among (subtree_of office child) face.number ≡ true) (λ (face : Face). not (notes.gone face.number)) (all_faces before actor notes)
      (subst (λ (ns : List ℕ). AllByRecursion (λ (face : Face). (p : ℕ) → face.parent ≡ Some p → is_among ns p ≡ true → is_among ns face.number ≡ true) (filter (λ (face : Face). not (notes.gone face.number)) (all_faces before actor notes))) (sym same_subtree)
      (below_closed (filter (λ (face : Face). not (notes.gone face.number)) (all_faces before actor notes)) (child ∷ [])
      (rises_filter face_number (λ (face : Face). not (notes.gone face.number)) (all_faces before actor notes) (all_rise before actor notes is.rise is.given))
      (each_filter IsNewer (λ (face : Face). not (notes.gone face.number)) (all_faces before actor notes) newer)))

  both_each : (P Q : Face → Type 0) (faces : List Face) → AllByRecursion P faces → AllByRecursion Q faces → AllByRecursion (λ (face : Face). P face × Q face) faces
  both_each P Q [] p q = tt
  both_each P Q (face ∷ faces) p q = ((p.0, q.0), both_each P Q faces p.1 q.1)

  either_gone : (a b : Bool) → (a || b) ≡ true → (a ≡ true) ⊎ (b ≡ true)
  either_gone true b e = inl refl
  either_gone false b e = inr e

  pub gone_stopped : AreGone before actor other
  gone_stopped = record {
    after = λ n e. elim (either_gone (is_among (subtree_of office child) n) (notes.gone n) (sym (too n) ∙ e)) [
      | inl below_it ↦ (removed_later n below_it, subst (λ (ms : List Bool). n < before.next_actor + length ms) (sym machines) (removed_given n below_it))
      | inr earlier ↦ (let was = gone.after n earlier in (was.0, subst (λ (ms : List Bool). n < before.next_actor + length ms) (sym machines) was.1))
    ];
    below = subst (λ (ms : List Bool). AllByRecursion (λ (face : Face). (parent : ℕ) → face.parent ≡ Some parent → other.gone parent ≡ true → other.gone face.number ≡ true) (faces_of before.actors ++ made_faces actor before.next_actor ms)) (sym machines)
        (each_mono
        (λ (face : Face). (not (notes.gone face.number) ≡ true → (p : ℕ) → face.parent ≡ Some p → is_among (subtree_of office child) p ≡ true → is_among (subtree_of office child) face.number ≡ true)
        × ((p : ℕ) → face.parent ≡ Some p → notes.gone p ≡ true → notes.gone face.number ≡ true))
        (λ (face : Face). (parent : ℕ) → face.parent ≡ Some parent → other.gone parent ≡ true → other.gone face.number ≡ true) (all_faces before actor notes) keeps
        (both_each (λ (face : Face). not (notes.gone face.number) ≡ true → (p : ℕ) → face.parent ≡ Some p → is_among (subtree_of office child) p ≡ true → is_among (subtree_of office child) face.number ≡ true)
        (λ (face : Face). (p : ℕ) → face.parent ≡ Some p → notes.gone p ≡ true → notes.gone face.number ≡ true) (all_faces before actor notes) whole gone.below));
  } where
    was_gone : (face : Face) → notes.gone face.number ≡ true → other.gone face.number ≡ true
    was_gone face e = too face.number ∙ ap (λ (b : Bool). is_among (subtree_of office child) face.number || b) e ∙ last (is_among (subtree_of office child) face.number) where
      last : (b : Bool) → (b || true) ≡ true
      last true = refl
      last false = refl

    is_below : (face : Face) → is_among (subtree_of office child) face.number ≡ true → other.gone face.number ≡ true
    is_below face e = too face.number ∙ ap (λ (b : Bool). b || notes.gone face.number) e

    keeps : (face : Face)
        → (not (notes.gone face.number) ≡ true → (p : ℕ) → face.parent ≡ Some p → is_among (subtree_of office child) p ≡ true → is_among (subtree_of office child) face.number ≡ true)
        × ((p : ℕ) → face.parent ≡ Some p → notes.gone p ≡ true → notes.gone face.number ≡ true)
        → (parent : ℕ) → face.parent ≡ Some parent → other.gone parent ≡ true → other.gone face.number ≡ true
    keeps face facts parent e gone_parent = elim (either_gone (is_among (subtree_of office child) parent) (notes.gone parent) (sym (too parent) ∙ gone_parent)) [
      | inl below_it ↦ elim (cases_Bool (notes.gone face.number)) [
        | inl was ↦ was_gone face was
        | inr stood ↦ is_below face (facts.0 (ap not stood) parent e below_it)
      ]
      | inr earlier ↦ was_gone face (facts.1 parent e earlier)
    ]

-- ---- ends

-- as many letters wait after an end as if all that end were removed
pub waiting_ended : (numbers : List ℕ) (actor : ℕ) (end : ActorRecord → ActorRecord) → ((a : ActorRecord) → (end a).mailbox ≡ []) → is_among numbers actor ≡ true → (actors : List ActorRecord)
    → AllByRecursion (λ (a : ActorRecord). is_active a ≡ false → a.mailbox ≡ []) actors
    → sum_by (λ (a : ActorRecord). length a.mailbox) (filter (λ (a : ActorRecord). not (is_among numbers a.number)) actors) ≡ sum_by (λ (a : ActorRecord). length a.mailbox) (map (record_after_end numbers actor end) actors)
waiting_ended numbers actor end empties there [] quiet = refl
waiting_ended numbers actor end empties there (a ∷ actors) quiet = by_tests (waiting_ended numbers actor end empties there actors quiet.1) (is_among numbers a.number) refl (nat_eq a.number actor) refl where
  stopped : (b : Bool) → is_active a ≡ b → length (if b then ended_record status.Stopped a else a).mailbox ≡ 0
  stopped true e = refl
  stopped false e = ap (λ ms. length ms) (quiet.0 e)

  by_tests : sum_by (λ (z : ActorRecord). length z.mailbox) (filter (λ (z : ActorRecord). not (is_among numbers z.number)) actors) ≡ sum_by (λ (z : ActorRecord). length z.mailbox) (map (record_after_end numbers actor end) actors)
      → (b : Bool) → is_among numbers a.number ≡ b → (c : Bool) → nat_eq a.number actor ≡ c
      → sum_by (λ (z : ActorRecord). length z.mailbox) (cond (not b) (a ∷ filter (λ (z : ActorRecord). not (is_among numbers z.number)) actors) (filter (λ (z : ActorRecord). not (is_among numbers z.number)) actors))
      ≡ sum_by (λ (z : ActorRecord). length z.mailbox) ((if c then end a else if b then stopped_record a else a) ∷ map (record_after_end numbers actor end) actors)
  by_tests rest true e true f = let none : length (end a).mailbox ≡ 0 = ap (λ ms. length ms) (empties a) in omega (arith, rest, none, sum_by-cons (λ (z : ActorRecord). length z.mailbox) (end a) (map (record_after_end numbers actor end) actors))
  by_tests rest true e false f =
      omega (arith, rest, stopped (is_active a) refl, sum_by-cons (λ (z : ActorRecord). length z.mailbox) (if is_active a then ended_record status.Stopped a else a) (map (record_after_end numbers actor end) actors))
  by_tests rest false e true f = absurd (true≢false (sym there ∙ ap (is_among numbers) (sym (eqb-true a.number actor f)) ∙ e))
  by_tests rest false e false f =
      omega (arith, rest, sum_by-cons (λ (z : ActorRecord). length z.mailbox) a (map (record_after_end numbers actor end) actors), sum_by-cons (λ (z : ActorRecord). length z.mailbox) a (filter (λ (z : ActorRecord). not (is_among numbers z.number)) actors))
