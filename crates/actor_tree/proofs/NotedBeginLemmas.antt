-- What the notes say of an office in which the step's actor has taken its head letter, and nothing else happened.
use Rattle.std.proofs.Common.{◌≡◌, ◌≢◌, inl, inr, ℕ, suc, ◌+◌, ◌-◌, ◌<◌, ◌≤◌, Bool, true, false, cond, not, true≢false, List, [], ◌∷◌, ◌++◌, drop, length, map, refl, sym, ap, subst, ◌∙◌, arith}
use Rattle.std.specs.Prelude.{Option, None, Some, filter, nat_eq, sum_by, unwrap_or, if◌then◌else◌}
use Rattle.std.specs.List.{AllByRecursion, list_any}
use Rattle.std.specs.Map.{lookup}
use Rattle.std.specs.Option.{option_and_then, option_map, option_map_or}
use Rattle.std.specs.Str.{bytes_eq}
use Rattle.std.proofs.lemmas.Bool.{cases_eq, eq-eqb, ne_eqb}
use Rattle.std.proofs.lemmas.List.{append-nil}
use Rattle.office_types.specs.declared.office.ActorRecord.{ActorRecord}
use Rattle.office_types.specs.declared.office.OfficeState.{OfficeState}
use Rattle.office_types.specs.Definitions.{OfficeDefinitions}
use Rattle.office_types.specs.Mailboxes.{waiting_letters, without_head}
use Rattle.office_types.specs.Records.{active_actors, is_active, is_ready}
use Rattle.office_types.specs.Timers.{has_id}
use Rattle.office_types.specs.ValidOffice.{IsValidOffice}
use Rattle.actor_tree.specs.HeldOffice.{timers_owned_by}
use Rattle.actor_tree.specs.Noted.{AreGone, AreKidsNoted, AreNamesNoted, AreRecordsNoted, AreTimersNoted, Face, Noted, all_faces, face_of, faces_of, has_timer, kid_among, kin_of, letters_at, made_faces, next_of, taken_by}
use Rattle.actor_tree.proofs.FaceLemmas.{record_number, rises_from, face_number}
use Rattle.actor_tree.proofs.NoteListLemmas.{change_at, each_mono, filter_all, look, look_at, look_beside, rises_through, sum_at}
use Rattle.actor_tree.proofs.NotedKidLemmas.{kin_changed}
use Rattle.actor_tree.proofs.NotedRecordLemmas.{quiet_kept}
use Rattle.actor_tree.proofs.NotedValidLemmas.{ready_given, ready_record, valid_given, valid_quiet, valid_rise, valid_timers}

all_true : {X : Type 0} (xs : List X) (p : X → Bool) → ((x : X) → p x ≡ true) → AllByRecursion (λ x. p x ≡ true) xs
all_true [] p each = tt
all_true (x ∷ xs) p each = (each x, all_true xs p each)

-- nothing is noted yet
pub record IsBlank (notes : Noted) : Type 0 where
  pub gone : (n : ℕ) → notes.gone n ≡ false
  pub machines : notes.machines ≡ []
  pub kids : (id : List ℕ) → notes.kids id ≡ None
  pub timer_ids : (id : List ℕ) → notes.timer_ids id ≡ None
  pub names : notes.names ≡ []
  pub sent : (n : ℕ) → notes.sent n ≡ 0

module _ (definitions : OfficeDefinitions) (before : OfficeState) (actor : ℕ) (notes : Noted) (valid : IsValidOffice definitions before) (ready : is_ready before actor ≡ true) (blank : IsBlank notes) where
  abbrev taken : ActorRecord → ActorRecord
  taken = λ (a : ActorRecord). record a { mailbox = drop 1 a.mailbox }

  abbrev after : List ActorRecord
  after = map (change_at record_number actor taken) before.actors

  same_faces : (xs : List ActorRecord) → faces_of (map (change_at record_number actor taken) xs) ≡ faces_of xs
  same_faces [] = refl
  same_faces (a ∷ xs) = ap (λ (face : Face). face ∷ faces_of (map (change_at record_number actor taken) xs)) (by_test (nat_eq a.number actor)) ∙ ap (λ (faces : List Face). face_of a ∷ faces) (same_faces xs) where
    by_test : (b : Bool) → face_of (if b then taken a else a) ≡ face_of a
    by_test true = refl
    by_test false = refl

  no_more : (xs : List ActorRecord) → AllByRecursion (λ (a : ActorRecord). a.number ≡ actor → (is_active a ≡ false → a.mailbox ≡ []) → is_active (taken a) ≡ false → (taken a).mailbox ≡ []) xs
  no_more [] = tt
  no_more (a ∷ xs) = (λ at quiet ended. ap (drop 1) (quiet ended), no_more xs)

  head_gone : letters_at after actor + 1 ≡ letters_at before.actors actor
  head_gone =
      let found = ready_record definitions before valid actor ready in
      let now : letters_at after actor ≡ length (drop 1 found.0.mailbox) =
      ap (λ (o : Option ActorRecord). option_map_or (λ (a : ActorRecord). length a.mailbox) o 0) (look_at record_number actor taken (λ a. refl) before.actors ∙ ap (option_map taken) found.1) in
      let was : letters_at before.actors actor ≡ length found.0.mailbox = ap (λ (o : Option ActorRecord). option_map_or (λ (a : ActorRecord). length a.mailbox) o 0) found.1 in
      omega (arith, now, was, one_less found.0.mailbox found.4) where
        one_less : {X : Type 0} (xs : List X) → 0 < length xs → length (drop 1 xs) + 1 ≡ length xs
        one_less [] some = absurd (omega (arith, some))
        one_less (x ∷ xs) some = omega arith

  pub records_begun : AreRecordsNoted before actor notes after
  records_begun = record {
    rise = valid_rise definitions before valid;
    given = valid_given definitions before valid;
    begun = omega (arith, head_gone);
    faces =
        same_faces before.actors ∙ sym (append-nil (faces_of before.actors))
        ∙ ap (λ (ms : List Bool). faces_of before.actors ++ made_faces actor before.next_actor ms) (sym blank.machines)
        ∙ sym (filter_all (λ (face : Face). not (notes.gone face.number)) (all_faces before actor notes) (all_true (all_faces before actor notes) (λ (face : Face). not (notes.gone face.number)) (λ face. ap not (blank.gone face.number))));
    quiet = quiet_kept actor taken before.actors (valid_quiet definitions before valid) (no_more before.actors);
    letters = λ n left. elim (cases_eq n actor) [
      | inl same ↦ (
          let one : taken_by actor n ≡ 1 = ap {B = ℕ} (λ (b : Bool). if b then 1 else 0) (eq-eqb n actor same) in
          let now : letters_at after n ≡ letters_at after actor = ap (letters_at after) same in
          let was : letters_at before.actors n ≡ letters_at before.actors actor = ap (letters_at before.actors) same in
          omega (arith, one, now, was, head_gone, blank.sent n))
      | inr differs ↦ (
          let none : taken_by actor n ≡ 0 = ap {B = ℕ} (λ (b : Bool). if b then 1 else 0) (ne_eqb n actor differs) in
          let same : letters_at after n ≡ letters_at before.actors n = ap (λ (o : Option ActorRecord). option_map_or (λ (a : ActorRecord). length a.mailbox) o 0) (look_beside record_number actor n taken (λ a. refl) before.actors differs) in
          omega (arith, none, same, blank.sent n))
    ];
  }

  pub kids_begun : AreKidsNoted before actor notes after
  kids_begun = record {
    above = λ n less. kin_changed actor taken before.actors n (λ a. refl) (λ a. refl);
    kids = λ id. same_kids id (look record_number before.actors actor) (look_at record_number actor taken (λ a. refl) before.actors) ∙ ap (λ (o : Option (Option ℕ)). unwrap_or o (kid_among before.actors actor id)) (sym (blank.kids id));
    after = λ id n e. absurd (none id n (sym (blank.kids id) ∙ e));
  } where
    none : (id : List ℕ) (n : ℕ) → ◌≡◌ {A = Option (Option ℕ)} None (Some (Some n)) → ⊥
    none id n e = absurd (cc)

    same_kids : (id : List ℕ) (o : Option ActorRecord) → look record_number after actor ≡ option_map taken o → kid_among after actor id ≡ option_and_then (λ (a : ActorRecord). lookup (bytes_eq id) a.kids) o
    same_kids id None e = ap (option_and_then (λ (a : ActorRecord). lookup (bytes_eq id) a.kids)) e
    same_kids id (Some a) e = ap (option_and_then (λ (z : ActorRecord). lookup (bytes_eq id) z.kids)) e

  pub timers_begun : AreTimersNoted before actor notes before.timers
  timers_begun = record {
    own = λ id. valid_timers definitions before valid actor id ∙ ap (λ (o : Option Bool). if unwrap_or o (list_any (has_id actor id) before.timers) then 1 else 0) (sym (blank.timer_ids id));
    others = λ n differs. ap (λ (b : Bool). if b then 0 else timers_owned_by n before.timers) (sym (blank.gone n));
  }

  pub names_begun : AreNamesNoted before notes before.names
  names_begun = record {
    same =
        sym (filter_all (λ (h : List ℕ × ℕ). not (notes.gone h.1)) before.names (all_true before.names (λ (h : List ℕ × ℕ). not (notes.gone h.1)) (λ h. ap not (blank.gone h.1))))
        ∙ sym (append-nil (filter (λ (h : List ℕ × ℕ). not (notes.gone h.1)) before.names))
        ∙ ap (λ (hs : List (List ℕ × ℕ)). filter (λ (h : List ℕ × ℕ). not (notes.gone h.1)) before.names ++ hs) (sym blank.names);
    newer = subst (AllByRecursion (λ (h : List ℕ × ℕ). h.1 < next_of before notes)) (sym blank.names) tt;
  }

  pub gone_begun : AreGone before actor notes
  gone_begun = record {
    after = λ n gone. absurd (true≢false (sym gone ∙ blank.gone n));
    below = nobody (all_faces before actor notes);
  } where
    nobody : (faces : List Face) → AllByRecursion (λ (face : Face). (parent : ℕ) → face.parent ≡ Some parent → notes.gone parent ≡ true → notes.gone face.number ≡ true) faces
    nobody [] = tt
    nobody (face ∷ faces) = (λ parent e gone. absurd (true≢false (sym gone ∙ blank.gone parent)), nobody faces)

  -- one letter less waits, and as many are active
  pub waiting_begun : waiting_letters (without_head before actor) + 1 ≡ waiting_letters before
  waiting_begun =
      let all = sum_at record_number (λ (a : ActorRecord). length a.mailbox) actor taken before.actors (rises_through record_number face_number face_of (λ a. refl) before.actors (rises_from (faces_of before.actors) (valid_rise definitions before valid))) in
      let now : option_map_or (λ (a : ActorRecord). length (taken a).mailbox) (look record_number before.actors actor) 0 ≡ letters_at after actor =
      sym (ap (λ (o : Option ActorRecord). option_map_or (λ (a : ActorRecord). length a.mailbox) o 0) (look_at record_number actor taken (λ a. refl) before.actors) ∙ read (look record_number before.actors actor)) in
      omega (arith, all, now, head_gone) where
        read : (o : Option ActorRecord) → option_map_or (λ (a : ActorRecord). length a.mailbox) (option_map taken o) 0 ≡ option_map_or (λ (a : ActorRecord). length (taken a).mailbox) o 0
        read None = refl
        read (Some a) = refl

  pub active_begun : active_actors (without_head before actor) ≡ active_actors before
  active_begun = same_count before.actors where
    same_count : (xs : List ActorRecord) → length (filter is_active (map (change_at record_number actor taken) xs)) ≡ length (filter is_active xs)
    same_count [] = refl
    same_count (a ∷ xs) = by_test (same_count xs) (nat_eq a.number actor) where
      here : length (filter is_active (map (change_at record_number actor taken) xs)) ≡ length (filter is_active xs) → (b : Bool) → (z : ActorRecord)
          → length (cond b (z ∷ filter is_active (map (change_at record_number actor taken) xs)) (filter is_active (map (change_at record_number actor taken) xs))) ≡ length (cond b (a ∷ filter is_active xs) (filter is_active xs))
      here rest true z = omega (arith, rest)
      here rest false z = rest

      by_test : length (filter is_active (map (change_at record_number actor taken) xs)) ≡ length (filter is_active xs) → (b : Bool)
          → length (filter is_active ((if b then taken a else a) ∷ map (change_at record_number actor taken) xs)) ≡ length (filter is_active (a ∷ xs))
      by_test rest true = here rest (is_active a) (taken a)
      by_test rest false = here rest (is_active a) a
