-- The notes of a step after each part of it.
use Rattle.std.proofs.Common.{◌≡◌, ◌≢◌, inl, inr, ℕ, suc, ◌+◌, ◌-◌, ◌<◌, ◌≤◌, Bool, true, false, cond, ◌&&◌, not, true≢false, List, [], ◌∷◌, ◌++◌, drop, length, map, refl, sym, ap, subst, ◌∙◌, arith}
use Rattle.std.specs.Prelude.{Option, None, Some, filter, is_some, nat_eq, sum_by, unwrap_or, if◌then◌else◌}
use Rattle.std.specs.BTreeMap.{get, get_by_text, is_at}
use Rattle.std.specs.BTreeSet.{contains}
use Rattle.std.specs.List.{AllByRecursion, list_any}
use Rattle.std.specs.Map.{lookup}
use Rattle.std.specs.Option.{option_and_then, option_map, option_map_or}
use Rattle.std.specs.Ordering.{nat_cmp}
use Rattle.std.specs.Cmp.Lexicographic.{slice_cmp}
use Rattle.std.specs.Str.{bytes_eq}
use Rattle.std.specs.String.{string_bytes}
use Rattle.std.proofs.lemmas.Bool.{eq-eqb, ne_eqb}
use Rattle.std.proofs.lemmas.List.{length-append}
use Rattle.std.proofs.lemmas.List.Sums.{sum_by_push}
use Rattle.xs_model.specs.declared.value.Value.{Value}
use Rattle.office_types.specs.declared.limits.TheConstants.{MAX_LETTERS, MAX_NEXT_NUMBER}
use Rattle.office_types.specs.declared.office.ActorRecord.{ActorRecord}
use Rattle.office_types.specs.declared.office.Letter.{Letter}
use Rattle.office_types.specs.declared.office.OfficeState.{OfficeState}
use Rattle.office_types.specs.declared.office.Origin.{Origin}
use Rattle.office_types.specs.declared.office.Timer.{Timer}
use Rattle.office_types.specs.declared.outcome.Own.{Own}
use Rattle.office_types.specs.Definitions.{OfficeDefinitions}
use Rattle.office_types.specs.Effects.{after_cancel, with_timer}
use Rattle.office_types.specs.Mailboxes.{has_letter_room, waiting_letters, with_letter, with_mail, without_head}
use Rattle.office_types.specs.Records.{active_actors, is_active, is_active_status, is_ready}
use Rattle.office_types.specs.Step.{with_own}
use Rattle.office_types.specs.SystemNames.{with_holder}
use Rattle.office_types.specs.Timers.{beside, has_id}
use Rattle.office_types.specs.ValidOffice.{IsValidOffice}
use Rattle.actor_tree.specs.declared.notes.Notes.{Notes}
use Rattle.actor_tree.specs.Noted.{AreGone, AreNamesNoted, AreRecordsNoted, Face, Noted, face_of, has_timer, kin_of, letters_at, next_of, taken_by}
use Rattle.actor_tree.specs.Notes.{AreNoted, CanStep, IsCancelNoted, IsMailNoted, IsMakeNoted, IsTimerNoted, noted}
use Rattle.actor_tree.specs.Actors.{record_of}
use Rattle.actor_tree.specs.Books.{and_holder}
use Rattle.actor_tree.specs.Parts.{IsBorn, with_newcomer}
use Rattle.actor_tree.specs.declared.part.Newcomer.{Newcomer}
use Rattle.actor_tree.proofs.ChangedLemmas.{active_kept}
use Rattle.actor_tree.proofs.FaceLemmas.{actors_rise, record_number, word_before}
use Rattle.actor_tree.proofs.NoteListLemmas.{change_at, look, look_at, look_beside, look_each, look_number, sum_at}
use Rattle.actor_tree.proofs.NotedBeginLemmas.{IsBlank, active_begun, kids_begun, names_begun, records_begun, timers_begun, waiting_begun}
use Rattle.actor_tree.proofs.NotedKidLemmas.{kids_changed, kids_kept, kin_changed, kin_pushed}
use Rattle.actor_tree.proofs.NotedRecordLemmas.{before_next, quiet_kept, records_changed, records_made, seen_next}
use Rattle.actor_tree.proofs.NotedTimerLemmas.{cancelled_length, names_held, names_kept, scheduled_length, timers_cancelled, timers_scheduled}
use Rattle.actor_tree.proofs.NotedValidLemmas.{ready_given, ready_record}
use Rattle.actor_tree.proofs.PushLemmas.{active_push}
use Rattle.actor_tree.proofs.RoomLemmas.{letters_find_room}

-- what it says that letters find room
pub room_left : (office : OfficeState) (more : ℕ) → has_letter_room office more ≡ true → (waiting_letters office + more ≤ MAX_LETTERS) × (office.next_letter + more ≤ MAX_NEXT_NUMBER)
room_left = letters_find_room

-- ---- at the beginning

pub blank_from : (notes : Notes) → notes.gone.keys ≡ [] → notes.machines ≡ [] → notes.kids.entries ≡ [] → notes.timer_ids.entries ≡ [] → notes.names.names ≡ [] → notes.sent.entries ≡ [] → IsBlank (noted notes)
blank_from notes gone machines kids ids names sent = record {
  gone = λ n. ap (λ (keys : List ℕ). list_any (is_at (nat_cmp n)) keys) gone;
  machines = machines;
  kids = λ id. ap (λ es. lookup (is_at (λ k. slice_cmp nat_cmp id (string_bytes k))) es) kids;
  timer_ids = λ id. ap (λ es. lookup (is_at (λ k. slice_cmp nat_cmp id (string_bytes k))) es) ids;
  names = names;
  sent = λ n. ap (λ es. unwrap_or (lookup (is_at (nat_cmp n)) es) 0) sent;
}

pub notes_begun : (definitions : OfficeDefinitions) (before : OfficeState) (actor : ℕ) (notes : Notes) → IsValidOffice definitions before → is_ready before actor ≡ true → IsBlank (noted notes)
    → notes.counts.moment ≡ before.moment → notes.counts.next_actor ≡ before.next_actor → notes.counts.next_letter ≡ before.next_letter → notes.counts.next_timer ≡ before.next_timer
    → notes.counts.active ≡ active_actors before → notes.counts.waiting + 1 ≡ waiting_letters before → notes.timers ≡ length before.timers → AreNoted before actor notes (without_head before actor)
notes_begun definitions before actor notes valid ready blank moment next_actor next_letter next_timer active waiting standing = record {
  records = records_begun definitions before actor (noted notes) valid ready blank;
  kids = kids_begun definitions before actor (noted notes) valid ready blank;
  timers = timers_begun definitions before actor (noted notes) valid ready blank;
  names = names_begun definitions before actor (noted notes) valid ready blank;
  counts = record {
    moment = moment;
    next_actor = next_actor;
    next_letter = next_letter;
    next_timer = next_timer;
    active = active ∙ sym (active_begun definitions before actor (noted notes) valid ready blank);
    waiting = omega (arith, waiting, waiting_begun definitions before actor (noted notes) valid ready blank);
    standing = standing;
    fits = omega (arith, waiting, valid.limits.letters);
  };
  next = (let none : length (noted notes).machines ≡ 0 = ap (λ (ms : List Bool). length ms) blank.machines in omega (arith, none));
  moment = refl;
  few = λ n. omega (arith, blank.sent n);
}

-- ---- the step's actor

module _ (before : OfficeState) (actor : ℕ) (notes : Notes) (office : OfficeState) (can : CanStep before actor) (gone : AreGone before actor (noted notes)) (is : AreNoted before actor notes office) where
  pub actor_left : (n : ℕ) → n ≤ actor → (noted notes).gone n ≡ false
  actor_left n low = by_test ((noted notes).gone n) refl where
    by_test : (b : Bool) → (noted notes).gone n ≡ b → b ≡ false
    by_test true e = absurd (let later = (gone.after n e).0 in omega arith)
    by_test false e = refl

  pub actor_runs : option_map_or (λ (a : ActorRecord). is_some a.own) (look record_number office.actors actor) false ≡ true
  actor_runs =
      let found = ready_record can.valid.0 before can.valid.1 actor can.ready in
      word_before before actor (noted notes) office.actors is.records (λ (face : Face). face.machine) false actor (actor_left actor (omega arith)) (ready_given can.valid.0 before can.valid.1 actor can.ready)
      ∙ ap (λ (o : Option ActorRecord). option_map_or (λ (a : ActorRecord). is_some a.own) o false) found.1 ∙ found.3

  pub actor_there : (a : ActorRecord) × (look record_number office.actors actor ≡ Some a)
  actor_there = by_record (look record_number office.actors actor) refl actor_runs where
    by_record : (o : Option ActorRecord) → look record_number office.actors actor ≡ o → option_map_or (λ (a : ActorRecord). is_some a.own) o false ≡ true → (a : ActorRecord) × (look record_number office.actors actor ≡ Some a)
    by_record None e runs = absurd (true≢false (sym runs))
    by_record (Some a) e runs = (a, e)

  -- another own part
  pub own_noted : (own : Own) → AreNoted before actor notes (with_own actor own office)
  own_noted own = record {
    records = records_changed before actor (noted notes) (noted notes) actor change office.actors is.records refl (λ m. refl) (λ a. refl) faces (quiet_kept actor change office.actors is.records.quiet (same_mail office.actors)) (λ m left other. refl) (λ left. refl);
    kids = kids_changed before actor (noted notes) (noted notes) office.actors (map (change_at record_number actor change) office.actors) is.kids
        (λ m less. look_beside record_number actor m change (λ a. refl) office.actors (λ e. omega arith))
        (λ id. ap (option_and_then (λ (a : ActorRecord). lookup (bytes_eq id) a.kids)) (look_at record_number actor change (λ a. refl) office.actors) ∙ read id (look record_number office.actors actor) ∙ is.kids.kids id)
        is.kids.after;
    timers = is.timers;
    names = is.names;
    counts = record {
      moment = is.counts.moment;
      next_actor = is.counts.next_actor;
      next_letter = is.counts.next_letter;
      next_timer = is.counts.next_timer;
      active = is.counts.active ∙ sym (active_kept actor change (λ a. refl) office.actors);
      waiting = omega (arith, is.counts.waiting, sum_at record_number (λ (a : ActorRecord). length a.mailbox) actor change office.actors (actors_rise before actor (noted notes) office.actors is.records));
      standing = is.counts.standing;
      fits = is.counts.fits;
    };
    next = is.next;
    moment = is.moment;
    few = is.few;
  } where
    change : ActorRecord → ActorRecord
    change a = record a { own = Some own }

    read : (id : List ℕ) (o : Option ActorRecord) → option_and_then (λ (a : ActorRecord). lookup (bytes_eq id) a.kids) (option_map (λ (a : ActorRecord). record a { own = Some own }) o) ≡ option_and_then (λ (a : ActorRecord). lookup (bytes_eq id) a.kids) o
    read id None = refl
    read id (Some a) = refl

    same_mail : (xs : List ActorRecord) → AllByRecursion (λ (a : ActorRecord). a.number ≡ actor → (is_active a ≡ false → a.mailbox ≡ []) → is_active a ≡ false → a.mailbox ≡ []) xs
    same_mail [] = tt
    same_mail (a ∷ xs) = (λ at quiet. quiet, same_mail xs)

    faces : AllByRecursion (λ (a : ActorRecord). a.number ≡ actor → face_of (record a { own = Some own }) ≡ face_of a) office.actors
    faces = look_each record_number (λ (a : ActorRecord). a.number ≡ actor → face_of (record a { own = Some own }) ≡ face_of a) office.actors (actors_rise before actor (noted notes) office.actors is.records)
        (λ n a seen at. (
        let same : n ≡ actor = sym (look_number record_number office.actors n a seen) ∙ at in
        let runs : is_some a.own ≡ true = sym (ap (λ (o : Option ActorRecord). option_map_or (λ (z : ActorRecord). is_some z.own) o false) (ap (look record_number office.actors) (sym same) ∙ seen)) ∙ actor_runs in
        ap (λ (b : Bool). record { number = a.number; parent = a.parent; active = is_active a; machine = b }) (sym runs)))

  -- a letter to an active actor
  pub mail_noted : (new : Notes) (from : Origin) (receiver : ℕ) (event : Value) → IsMailNoted receiver notes new → option_map_or is_active (look record_number office.actors receiver) false ≡ true → has_letter_room office 1 ≡ true
      → AreNoted before actor new (with_letter office from receiver event)
  mail_noted new from receiver event noted_mail active room =
      subst (λ (n : Notes). AreNoted before actor n (with_letter office from receiver event)) (sym noted_mail.same) (record {
        records = records_changed before actor (noted notes) _ receiver change office.actors is.records refl (λ m. refl) (λ a. refl) (no_faces office.actors)
            (quiet_kept receiver change office.actors is.records.quiet running)
            (λ m left other. noted_mail.sent m ∙ (let none = ap {B = ℕ} (λ (b : Bool). if b then 1 else 0) (ne_eqb m receiver other) in omega (arith, none)))
            (λ left. (let one = ap {B = ℕ} (λ (b : Bool). if b then 1 else 0) (eq-eqb receiver receiver refl) in omega (arith, one, noted_mail.sent receiver, longer)));
        kids = kids_kept before actor (noted notes) _ office.actors (map (change_at record_number receiver change) office.actors) is.kids (omega arith) (λ id. refl) (λ m less. kin_changed receiver change office.actors m (λ a. refl) (λ a. refl));
        timers = record { own = is.timers.own; others = is.timers.others };
        names = record { same = is.names.same; newer = is.names.newer };
        counts = record {
          moment = is.counts.moment;
          next_actor = is.counts.next_actor;
          next_letter = omega (arith, is.counts.next_letter);
          next_timer = is.counts.next_timer;
          active = is.counts.active ∙ sym (active_kept receiver change (λ a. refl) office.actors);
          waiting = omega (arith, is.counts.waiting, longer, sum_at record_number (λ (a : ActorRecord). length a.mailbox) receiver change office.actors (actors_rise before actor (noted notes) office.actors is.records));
          standing = is.counts.standing;
          fits = omega (arith, is.counts.waiting, (letters_find_room office 1 room).0);
        };
        next = is.next;
        moment = is.moment;
        few = λ n. (let one = at_most (nat_eq n receiver) in omega (arith, noted_mail.sent n, is.few n, one));
      }) where
        letter : Letter
        letter = record { number = office.next_letter; origin = from; event = event }

        change : ActorRecord → ActorRecord
        change = with_mail (record { number = office.next_letter; origin = from; event = event })

        at_most : (b : Bool) → (if b then 1 else 0) ≤ 1
        at_most true = omega arith
        at_most false = omega arith

        no_faces : (xs : List ActorRecord) → AllByRecursion (λ (a : ActorRecord). a.number ≡ receiver → face_of a ≡ face_of a) xs
        no_faces [] = tt
        no_faces (a ∷ xs) = (λ at. refl, no_faces xs)

        longer : option_map_or (λ (a : ActorRecord). length (a.mailbox ++ letter ∷ [])) (look record_number office.actors receiver) 0 ≡ letters_at office.actors receiver + 1
        longer = by_record (look record_number office.actors receiver) active where
          by_record : (o : Option ActorRecord) → option_map_or is_active o false ≡ true → option_map_or (λ (a : ActorRecord). length (a.mailbox ++ letter ∷ [])) o 0 ≡ option_map_or (λ (a : ActorRecord). length a.mailbox) o 0 + 1
          by_record None e = absurd (true≢false (sym e))
          by_record (Some a) e = length-append a.mailbox (letter ∷ [])

        running : AllByRecursion (λ (a : ActorRecord). a.number ≡ receiver → (is_active a ≡ false → a.mailbox ≡ []) → is_active a ≡ false → a.mailbox ++ letter ∷ [] ≡ []) office.actors
        running = look_each record_number (λ (a : ActorRecord). a.number ≡ receiver → (is_active a ≡ false → a.mailbox ≡ []) → is_active a ≡ false → a.mailbox ++ letter ∷ [] ≡ []) office.actors (actors_rise before actor (noted notes) office.actors is.records)
            (λ n a seen at quiet ended. absurd (
            let same : n ≡ receiver = sym (look_number record_number office.actors n a seen) ∙ at in
            true≢false (sym active ∙ ap (λ (o : Option ActorRecord). option_map_or is_active o false) (ap (look record_number office.actors) (sym same) ∙ seen) ∙ ended)))

  -- a timer of the step's actor
  pub timer_noted : (new : Notes) (timer : Timer) → timer.owner ≡ actor → IsTimerNoted timer.id (length (beside timer office.timers)) notes new → AreNoted before actor new (with_timer office timer)
  timer_noted new timer owner told =
      subst (λ (n : Notes). AreNoted before actor n (with_timer office timer)) (sym told.same) (record {
        records = record { rise = is.records.rise; given = is.records.given; begun = is.records.begun; faces = is.records.faces; quiet = is.records.quiet; letters = is.records.letters };
        kids = record { above = is.kids.above; kids = is.kids.kids; after = is.kids.after };
        timers = timers_scheduled before actor (noted notes) _ office.timers is.timers timer owner told.ids (λ m. refl);
        names = record { same = is.names.same; newer = is.names.newer };
        counts = record {
          moment = is.counts.moment;
          next_actor = is.counts.next_actor;
          next_letter = is.counts.next_letter;
          next_timer = omega (arith, is.counts.next_timer);
          active = is.counts.active;
          waiting = is.counts.waiting;
          standing = sym (scheduled_length timer office.timers);
          fits = is.counts.fits;
        };
        next = is.next;
        moment = is.moment;
        few = is.few;
      })

  -- a timer dropped
  pub cancel_noted : (new : Notes) (id : List ℕ) (stands : Bool) → IsCancelNoted id stands notes new → (if stands then 1 else 0) ≡ length (filter (has_id actor id) office.timers) → AreNoted before actor new (after_cancel actor id office)
  cancel_noted new id stands told counted =
      subst (λ (n : Notes). AreNoted before actor n (after_cancel actor id office)) (sym told.same) (record {
        records = record { rise = is.records.rise; given = is.records.given; begun = is.records.begun; faces = is.records.faces; quiet = is.records.quiet; letters = is.records.letters };
        kids = record { above = is.kids.above; kids = is.kids.kids; after = is.kids.after };
        timers = timers_cancelled before actor (noted notes) _ office.timers is.timers id told.ids (λ m. refl);
        names = record { same = is.names.same; newer = is.names.newer };
        counts = record {
          moment = is.counts.moment;
          next_actor = is.counts.next_actor;
          next_letter = is.counts.next_letter;
          next_timer = is.counts.next_timer;
          active = is.counts.active;
          waiting = is.counts.waiting;
          standing = omega (arith, told.timers, counted, is.counts.standing, cancelled_length actor id office.timers);
          fits = is.counts.fits;
        };
        next = is.next;
        moment = is.moment;
        few = is.few;
      })

-- ---- an actor made

-- no letter was sent to a number that nobody has yet
unsent : (before : OfficeState) (actor : ℕ) (notes : Noted) (actors : List ActorRecord) → AreRecordsNoted before actor notes actors → notes.gone (next_of before notes) ≡ false → actor < next_of before notes → notes.sent (next_of before notes) ≡ 0
unsent before actor notes actors is left later =
    let next : ℕ = next_of before notes in
    let now : letters_at actors next ≡ 0 = no_letters actors (seen_next before actor notes actors is left) in
    let was : letters_at before.actors next ≡ 0 = no_letters before.actors (before_next before actor notes is) in
    let none : taken_by actor next ≡ 0 = ap {B = ℕ} (λ (b : Bool). if b then 1 else 0) (ne_eqb next actor (λ e. omega arith)) in
    omega (arith, is.letters next left, now, was, none) where
      no_letters : (xs : List ActorRecord) → look record_number xs (next_of before notes) ≡ None → letters_at xs (next_of before notes) ≡ 0
      no_letters xs none = ap (λ (o : Option ActorRecord). option_map_or (λ (a : ActorRecord). length a.mailbox) o 0) none

module _ (before : OfficeState) (actor : ℕ) (notes : Notes) (office : OfficeState) (can : CanStep before actor) (gone : AreGone before actor (noted notes)) (is : AreNoted before actor notes office) where
  later_next : actor < next_of before (noted notes)
  later_next = let given : actor < before.next_actor = ready_given can.valid.0 before can.valid.1 actor can.ready in omega arith

  next_left : (noted notes).gone (next_of before (noted notes)) ≡ false
  next_left = by_test ((noted notes).gone (next_of before (noted notes))) refl where
    by_test : (b : Bool) → (noted notes).gone (next_of before (noted notes)) ≡ b → b ≡ false
    by_test true e = absurd (let less = (gone.after (next_of before (noted notes)) e).1 in omega arith)
    by_test false e = refl

  counted : notes.counts.next_actor ≡ next_of before (noted notes)
  counted = is.counts.next_actor ∙ is.next

  pub make_noted : (new : Notes) (newcomer : Newcomer) (letters : ℕ) (system : Option (List ℕ)) → IsMakeNoted newcomer notes new → IsBorn actor system letters newcomer → has_letter_room office letters ≡ true
      → AreNoted before actor new (with_newcomer office newcomer)
  make_noted new newcomer letters system told born room =
      subst (λ (n : Notes). AreNoted before actor n (with_newcomer office newcomer)) (sym told.same) (record {
        records = records_made before actor (noted notes) _ made office.actors is.records told.machines (λ m. refl) next_left is.next born.parent_is active later_next
            (λ m other. told.sent m ∙ ap (λ (b : Bool). if b then length newcomer.actor.mailbox.items else (noted notes).sent m) (ne_eqb m notes.counts.next_actor (λ e. other (e ∙ counted))))
            (told.sent (next_of before (noted notes)) ∙ ap (λ (b : Bool). if b then length newcomer.actor.mailbox.items else (noted notes).sent (next_of before (noted notes))) (eq-eqb (next_of before (noted notes)) notes.counts.next_actor (sym counted))
            ∙ (let none : (noted notes).sent (next_of before (noted notes)) ≡ 0 = unsent before actor (noted notes) office.actors is.records next_left later_next in omega (arith, none)));
        kids = kids_kept before actor (noted notes) _ office.actors (office.actors ++ made ∷ []) is.kids (omega (arith, longer)) (λ id. refl)
            (λ m less. ap (option_map kin_of) (kin_pushed made office.actors m (λ e. omega (arith, later_next, is.next))));
        timers = record { own = is.timers.own; others = is.timers.others };
        names = subst (λ (n : Notes). AreNamesNoted before (noted n) (with_newcomer office newcomer).names) told.same (by_name newcomer.actor.system refl);
        counts = record {
          moment = is.counts.moment;
          next_actor = omega (arith, is.counts.next_actor);
          next_letter = omega (arith, is.counts.next_letter);
          next_timer = is.counts.next_timer;
          active = omega (arith, is.counts.active, active_push made active office.actors);
          waiting = omega (arith, is.counts.waiting, sum_by_push (λ (a : ActorRecord). length a.mailbox) office.actors made);
          standing = is.counts.standing;
          fits = omega (arith, is.counts.waiting, (letters_find_room office letters room).0, born.letters_are);
        };
        next = omega (arith, is.next, longer);
        moment = is.moment;
        few = λ n. few_after n (nat_eq n notes.counts.next_actor) refl;
      }) where
        made : ActorRecord
        made = record_of office.next_actor newcomer.actor

        active : is_active (record_of office.next_actor newcomer.actor) ≡ true
        active = ap is_active_status born.active

        longer : length new.machines ≡ length notes.machines + 1
        longer = ap (λ (ms : List Bool). length ms) told.machines ∙ length-append notes.machines (is_some newcomer.actor.own ∷ [])

        few_after : (n : ℕ) (b : Bool) → nat_eq n notes.counts.next_actor ≡ b → (noted new).sent n ≤ notes.counts.next_letter + length newcomer.actor.mailbox.items
        few_after n true e = (let now = told.sent n ∙ ap (λ (c : Bool). if c then length newcomer.actor.mailbox.items else (noted notes).sent n) e in omega (arith, now))
        few_after n false e = (let now = told.sent n ∙ ap (λ (c : Bool). if c then length newcomer.actor.mailbox.items else (noted notes).sent n) e in omega (arith, now, is.few n))

        named : (o : Option (List ℕ)) → newcomer.actor.system ≡ o → new.names.names ≡ and_holder notes.names.names o notes.counts.next_actor
        named o e = told.names ∙ ap (λ (p : Option (List ℕ)). and_holder notes.names.names p notes.counts.next_actor) (born.complete.name ∙ e)

        by_name : (o : Option (List ℕ)) → newcomer.actor.system ≡ o → AreNamesNoted before (noted new) (option_map_or (λ (name : List ℕ). with_holder office.names name office.next_actor) newcomer.actor.system office.names)
        by_name None e =
            subst (AreNamesNoted before (noted new)) (sym (ap (λ (p : Option (List ℕ)). option_map_or (λ (name : List ℕ). with_holder office.names name office.next_actor) p office.names) e))
            (names_kept before (noted notes) (noted new) office.names is.names (λ m. ap (λ (n : Notes). (noted n).gone m) told.same) (named None e) (omega (arith, longer)))
        by_name (Some name) e =
            subst (AreNamesNoted before (noted new)) (sym (ap (λ (p : Option (List ℕ)). option_map_or (λ (one : List ℕ). with_holder office.names one office.next_actor) p office.names) e))
            (names_held before (noted notes) (noted new) office.names is.names name office.next_actor (λ m. ap (λ (n : Notes). (noted n).gone m) told.same)
            (named (Some name) e ∙ ap (with_holder notes.names.names name) is.counts.next_actor) (omega (arith, longer)) (omega (arith, longer, is.next)))
