-- That the parts of a request's change fit the office.
use Rattle.std.proofs.Common.{◌≡◌, ℕ, suc, ◌+◌, ◌<◌, ◌≤◌, Bool, true, false, cond, not, List, [], ◌∷◌, ◌++◌, length, map, refl, sym, ap, ◌∙◌, subst, arith}
use Rattle.std.specs.Prelude.{IfSome, None, Option, Some, filter, is_some, nat_eq, option_to_list, sum_by, if◌then◌else◌}
use Rattle.std.specs.List.{cons_option, filter_map}
use Rattle.std.specs.Option.{option_map, option_map_or}
use Rattle.std.proofs.lemmas.Bool.{and_from, le-leb}
use Rattle.std.proofs.lemmas.List.{length-append}
use Rattle.std.proofs.lemmas.List.Sums.{sum_by-cons}
use Rattle.office_types.specs.declared.limits.TheConstants.{MAX_LETTERS, MAX_NEXT_NUMBER}
use Rattle.office_types.specs.declared.office.ActorRecord.{ActorRecord}
use Rattle.office_types.specs.declared.office.Item.{Item}
use Rattle.office_types.specs.declared.office.Letter.{Letter}
use Rattle.office_types.specs.declared.office.OfficeState.{OfficeState}
use Rattle.office_types.specs.declared.office.Origin.{Origin}
use Rattle.office_types.specs.declared.office.Origin.TheVariants as origin
use Rattle.office_types.specs.declared.office.Status.TheVariants as status
use Rattle.office_types.specs.declared.office.Timer.{Timer}
use Rattle.office_types.specs.declared.request.Word.{Word}
use Rattle.office_types.specs.declared.request.Word.TheVariants as word
use Rattle.xs_model.specs.declared.value.Value.{Value}
use Rattle.office_types.specs.Decisions.{Row, actor_row, actors_row, closed_row, first_row, item_row, letters_row, name_row, reply_with, reserved_row, row_if, stopped_row}
use Rattle.office_types.specs.Effects.{fresh_own, fresh_record, has_actor_room, is_name_held}
use Rattle.office_types.specs.Ends.{after_end, ended_record, is_among, letters_to_parent, record_after_end, stopped_record, subtree_of}
use Rattle.office_types.specs.Mailboxes.{has_letter_room, waiting_letters, with_letter, with_mail}
use Rattle.office_types.specs.Records.{is_active, is_active_machine, parent_actor}
use Rattle.office_types.specs.SystemNames.{holder_of}
use Rattle.actor_tree.specs.declared.part.Newcomer.{Newcomer}
use Rattle.actor_tree.specs.declared.part.Part.{Part}
use Rattle.actor_tree.specs.declared.part.Part.TheVariants as part
use Rattle.actor_tree.specs.Actors.{record_of}
use Rattle.actor_tree.specs.Asks.{delivery}
use Rattle.actor_tree.specs.Parts.{CanPut, CanPutAll, IsComplete, put_part}
use Rattle.actor_tree.proofs.FaceLemmas.{record_number}
use Rattle.actor_tree.proofs.NoteListLemmas.{Rises, change_at, look, rises_map, sum_at}
use Rattle.actor_tree.proofs.RoomLemmas.{letters_find_room}

-- ---- rows that don't apply

pub row_absent : (test : Bool) (status : ℕ) (word : Word) (value : ℕ) → row_if (not test) status word value ≡ None → test ≡ true
row_absent true status word value e = refl
row_absent false status word value e = absurd (cc)

pub first_absent : (row : Row) (rows : List Row) → first_row (row ∷ rows) ≡ None → (row ≡ None) × (first_row rows ≡ None)
first_absent None rows e = (refl, e)
first_absent (Some reply) rows e = absurd (cc)

-- a name that no row refuses is free
free_name : (state : OfficeState) (system : Option (List ℕ)) → name_row state system ≡ None → is_name_held state system ≡ false
free_name state None e = refl
free_name state (Some name) e = by_holder (holder_of name state.names) e where
  by_holder : (o : Option ℕ) → option_map (λ (holder : ℕ). reply_with 409 word.Name holder) o ≡ None → is_some o ≡ false
  by_holder None e = refl
  by_holder (Some holder) e = absurd (cc)

-- where no row refuses a letter, there is room for it
pub send_room : (state : OfficeState) (actor : ℕ) (event : Value)
    → first_row (actor_row state actor ∷ stopped_row state actor ∷ reserved_row actor event ∷ letters_row state 1 ∷ []) ≡ None → has_letter_room state 1 ≡ true
send_room state actor event e =
    let given = first_absent (actor_row state actor) (stopped_row state actor ∷ reserved_row actor event ∷ letters_row state 1 ∷ []) e in
    let active = first_absent (stopped_row state actor) (reserved_row actor event ∷ letters_row state 1 ∷ []) given.1 in
    let free = first_absent (reserved_row actor event) (letters_row state 1 ∷ []) active.1 in
    row_absent (has_letter_room state 1) 429 word.Letters MAX_LETTERS (first_absent (letters_row state 1) [] free.1).0

-- where no row refuses the end of an item, there is room for the letter to its parent
pub end_room : (state : OfficeState) (item letters : ℕ)
    → first_row (item_row state item ∷ closed_row state item ∷ letters_row state letters ∷ []) ≡ None → has_letter_room state letters ≡ true
end_room state item letters e =
    let given = first_absent (item_row state item) (closed_row state item ∷ letters_row state letters ∷ []) e in
    let active = first_absent (closed_row state item) (letters_row state letters ∷ []) given.1 in
    row_absent (has_letter_room state letters) 429 word.Letters MAX_LETTERS (first_absent (letters_row state letters) [] active.1).0

pub letters_room : (state : OfficeState) (letters : ℕ) → letters_row state letters ≡ None → has_letter_room state letters ≡ true
letters_room state letters e = row_absent (has_letter_room state letters) 429 word.Letters MAX_LETTERS e

-- ---- a start

pub start_fits : (state : OfficeState) (made : Newcomer) (letter : Letter) (machine : ℕ) (system : Option (List ℕ)) → IsComplete made
    → record_of state.next_actor made.actor ≡ with_mail letter (fresh_record state.next_actor None system (Some (fresh_own machine)) None)
    → first_row (name_row state system ∷ actors_row state ∷ letters_row state 1 ∷ []) ≡ None → CanPutAll state (part.Make made ∷ [])
start_fits state made letter machine system complete is e =
    let name = first_absent (name_row state system) (actors_row state ∷ letters_row state 1 ∷ []) e in
    let actors = first_absent (actors_row state) (letters_row state 1 ∷ []) name.1 in
    let letters = first_absent (letters_row state 1) [] actors.1 in
    let named : made.actor.system ≡ system = ap (λ (r : ActorRecord). r.system) is in
    let none : made.item ≡ None = complete.item ∙ ap (λ (r : ActorRecord). r.item) is in
    let mail : made.actor.mailbox.items ≡ letter ∷ [] = ap (λ (r : ActorRecord). r.mailbox) is in (
      record {
        complete = complete;
        active = ap (λ (r : ActorRecord). r.status) is;
        item_number = subst (λ (o : Option Item). IfSome o (λ item. item.actor ≡ state.next_actor)) (sym none) tt;
        name_free = ap (is_name_held state) named ∙ free_name state system name.0;
        actor_room = row_absent (has_actor_room state) 429 word.Actors _ actors.0;
        letter_room = ap (λ (ls : List Letter). has_letter_room state (length ls)) mail ∙ letters_room state 1 letters.0;
      },
      tt,
    )

-- ---- room for letters after others

room_after : (state other : OfficeState) (more less : ℕ) → has_letter_room state more ≡ true → waiting_letters other + less ≤ waiting_letters state + more
    → other.next_letter + less ≤ state.next_letter + more → has_letter_room other less ≡ true
room_after state other more less room waiting numbers =
    let parts = letters_find_room state more room in
    and_from _ _ (le-leb (waiting_letters other + less) MAX_LETTERS (omega (arith, waiting, parts.0))) (le-leb (other.next_letter + less) MAX_NEXT_NUMBER (omega (arith, numbers, parts.1)))

abbrev letters_at : ActorRecord → ℕ
letters_at actor = length actor.mailbox

fewer : (f : ActorRecord → ActorRecord) → ((a : ActorRecord) → letters_at (f a) ≤ letters_at a) → (actors : List ActorRecord) → sum_by letters_at (map f actors) ≤ sum_by letters_at actors
fewer f each [] = omega arith
fewer f each (a ∷ actors) = omega (arith, sum_by-cons letters_at a actors, sum_by-cons letters_at (f a) (map f actors), each a, fewer f each actors)

-- an end empties mailboxes
ends_empty : (subtree : List ℕ) (n : ℕ) (end : ActorRecord → ActorRecord) → ((a : ActorRecord) → (end a).mailbox ≡ []) → (a : ActorRecord) → letters_at (record_after_end subtree n end a) ≤ letters_at a
ends_empty subtree n end empty a = by_number (nat_eq a.number n) where
  by_active : (b : Bool) → letters_at (if b then ended_record status.Stopped a else a) ≤ letters_at a
  by_active true = omega arith
  by_active false = omega arith

  by_below : (b : Bool) → letters_at (if b then stopped_record a else a) ≤ letters_at a
  by_below true = by_active (is_active a)
  by_below false = omega arith

  by_number : (b : Bool) → letters_at (if b then end a else if is_among subtree a.number then stopped_record a else a) ≤ letters_at a
  by_number true = omega (arith, ap (λ (ls : List Letter). length ls) (empty a))
  by_number false = by_below (is_among subtree a.number)

waiting_after_end : (state : OfficeState) (n : ℕ) (end : ActorRecord → ActorRecord) → ((a : ActorRecord) → (end a).mailbox ≡ []) → waiting_letters (after_end end n state) ≤ waiting_letters state
unfolding after_end
waiting_after_end state n end empty = fewer (record_after_end (subtree_of state n) n end) (ends_empty (subtree_of state n) n end empty) state.actors

numbers_after_end : (state : OfficeState) (n : ℕ) (end : ActorRecord → ActorRecord) → (after_end end n state).next_letter ≡ state.next_letter
unfolding after_end
numbers_after_end state n end = refl

-- an end, and the letter behind it to the parent if there is one
pub end_fits : (state : OfficeState) (n : ℕ) (end : ActorRecord → ActorRecord) → ((a : ActorRecord) → (end a).mailbox ≡ []) → (first : Part) (letter : ℕ → Part)
    → CanPut state first → put_part state first ≡ after_end end n state → ((s : OfficeState) (p : ℕ) → has_letter_room s 1 ≡ true → CanPut s (letter p))
    → has_letter_room state (letters_to_parent state n) ≡ true → CanPutAll state (first ∷ option_to_list (option_map letter (parent_actor state n)))
end_fits state n end empty first letter can is each room = (can, by_parent (parent_actor state n) room) where
  by_parent : (o : Option ℕ) → has_letter_room state (option_map_or (λ (p : ℕ). 1) o 0) ≡ true → CanPutAll (put_part state first) (option_to_list (option_map letter o))
  by_parent None left = tt
  by_parent (Some p) left = (
    each (put_part state first) p (subst (λ (s : OfficeState). has_letter_room s 1 ≡ true) (sym is)
        (room_after state (after_end end n state) 1 1 left (omega (arith, waiting_after_end state n end empty)) (omega (arith, numbers_after_end state n end)))),
    tt,
  )

-- ---- an advance

waiting_after_letter : (state : OfficeState) (from : Origin) (n : ℕ) (event : Value) → Rises record_number state.actors → waiting_letters (with_letter state from n event) ≤ waiting_letters state + 1
waiting_after_letter state from n event rise =
    omega (arith, sum_at record_number letters_at n (with_mail letter) state.actors rise, by_record (look record_number state.actors n)) where
      letter : Letter
      letter = record { number = state.next_letter; origin = from; event = event }

      by_record : (o : Option ActorRecord) → option_map_or (λ (a : ActorRecord). letters_at (with_mail letter a)) o 0 ≤ option_map_or letters_at o 0 + 1
      by_record None = omega arith
      by_record (Some a) = omega (arith, length-append a.mailbox (letter ∷ []))

kept_number : (n : ℕ) (change : ActorRecord → ActorRecord) → ((a : ActorRecord) → (change a).number ≡ a.number) → (a : ActorRecord) → (change_at record_number n change a).number ≡ a.number
kept_number n change same a = by_test (nat_eq a.number n) where
  by_test : (b : Bool) → (if b then change a else a).number ≡ a.number
  by_test true = same a
  by_test false = refl

rise_after_letter : (state : OfficeState) (from : Origin) (n : ℕ) (event : Value) → Rises record_number state.actors → Rises record_number (with_letter state from n event).actors
rise_after_letter state from n event rise =
    let mail : ActorRecord → ActorRecord = with_mail (record { number = state.next_letter; origin = from; event = event }) in
    rises_map record_number record_number (change_at record_number n mail) (kept_number n mail (λ a. refl)) state.actors rise

abbrev runs_at : OfficeState → Timer → Bool
runs_at office timer = is_active_machine office timer.target

deliveries_fit : (office : OfficeState) (due : List Timer) (state : OfficeState) → Rises record_number state.actors
    → has_letter_room state (length (filter (runs_at office) due)) ≡ true → CanPutAll state (filter_map (delivery office) due)
deliveries_fit office [] state rise room = tt
deliveries_fit office (timer ∷ due) state rise room = by_target (deliveries_fit office due) (runs_at office timer) room where
  from : Origin
  from = origin.Actor timer.owner

  after : OfficeState
  after = with_letter state from timer.target timer.event

  later : ℕ
  later = length (filter (runs_at office) due)

  by_target : ((other : OfficeState) → Rises record_number other.actors → has_letter_room other later ≡ true → CanPutAll other (filter_map (delivery office) due)) → (b : Bool)
      → has_letter_room state (length (cond b (timer ∷ filter (runs_at office) due) (filter (runs_at office) due))) ≡ true
      → CanPutAll state (cons_option (if b then Some (part.Mail from timer.target timer.event) else None) (filter_map (delivery office) due))
  by_target rest true left = (
    room_after state state (suc later) 1 left (omega arith) (omega arith),
    rest after (rise_after_letter state from timer.target timer.event rise)
        (room_after state after (suc later) later left (omega (arith, waiting_after_letter state from timer.target timer.event rise)) (omega arith)),
  )
  by_target rest false left = rest state rise left

-- an advance, and the letters that the timers become
pub advance_fits : (office : OfficeState) (due : List Timer) (moment : ℕ) → Rises record_number office.actors
    → has_letter_room office (length (filter (runs_at office) due)) ≡ true → CanPutAll office (part.Advance moment ∷ filter_map (delivery office) due)
advance_fits office due moment rise room = (tt, deliveries_fit office due (put_part office (part.Advance moment)) rise room)
