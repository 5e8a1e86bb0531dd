-- The parts of a request's change make the change.
use Rattle.std.proofs.Common.{◌≡◌, ◌≢◌, ℕ, ◌+◌, ◌<◌, Bool, true, false, cond, List, [], ◌∷◌, ◌++◌, length, map, refl, sym, ap, ◌∙◌, subst, arith}
use Rattle.std.specs.Prelude.{All, None, Option, Some, filter, fold, nat_eq, option_to_list, if◌then◌else◌}
use Rattle.std.specs.List.{AllByRecursion, cons_option, filter_map}
use Rattle.std.specs.Option.{option_map, option_map_or}
use Rattle.std.proofs.lemmas.Bool.{eq-eqb}
use Rattle.std.proofs.lemmas.List.{map-append}
use Rattle.std.proofs.lemmas.List.Elements.{All-from_recursion, filter_map-append, recursion_from_All}
use Rattle.xs_model.specs.declared.value.Value.{Value}
use Rattle.office_types.specs.declared.office.ActorRecord.{ActorRecord}
use Rattle.office_types.specs.declared.office.Letter.{Letter}
use Rattle.office_types.specs.declared.office.OfficeState.{OfficeState}
use Rattle.office_types.specs.declared.office.Origin.{Origin}
use Rattle.office_types.specs.declared.office.Origin.TheVariants as origin
use Rattle.office_types.specs.declared.office.Status.TheVariants as status
use Rattle.office_types.specs.declared.office.Timer.{Timer}
use Rattle.office_types.specs.Definitions.{OfficeDefinitions}
use Rattle.office_types.specs.Effects.{fresh_own, fresh_record, with_item, with_machine, with_record}
use Rattle.office_types.specs.Ends.{after_end, child_id, done_record, ended_record, error_record, is_among, record_after_end, stopped_record, subtree_of, with_letter_to_parent}
use Rattle.office_types.specs.Events.{init_event}
use Rattle.office_types.specs.Mailboxes.{with_letter, with_mail}
use Rattle.office_types.specs.Moment.{after_advance, with_delivery}
use Rattle.office_types.specs.Records.{is_active, is_active_machine, parent_actor}
use Rattle.office_types.specs.Timers.{due_by, not_due}
use Rattle.office_types.specs.ValidOffice.{IsActor, IsValidOffice}
use Rattle.actor_tree.specs.declared.part.Newcomer.{Newcomer}
use Rattle.actor_tree.specs.declared.part.Part.{Part}
use Rattle.actor_tree.specs.declared.part.Part.TheVariants as part
use Rattle.actor_tree.specs.Actors.{record_of}
use Rattle.actor_tree.specs.Asks.{delivery}
use Rattle.actor_tree.specs.Parts.{put_part, with_newcomer}
use Rattle.actor_tree.proofs.LookUpLemmas.{KeepsFamily, at_kept, changed_at, child_id_kept, machines_kept, others_stay, parent_kept, runs}

-- ---- an actor that is made

-- no record has the next number
abbrev pub NextIsFree : OfficeState → Type 0
NextIsFree state = AllByRecursion (λ (a : ActorRecord). a.number ≢ state.next_actor) state.actors

all_weaker : {X : Type 0} (P Q : X → Type 0) → ((x : X) → P x → Q x) → (xs : List X) → AllByRecursion P xs → AllByRecursion Q xs
all_weaker P Q weaker [] all = tt
all_weaker P Q weaker (x ∷ xs) all = (weaker x all.0, all_weaker P Q weaker xs all.1)

pub valid_next : (definitions : OfficeDefinitions) (state : OfficeState) → IsValidOffice definitions state → NextIsFree state
valid_next definitions state valid =
    all_weaker (IsActor definitions state) (λ (a : ActorRecord). a.number ≢ state.next_actor) (λ a is e. let given = is.number.1 in omega arith) state.actors
    (recursion_from_All (IsActor definitions state) state.actors valid.actors)

-- the letter that begins an actor
abbrev pub first_letter : ℕ → Origin → Value → Letter
first_letter number from input = record { number = number; origin = from; event = init_event input }

-- a machine actor that is made with its first letter is as one that gets the letter once it is there
pub made_machine : (state : OfficeState) (made : Newcomer) (from : Origin) (parent : Option ℕ) (machine : ℕ) (input : Value) (system : Option (List ℕ)) → NextIsFree state
    → record_of state.next_actor made.actor ≡ with_mail (first_letter state.next_letter from input) (fresh_record state.next_actor parent system (Some (fresh_own machine)) None)
    → with_newcomer state made ≡ with_machine state from parent machine input system
made_machine state made from parent machine input system free is =
    let fresh : ActorRecord = fresh_record state.next_actor parent system (Some (fresh_own machine)) None in
    let mail : ActorRecord → ActorRecord = with_mail (first_letter state.next_letter from input) in
    let placed : map (changed_at state.next_actor mail) (state.actors ++ fresh ∷ []) ≡ state.actors ++ mail fresh ∷ [] =
    map-append (changed_at state.next_actor mail) state.actors (fresh ∷ [])
    ∙ ap (λ (front : List ActorRecord). front ++ changed_at state.next_actor mail fresh ∷ []) (others_stay state.next_actor mail state.actors free)
    ∙ ap (λ (b : Bool). state.actors ++ (if b then mail fresh else fresh) ∷ []) (eq-eqb state.next_actor state.next_actor refl) in
    ap (λ (a : ActorRecord). record (with_record state a) { next_letter = state.next_letter + length a.mailbox }) is
    ∙ ap (λ (actors : List ActorRecord). record (with_record state fresh) { actors = actors; next_letter = state.next_letter + 1 }) (sym placed)

-- ---- the end of an actor, and the letter to its parent

if_kept : {Y : Type 0} (g : ActorRecord → Y) (b : Bool) (x y a : ActorRecord) → g x ≡ g a → g y ≡ g a → g (if b then x else y) ≡ g a
if_kept g true x y a one other = one
if_kept g false x y a one other = other

after_end_keeps : {Y : Type 0} (g : ActorRecord → Y) (subtree : List ℕ) (n : ℕ) (end : ActorRecord → ActorRecord) (a : ActorRecord) → g (end a) ≡ g a → g (ended_record status.Stopped a) ≡ g a
    → g (record_after_end subtree n end a) ≡ g a
after_end_keeps g subtree n end a ends stops =
    if_kept g (nat_eq a.number n) (end a) (if is_among subtree a.number then stopped_record a else a) a ends
    (if_kept g (is_among subtree a.number) (stopped_record a) a a (if_kept g (is_active a) (ended_record status.Stopped a) a a stops refl) refl)

end_keeps : (subtree : List ℕ) (n : ℕ) (end : ActorRecord → ActorRecord) → KeepsFamily end → KeepsFamily (record_after_end subtree n end)
end_keeps subtree n end keeps = record {
  number = λ a. after_end_keeps (λ (z : ActorRecord). z.number) subtree n end a (keeps.number a) refl;
  parent = λ a. after_end_keeps (λ (z : ActorRecord). z.parent) subtree n end a (keeps.parent a) refl;
  kids = λ a. after_end_keeps (λ (z : ActorRecord). z.kids) subtree n end a (keeps.kids a) refl;
}

pub done_keeps : (output : Value) → KeepsFamily (done_record output)
done_keeps output = record { number = λ a. refl; parent = λ a. refl; kids = λ a. refl }

pub error_keeps : (error : Value) → KeepsFamily (error_record error)
error_keeps error = record { number = λ a. refl; parent = λ a. refl; kids = λ a. refl }

module _ (state : OfficeState) (end : ActorRecord → ActorRecord) (n : ℕ) (keeps : KeepsFamily end) where
  ended_actors : (after_end end n state).actors ≡ map (record_after_end (subtree_of state n) n end) state.actors
  unfolding after_end
  ended_actors = refl

  -- an end leaves parents and the ids of children
  pub end_parent : (m : ℕ) → parent_actor (after_end end n state) m ≡ parent_actor state m
  end_parent = parent_kept state (after_end end n state) (record_after_end (subtree_of state n) n end) (end_keeps (subtree_of state n) n end keeps) ended_actors

  pub end_child_id : (p m : ℕ) → child_id (after_end end n state) p m ≡ child_id state p m
  end_child_id = child_id_kept state (after_end end n state) (record_after_end (subtree_of state n) n end) (end_keeps (subtree_of state n) n end keeps) ended_actors

-- the letter to the parent of an actor that ends
abbrev pub mail_to_parent : OfficeState → ℕ → (List ℕ → Value) → ℕ → Part
mail_to_parent state n event p = part.Mail (origin.Actor n) p (event (child_id state p n))

-- an end and the letter behind it tell the parent
pub end_told : (state : OfficeState) (end : ActorRecord → ActorRecord) (n : ℕ) (event : List ℕ → Value) → KeepsFamily end
    → fold put_part (after_end end n state) (option_to_list (option_map (mail_to_parent state n event) (parent_actor state n))) ≡ with_letter_to_parent (after_end end n state) n event
end_told state end n event keeps =
    by_parent (after_end end n state) (λ (p : ℕ). child_id (after_end end n state) p n) (λ p. sym (end_child_id state end n keeps p n)) (parent_actor state n)
    ∙ ap (λ (o : Option ℕ). option_map_or (λ (p : ℕ). with_letter (after_end end n state) (origin.Actor n) p (event (child_id (after_end end n state) p n))) o (after_end end n state)) (sym (end_parent state end n keeps n)) where
      by_parent : (after : OfficeState) (id : ℕ → List ℕ) → ((p : ℕ) → child_id state p n ≡ id p) → (o : Option ℕ)
          → fold put_part after (option_to_list (option_map (mail_to_parent state n event) o)) ≡ option_map_or (λ (p : ℕ). with_letter after (origin.Actor n) p (event (id p))) o after
      by_parent after id same None = refl
      by_parent after id same (Some p) = ap (λ (i : List ℕ). with_letter after (origin.Actor n) p (event i)) (same p)

-- ---- an advance

machines_after_letter : (state : OfficeState) (from : Origin) (receiver : ℕ) (event : Value) (n : ℕ) → is_active_machine (with_letter state from receiver event) n ≡ is_active_machine state n
machines_after_letter state from receiver event n =
    let mail : ActorRecord → ActorRecord = with_mail (record { number = state.next_letter; origin = from; event = event }) in
    machines_kept state (with_letter state from receiver event) (changed_at receiver mail) (at_kept (λ (a : ActorRecord). a.number) receiver mail (λ a. refl)) (at_kept runs receiver mail (λ a. refl)) refl n

-- letters to those that are active machine actors at first are the deliveries
pub delivered : (office : OfficeState) (due : List Timer) (state : OfficeState) → ((n : ℕ) → is_active_machine state n ≡ is_active_machine office n)
    → fold put_part state (filter_map (delivery office) due) ≡ fold with_delivery state due
delivered office [] state same = refl
delivered office (timer ∷ due) state same = by_target (delivered office due) (is_active_machine office timer.target) (same timer.target) where
  after : OfficeState
  after = with_letter state (origin.Actor timer.owner) timer.target timer.event

  by_target : ((other : OfficeState) → ((n : ℕ) → is_active_machine other n ≡ is_active_machine office n) → fold put_part other (filter_map (delivery office) due) ≡ fold with_delivery other due)
      → (b : Bool) → is_active_machine state timer.target ≡ b
      → fold put_part state (cons_option (if b then Some (part.Mail (origin.Actor timer.owner) timer.target timer.event) else None) (filter_map (delivery office) due))
      ≡ fold with_delivery (with_delivery state timer) due
  by_target rest true is =
      rest after (λ n. machines_after_letter state (origin.Actor timer.owner) timer.target timer.event n ∙ same n)
      ∙ ap (λ (b : Bool). fold with_delivery (if b then after else state) due) (sym is)
  by_target rest false is = rest state same ∙ ap (λ (b : Bool). fold with_delivery (if b then after else state) due) (sym is)

-- the advance itself leaves who is an active machine actor
pub advanced : (office : OfficeState) (moment : ℕ) → fold put_part office (part.Advance moment ∷ filter_map (delivery office) (due_by moment office.timers)) ≡ after_advance moment office
unfolding after_advance
advanced office moment = delivered office (due_by moment office.timers) (record office { moment = moment; timers = not_due moment office.timers }) (λ n. refl)

-- one timer more
pub one_delivery_more : (office : OfficeState) (due : List Timer) (timer : Timer) → filter_map (delivery office) (due ++ timer ∷ []) ≡ filter_map (delivery office) due ++ option_to_list (delivery office timer)
one_delivery_more office due timer = filter_map-append (delivery office) due (timer ∷ []) ∙ ap (λ (letters : List Part). filter_map (delivery office) due ++ letters) (one (delivery office timer)) where
  one : (o : Option Part) → cons_option o [] ≡ option_to_list o
  one None = refl
  one (Some letter) = refl
