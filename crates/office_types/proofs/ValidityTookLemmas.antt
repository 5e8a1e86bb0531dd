-- A step with an outcome that the rules allow keeps an office valid.
use Rattle.std.proofs.Common.{◌≡◌, ◌≢◌, inl, inr, ℕ, ◌<◌, Bool, true, false, ◌&&◌, true≢false, List, [], ◌∷◌, length, map, drop, refl, sym, ap, subst, ◌∙◌}
use Rattle.std.specs.Prelude.{Option, None, Some, is_some, fold, nat_eq, nat_lt, MatchBool, Ok, Err, if◌then◌else◌, ⊤}
use Rattle.std.specs.List.{AllByRecursion}
use Rattle.std.specs.Option.{option_and_then, option_map_or}
use Rattle.std.specs.Result.{result_unwrap_or}
use Rattle.std.proofs.lemmas.Bool.{and_parts, eqb-true, eqb-false}
use Rattle.std.proofs.lemmas.List.Elements.{All-from_recursion, recursion_from_All}
use Rattle.xs_model.specs.declared.value.Value.{Value}
use Rattle.xs_model.specs.declared.value.Value.TheVariants as value
use Rattle.office_types.specs.declared.office.ActorRecord.{ActorRecord}
use Rattle.office_types.specs.declared.office.Caller.{Caller}
use Rattle.office_types.specs.declared.office.Item.{Item}
use Rattle.office_types.specs.declared.office.Letter.{Letter}
use Rattle.office_types.specs.declared.office.OfficeState.{OfficeState}
use Rattle.office_types.specs.declared.outcome.Effect.{Effect}
use Rattle.office_types.specs.declared.outcome.End.{End}
use Rattle.office_types.specs.declared.outcome.End.TheVariants as end
use Rattle.office_types.specs.declared.outcome.Outcome.{Outcome}
use Rattle.office_types.specs.declared.outcome.Own.{Own}
use Rattle.office_types.specs.Definitions.{AreLinked, OfficeDefinitions, nodes_of}
use Rattle.office_types.specs.Effects.{after_effects}
use Rattle.office_types.specs.Ends.{after_done, after_end, after_failure, after_telling_parent, done_record, error_record}
use Rattle.office_types.specs.Events.{done_event, error_event, fault_error, snapshot_event}
use Rattle.office_types.specs.Fitting.{Fitted, ◌>>=◌}
use Rattle.office_types.specs.Laws.{StepsKeepValidity}
use Rattle.office_types.specs.Limits.{is_event, is_short}
use Rattle.office_types.specs.Mailboxes.{without_head}
use Rattle.office_types.specs.Observation.{after_observation, is_observed, short_snapshot_event, snapshot_of}
use Rattle.office_types.specs.Outcomes.{IsAllowedBy, IsAllowedOutcome, IsThrough, IsUndone, children_after}
use Rattle.office_types.specs.OwnParts.{HasBegun, IsOwnPart}
use Rattle.office_types.specs.Records.{is_active, is_ready, is_ready_actor, actor_record}
use Rattle.office_types.specs.Step.{after_conclusion, after_outcome, or_failure, took, with_own}
use Rattle.office_types.specs.ValidOffice.{HasInitAsHead, HasItsInit, HasNoInit, IsOfOneKind, is_init}
use Rattle.office_types.proofs.ValidityListLemmas.{EachPair, change_at, at_number, at_same, each_look, look_number, pairs_from}
use Rattle.office_types.proofs.ValidityTreeLemmas.{given_in, number_of, record_in}
use Rattle.office_types.proofs.ValidityPartLemmas.{running, runs_in, runs_from, runs_map}
use Rattle.office_types.proofs.ValidityLemmas.{CallerRules, HasKind, SoundOffice, caller_rules, sound_from, valid_from}
use Rattle.office_types.proofs.ValidityChangeLemmas.{Except, head_sound, own_sound}
use Rattle.office_types.proofs.ValidityEventLemmas.{begins_none, done_begins_none, done_is_event, error_begins_none, error_is_event, fault_is_short, snapshot_begins_none, snapshot_is_event}
use Rattle.office_types.proofs.ValidityKindLemmas.{kind_over, parent_runs, stands_done, stands_error, told_if_room}
use Rattle.office_types.proofs.ValidityDecisionLemmas.{ended_sound, given_after, parent_runs_after}
use Rattle.office_types.proofs.ValidityStepLemmas.{MidRecord, MidFits, MidKind, MidSound, effects_fit, sound_kinds}

-- ---- the letter is taken

-- a machine actor whose head letter was taken: the letters left begin none
record HeadTaken (definitions : OfficeDefinitions) (own : Own) (actor : ActorRecord) : Type 0 where
  same : actor.own ≡ Some own
  no_item : actor.item ≡ None
  machine : own.def < length definitions.machines
  part : IsOwnPart (nodes_of definitions own.def) own
  listed : map (λ (kid : List ℕ × ℕ). kid.0) actor.kids ≡ own.children
  no_init : AllByRecursion (λ (letter : Letter). is_init letter ≡ false) actor.mailbox

rest_begins_none : (own : Own) (letters : List Letter) → HasItsInit own letters → AllByRecursion (λ (letter : Letter). is_init letter ≡ false) (drop 1 letters)
rest_begins_none own letters is = by_begun own.begun letters is where
  by_begun : (b : Bool) (ls : List Letter) → MatchBool b (HasNoInit ls) (HasInitAsHead ls) → AllByRecursion (λ (letter : Letter). is_init letter ≡ false) (drop 1 ls)
  by_begun true [] is = tt
  by_begun true (l ∷ ls) is = (recursion_from_All (λ (letter : Letter). is_init letter ≡ false) (l ∷ ls) is).1
  by_begun false [] is = absurd is
  by_begun false (l ∷ ls) is = recursion_from_All (λ (letter : Letter). is_init letter ≡ false) ls is.1

taken_from : (definitions : OfficeDefinitions) (own : Own) (a : ActorRecord) → a.own ≡ Some own → is_active a ≡ true → HasKind definitions a → HeadTaken definitions own (record a { mailbox = drop 1 a.mailbox })
taken_from definitions own a same active kind = by_item a.item refl (subst (λ (o : Option Own). IsOfOneKind definitions a o a.item) same kind) where
  by_item : (item : Option Item) → a.item ≡ item → IsOfOneKind definitions a (Some own) item → HeadTaken definitions own (record a { mailbox = drop 1 a.mailbox })
  by_item None is kind = record { same = same; no_item = is; machine = kind.machine; part = kind.part; listed = kind.kids; no_init = rest_begins_none own a.mailbox (kind.init active) }
  by_item (Some item) is kind = absurd kind

-- the end of one whose letter was taken
over_from : (definitions : OfficeDefinitions) (own : Own) (error : Value) (a : ActorRecord) → HeadTaken definitions own a → HasKind definitions (error_record error a)
over_from definitions own error a taken =
    subst (λ (o : Option Own). IsOfOneKind definitions (error_record error a) o a.item) (sym taken.same) (subst (λ (i : Option Item). IsOfOneKind definitions (error_record error a) (Some own) i) (sym taken.no_item)
    (record { machine = taken.machine; part = taken.part; kids = taken.listed; init = λ active. absurd (true≢false (sym active)) }))

-- ---- failures

module _ (definitions : OfficeDefinitions) (callers : List Caller) (n : ℕ) (own : Own) where
  abbrev HeadTakenKind : ActorRecord → Type 0
  HeadTakenKind = Except (HasKind definitions) n (HeadTaken definitions own)

  failure_sound : (error : Value) (state : OfficeState) → is_short error ≡ true → SoundOffice HeadTakenKind callers state → runs_in state.actors n ≡ true → SoundOffice (HasKind definitions) callers (after_failure n error state)
  failure_sound error state short sound runner =
      let actor = running state.actors n runner in
      let over : OfficeState = after_end (error_record error) n state in
      let ended = ended_sound definitions HeadTakenKind callers state n actor.0 (error_record error) sound actor.1 actor.2 (λ a. refl) (λ a. refl) (λ a. refl) (λ a. refl) (λ a. refl) (λ a. refl)
      (λ a active stands. stands_error error a active short stands) (λ a same kind. over_from definitions own error a (kind.one same)) (λ a differs kind. kind.other differs) in
      let given = given_after definitions HeadTakenKind callers state n actor.0 (error_record error) sound actor.1 actor.2 (λ a. refl) (λ a. refl) (λ a. refl) (λ a. refl) (λ a. refl) (λ a. refl)
      (λ a active stands. stands_error error a active short stands) (λ a same kind. over_from definitions own error a (kind.one same)) (λ a differs kind. kind.other differs) in
      let parents = parent_runs_after definitions HeadTakenKind callers state n actor.0 (error_record error) sound actor.1 actor.2 (λ a. refl) (λ a. refl) (λ a. refl) (λ a. refl) (λ a. refl) (λ a. refl)
      (λ a active stands. stands_error error a active short stands) (λ a same kind. over_from definitions own error a (kind.one same)) (λ a differs kind. kind.other differs) in
      by_told (after_telling_parent over n (error_event error)) ended
      (λ after is. told_if_room definitions callers over n (error_event error) ended given (λ id. error_is_event error id short) (error_begins_none error) parents after is) where
        by_told : (x : Fitted) → SoundOffice (HasKind definitions) callers (after_end (error_record error) n state) → ((after : OfficeState) → x ≡ Ok after → SoundOffice (HasKind definitions) callers after)
            → SoundOffice (HasKind definitions) callers (result_unwrap_or x (after_end (error_record error) n state))
        by_told (Ok after) ended told = told after refl
        by_told (Err name) ended told = ended

-- ---- conclusions

-- what fits is sound
abbrev FitsSound : OfficeDefinitions → List Caller → Fitted → Type 0
FitsSound definitions callers (Ok state) = SoundOffice (HasKind definitions) callers state
FitsSound definitions callers (Err name) = ⊤

fits_from : (definitions : OfficeDefinitions) (callers : List Caller) (x : Fitted) → ((after : OfficeState) → x ≡ Ok after → SoundOffice (HasKind definitions) callers after) → FitsSound definitions callers x
fits_from definitions callers (Ok state) told = told state refl
fits_from definitions callers (Err name) told = tt

short_snapshot_is_event : (snapshot : Value) (id : List ℕ) → is_event (short_snapshot_event snapshot id) ≡ true
short_snapshot_is_event snapshot id = by_length (is_short (snapshot_event snapshot id)) where
  by_length : (b : Bool) → is_event (if b then snapshot_event snapshot id else snapshot_event value.Null id) ≡ true
  by_length true = snapshot_is_event snapshot id
  by_length false = snapshot_is_event value.Null id

short_snapshot_begins_none : (snapshot : Value) (id : List ℕ) → begins_none (short_snapshot_event snapshot id)
short_snapshot_begins_none snapshot id = by_length (is_short (snapshot_event snapshot id)) where
  by_length : (b : Bool) → begins_none (if b then snapshot_event snapshot id else snapshot_event value.Null id)
  by_length true = snapshot_begins_none snapshot id
  by_length false = snapshot_begins_none value.Null id

module _ (definitions : OfficeDefinitions) (callers : List Caller) (n : ℕ) (state : OfficeState) (sound : SoundOffice (HasKind definitions) callers state) (runner : runs_in state.actors n ≡ true) where
  observed_fits : (own : Own) → FitsSound definitions callers (after_observation definitions n own state)
  observed_fits own = by_test (is_observed definitions state n) where
    told : FitsSound definitions callers (after_telling_parent state n (short_snapshot_event (snapshot_of definitions own)))
    told =
        let actor = running state.actors n runner in
        fits_from definitions callers (after_telling_parent state n (short_snapshot_event (snapshot_of definitions own)))
        (told_if_room definitions callers state n (short_snapshot_event (snapshot_of definitions own)) sound (given_in state.next_actor state.actors sound.tree n actor.0 actor.1)
        (short_snapshot_is_event (snapshot_of definitions own)) (short_snapshot_begins_none (snapshot_of definitions own))
        (λ p is. parent_runs definitions (HasKind definitions) callers state sound n p actor.0 actor.1 actor.2 (ap (option_and_then (λ (a : ActorRecord). a.parent)) (sym actor.1) ∙ is) (λ b there less kind. kind)))

    by_test : (b : Bool) → FitsSound definitions callers (if b then after_telling_parent state n (short_snapshot_event (snapshot_of definitions own)) else Ok state)
    by_test true = told
    by_test false = sound

  done_fits : (output : Value) → is_short output ≡ true → FitsSound definitions callers (after_done n output state)
  done_fits output short =
      let actor = running state.actors n runner in
      let over : OfficeState = after_end (done_record output) n state in
      let ended = ended_sound definitions (HasKind definitions) callers state n actor.0 (done_record output) sound actor.1 actor.2 (λ a. refl) (λ a. refl) (λ a. refl) (λ a. refl) (λ a. refl) (λ a. refl)
      (λ a active stands. stands_done output a active short stands) (λ a same kind. kind_over definitions a (done_record output a) refl refl refl refl refl refl kind) (λ a differs kind. kind) in
      let given = given_after definitions (HasKind definitions) callers state n actor.0 (done_record output) sound actor.1 actor.2 (λ a. refl) (λ a. refl) (λ a. refl) (λ a. refl) (λ a. refl) (λ a. refl)
      (λ a active stands. stands_done output a active short stands) (λ a same kind. kind_over definitions a (done_record output a) refl refl refl refl refl refl kind) (λ a differs kind. kind) in
      let parents = parent_runs_after definitions (HasKind definitions) callers state n actor.0 (done_record output) sound actor.1 actor.2 (λ a. refl) (λ a. refl) (λ a. refl) (λ a. refl) (λ a. refl) (λ a. refl)
      (λ a active stands. stands_done output a active short stands) (λ a same kind. kind_over definitions a (done_record output a) refl refl refl refl refl refl kind) (λ a differs kind. kind) in
      fits_from definitions callers (after_telling_parent over n (done_event output))
      (told_if_room definitions callers over n (done_event output) ended given (λ id. done_is_event output id short) (done_begins_none output) parents)

-- ---- the step

module _ (definitions : OfficeDefinitions) (linked : AreLinked definitions) (callers : List Caller) (n : ℕ) (own : Own) (outcome : Outcome) (taken : OfficeState) (sound : SoundOffice (HeadTakenKind definitions callers n own) callers taken)
    (runner : runs_in taken.actors n ≡ true) where
  part_runs : runs_in (with_own n outcome.own taken).actors n ≡ true
  part_runs =
      runs_map (change_at number_of n (λ (a : ActorRecord). record a { own = Some outcome.own })) taken.actors (at_number number_of n (λ (a : ActorRecord). record a { own = Some outcome.own }) (λ a. refl)) n
      (λ a seen active is. (at_same number_of is_active n (λ (z : ActorRecord). record z { own = Some outcome.own }) (λ z. refl) a ∙ active, by_test a is (nat_eq a.number n))) runner where
        by_test : (a : ActorRecord) → is_some a.own ≡ true → (b : Bool) → is_some (if b then record a { own = Some outcome.own } else a).own ≡ true
        by_test a is true = refl
        by_test a is false = is

  -- the own part in place, before any effect
  begun_mid : IsThrough definitions own outcome → EachPair (λ (a b : List ℕ). a ≢ b) own.children → MidSound definitions linked callers n outcome.own own.children (with_own n outcome.own taken)
  begun_mid through differ = record {
    sound = own_sound (HeadTakenKind definitions callers n own) (MidKind definitions linked callers n outcome.own own.children) callers taken n outcome.own sound
        (λ a differs kind. record { other = kind.other; one = λ same. absurd (differs same) })
        (λ a seen kind. record {
          other = λ differs. absurd (differs (look_number number_of taken.actors n a seen));
          one = λ is. (let before = kind.one is in record { same = refl; no_item = before.no_item; listed = before.listed; no_init = before.no_init });
        });
    runner = part_runs;
    differ = differ;
  }

  -- the children are those of the own part again
  whole : IsThrough definitions own outcome → own.def < length definitions.machines → (state : OfficeState) → MidSound definitions linked callers n outcome.own (fold children_after own.children outcome.effects) state → SoundOffice (HasKind definitions) callers state
  whole through below_count state mid =
      sound_kinds (MidKind definitions linked callers n outcome.own (fold children_after own.children outcome.effects)) (HasKind definitions) callers state (λ a kind. by_number a kind (nat_eq a.number n) refl) mid.sound where
        its_kind : (a : ActorRecord) → MidRecord outcome.own (fold children_after own.children outcome.effects) a → HasKind definitions a
        its_kind a is =
            subst (λ (o : Option Own). IsOfOneKind definitions a o a.item) (sym is.same) (subst (λ (i : Option Item). IsOfOneKind definitions a (Some outcome.own) i) (sym is.no_item) (record {
              machine = subst (λ (m : ℕ). m < length definitions.machines) (sym through.machine) below_count;
              part = inr (subst (λ (m : ℕ). HasBegun (nodes_of definitions m) outcome.own) (sym through.machine) through.begun);
              kids = is.listed ∙ sym through.children;
              init = λ active. subst (λ (b : Bool). MatchBool b (HasNoInit a.mailbox) (HasInitAsHead a.mailbox)) (sym through.begun.begun)
                  (All-from_recursion (λ (letter : Letter). is_init letter ≡ false) a.mailbox is.no_init);
            }))

        by_number : (a : ActorRecord) → MidKind definitions linked callers n outcome.own (fold children_after own.children outcome.effects) a → (b : Bool) → nat_eq a.number n ≡ b → HasKind definitions a
        by_number a kind true is = its_kind a (kind.one (eqb-true a.number n is))
        by_number a kind false is = kind.other (eqb-false a.number n is)

  through_fits : IsThrough definitions own outcome → own.def < length definitions.machines → EachPair (λ (a b : List ℕ). a ≢ b) own.children → (conclusion : OfficeState → Fitted)
      → ((state : OfficeState) → SoundOffice (HasKind definitions) callers state → runs_in state.actors n ≡ true → FitsSound definitions callers (conclusion state))
      → FitsSound definitions callers (after_effects definitions n outcome.effects (with_own n outcome.own taken) >>= conclusion)
  through_fits through below_count differ conclusion concludes =
      by_effects (after_effects definitions n outcome.effects (with_own n outcome.own taken)) (effects_fit definitions linked callers n outcome.own outcome.effects own.children (with_own n outcome.own taken) (begun_mid through differ) through.effects) where
        by_effects : (x : Fitted) → MidFits definitions linked callers n outcome.own (fold children_after own.children outcome.effects) x → FitsSound definitions callers (x >>= conclusion)
        by_effects (Ok state) mid = concludes state (whole through below_count state mid) mid.runner
        by_effects (Err name) mid = tt

  undone_fits : (error : Value) → IsUndone own outcome → is_short error ≡ true → FitsSound definitions callers (after_effects definitions n outcome.effects (with_own n outcome.own taken) >>= (λ state. Ok (after_failure n error state)))
  unfolding after_effects
  undone_fits error undone short =
      let same_part : Some outcome.own ≡ Some own = ap (λ (o : Own). Some o) undone.own_part in
      let part = own_sound (HeadTakenKind definitions callers n own) (HeadTakenKind definitions callers n own) callers taken n outcome.own sound (λ a differs kind. kind)
      (λ a seen kind. record {
        other = λ differs. absurd (differs (look_number number_of taken.actors n a seen));
        one = λ is. (
            let before = kind.one is in
            record { same = same_part; no_item = before.no_item; machine = before.machine; part = before.part; listed = before.listed; no_init = before.no_init });
      }) in
      subst (λ (effects : List Effect). FitsSound definitions callers (after_effects definitions n effects (with_own n outcome.own taken) >>= (λ state. Ok (after_failure n error state)))) (sym undone.effects)
      (failure_sound definitions callers n own error (with_own n outcome.own taken) short part part_runs)

  outcome_fits : IsAllowedOutcome definitions own outcome → own.def < length definitions.machines → EachPair (λ (a b : List ℕ). a ≢ b) own.children → FitsSound definitions callers (after_outcome definitions n outcome taken)
  outcome_fits allowed below_count differ = by_end outcome.end allowed where
    by_end : (e : End) → IsAllowedBy definitions own outcome e → FitsSound definitions callers (after_effects definitions n outcome.effects (with_own n outcome.own taken) >>= after_conclusion definitions n outcome.own e)
    by_end end.Active allowed = through_fits allowed below_count differ (after_conclusion definitions n outcome.own end.Active) (λ state is runs_on. observed_fits definitions callers n state is runs_on outcome.own)
    by_end (end.Done output) allowed = through_fits allowed.0 below_count differ (after_conclusion definitions n outcome.own (end.Done output)) (λ state is runs_on. done_fits definitions callers n state is runs_on output allowed.1)
    by_end (end.Error error) allowed = undone_fits error allowed.0 allowed.1

  step_sound : IsAllowedOutcome definitions own outcome → own.def < length definitions.machines → EachPair (λ (a b : List ℕ). a ≢ b) own.children → SoundOffice (HasKind definitions) callers (or_failure n taken (after_outcome definitions n outcome taken))
  step_sound allowed below_count differ = by_fit (after_outcome definitions n outcome taken) (outcome_fits allowed below_count differ) where
    by_fit : (x : Fitted) → FitsSound definitions callers x → SoundOffice (HasKind definitions) callers (or_failure n taken x)
    by_fit (Ok state) is = is
    by_fit (Err name) is = failure_sound definitions callers n own (fault_error name) taken (fault_is_short name) sound runner

-- ---- the law

-- the ids of children are distinct, whether the own part has begun or not
children_differ : (definitions : OfficeDefinitions) (own : Own) → IsOwnPart (nodes_of definitions own.def) own → EachPair (λ (a b : List ℕ). a ≢ b) own.children
children_differ definitions own (inl fresh) = subst (EachPair (λ (a b : List ℕ). a ≢ b)) (sym (ap (λ (o : Own). o.children) fresh)) tt
children_differ definitions own (inr begun) = pairs_from (λ (a b : List ℕ). a ≢ b) own.children begun.children.distinct

ready_record : (state : OfficeState) (n : ℕ) → is_ready state n ≡ true → (a : ActorRecord) × (record_in state.actors n ≡ Some a) × (is_active a ≡ true) × (is_some a.own ≡ true)
ready_record state n is = by_record (actor_record state n) refl is where
  by_record : (o : Option ActorRecord) → actor_record state n ≡ o → option_map_or is_ready_actor o false ≡ true → (a : ActorRecord) × (record_in state.actors n ≡ Some a) × (is_active a ≡ true) × (is_some a.own ≡ true)
  by_record None seen is = absurd (true≢false (sym is))
  by_record (Some a) seen is =
      let parts = and_parts (is_active a) (is_some a.own && nat_lt 0 (length a.mailbox)) is in
      (a, seen, parts.0, (and_parts (is_some a.own) (nat_lt 0 (length a.mailbox)) parts.1).0)

abbrev pub IsMachineOf : OfficeDefinitions → ActorRecord → Own → Type 0
IsMachineOf definitions actor own = (own.def < length definitions.machines) × IsOwnPart (nodes_of definitions own.def) own

pub machine_of : (definitions : OfficeDefinitions) (a : ActorRecord) (own : Own) → a.own ≡ Some own → HasKind definitions a → IsMachineOf definitions a own
machine_of definitions a own same kind = by_item a.item (subst (λ (o : Option Own). IsOfOneKind definitions a o a.item) same kind) where
  by_item : (item : Option Item) → IsOfOneKind definitions a (Some own) item → IsMachineOf definitions a own
  by_item None kind = (kind.machine, kind.part)
  by_item (Some item) kind = absurd kind

pub steps_keep_validity : StepsKeepValidity
unfolding took
steps_keep_validity definitions state n own outcome linked valid ready owns allowed room =
    let sound : SoundOffice (HasKind definitions) state.callers state = sound_from definitions state valid room in
    let actor = ready_record state n ready in
    let its_own : actor.0.own ≡ Some own = ap (option_and_then (λ (a : ActorRecord). a.own)) (sym actor.1) ∙ owns in
    let taken : OfficeState = without_head state n in
    let take : ActorRecord → ActorRecord = λ (a : ActorRecord). record a { mailbox = drop 1 a.mailbox } in
    let sound_taken : SoundOffice (HeadTakenKind definitions state.callers n own) state.callers taken =
    head_sound (HasKind definitions) (HeadTakenKind definitions state.callers n own) state.callers state n sound
    (λ a differs kind. record { other = λ other. kind; one = λ same. absurd (differs same) })
    (λ a seen kind. (
    let same_record : Some actor.0 ≡ Some a = sym actor.1 ∙ seen in
    let same : actor.0 ≡ a = cc in
    record {
      other = λ differs. absurd (differs (look_number number_of state.actors n a seen));
      one = λ is. taken_from definitions own a (ap (λ (z : ActorRecord). z.own) (sym same) ∙ its_own) (ap is_active (sym same) ∙ actor.2) kind;
    })) in
    let runner : runs_in taken.actors n ≡ true =
    runs_map (change_at number_of n take) state.actors (at_number number_of n take (λ a. refl)) n
    (λ a seen active is. (at_same number_of is_active n take (λ z. refl) a ∙ active, at_same number_of (λ (z : ActorRecord). is_some z.own) n take (λ z. refl) a ∙ is))
    (runs_from state.actors n actor.0 actor.1 actor.2 actor.3) in
    let kind : IsMachineOf definitions actor.0 own = machine_of definitions actor.0 own its_own (each_look number_of (HasKind definitions) state.actors sound.kinds n actor.0 actor.1) in
    let after : OfficeState = or_failure n taken (after_outcome definitions n outcome taken) in
    let sound_after : SoundOffice (HasKind definitions) state.callers after = step_sound definitions linked state.callers n own outcome taken sound_taken runner allowed kind.0 (children_differ definitions own kind.1) in
    valid_from definitions after after.callers state.callers (subst CallerRules (sym sound_after.counts.same_callers) (caller_rules definitions state valid)) sound_after
