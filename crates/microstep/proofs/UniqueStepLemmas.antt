-- The same own part, transitions and event make one microstep.
use Rattle.std.proofs.Common.{◌≡◌, ◌≢◌, ◌⊎◌, ◌<◌, ℕ, suc, List, [], ◌∷◌, ◌++◌, reverse, Option, Some, None, Ok, Err, refl, sym, ap, subst, arith, inl, inr, ◌∙◌}
use Rattle.std.specs.List.{AllPairs, Contains, flat_map}
use Rattle.std.specs.Option.{IsSomeAnd}
use Rattle.std.proofs.lemmas.Bool.{cases_eq}
use Rattle.std.proofs.lemmas.Bool.Decides.{nat_tests}
use Rattle.node_tree.specs.Kinds.{IsHistory, Nodes}
use Rattle.node_tree.specs.Nodes.{parent_of}
use Rattle.step_sets.specs.Goals.{History, record_of}
use Rattle.step_sets.specs.History.{Departure, IsNewRecord, IsRecordedNow, IsRemembered, RecordsHistory}
use Rattle.step_sets.specs.Sets.{IsSetOf}
use Rattle.step_sets.proofs.GoalLemmas.{decide_history}
use Rattle.step_sets.proofs.ListLemmas.{Contains-cons_cases, Contains-here, Contains-there, decide_any}
use Rattle.step_sets.proofs.TreeLemmas.{one_parent}
use Rattle.xs_model.specs.declared.expr.Expr.TheVariants as expr
use Rattle.xs_model.specs.declared.value.Value.{Value}
use Rattle.guard_eval.specs.declared.def.Def.{Def}
use Rattle.guard_eval.specs.declared.transition.Transition.{Transition}
use Rattle.office_types.specs.declared.outcome.FaultName.{FaultName}
use Rattle.office_types.specs.declared.outcome.Own.{Own}
use Rattle.microstep.specs.declared.micro.Micro.{Micro}
use Rattle.microstep.specs.declared.moves.Move.{Move}
use Rattle.microstep.specs.declared.progress.Progress.{Progress}
use Rattle.microstep.specs.Acts.{Act, after_acts, entry_acts, exit_acts, runs}
use Rattle.microstep.specs.DoneEvents.{AreDoneActs, IsClimb, end, further, node_id, output_of}
use Rattle.microstep.specs.DoneEvents as events
use Rattle.microstep.specs.Micro.{AreActs, AreEntryActs, Ends, IsActiveAfter, IsActiveAt, IsEnteredByOne, IsFirstMicrostep, IsFirstMove, IsMicrostep, IsMove, begins, ends, first_context, goes_on, no_context}
use Rattle.microstep.specs.Parts.{Stepped}
use Rattle.microstep.specs.Progress.{progress_of}
use Rattle.microstep.proofs.UniqueLemmas.{list-unique, rises-by, set-unique, zip-unique}

-- ---- histories

-- a record
abbrev Row : Type 0
Row = ℕ × List ℕ

abbrev Rises : History → Type 0
Rises history = AllPairs (λ (a b : Row). a.0 < b.0) history

at-node : (row : Row) (rest : History) (h : ℕ) → row.0 ≡ h → record_of (row ∷ rest) h ≡ Some row.1
at-node row rest h same = grind (arith, nat_tests)

past-node : (row : Row) (rest : History) (h : ℕ) → row.0 ≢ h → record_of (row ∷ rest) h ≡ record_of rest h
past-node row rest h apart = grind (arith, nat_tests)

-- what a rising history has is what is recorded
recorded-there : (history : History) → Rises history → (row : Row) → Contains history row → record_of history row.0 ≡ Some row.1
recorded-there [] rise row (k, inside, is) = absurd (omega (arith, inside))
recorded-there (first ∷ rest) rise row has =
    elim (Contains-cons_cases row first rest has) [
      | inl same ↦ at-node first rest row.0 (ap (λ (r : Row). r.0) same) ∙ ap (λ (r : Row). Some r.1) same
      | inr later ↦ past-node first rest row.0 (λ same. beyond later same) ∙ recorded-there rest (λ i j d less inside. rise (suc i) (suc j) d (omega (arith, less)) (omega (arith, inside))) row later
    ]
  where
    beyond : Contains rest row → first.0 ≡ row.0 → ⊥
    beyond (k, inside, is) same =
        let less = rise 0 (suc k) row (omega arith) (omega (arith, inside)) in
        let P : Row → Type 0 = λ r. first.0 < r.0 in
        let below : first.0 < row.0 = subst P is less in
        omega (arith, below, same)

there-recorded : (history : History) (h : ℕ) (list : List ℕ) → record_of history h ≡ Some list → Contains history (h, list)
there-recorded [] h list at = absurd cc
there-recorded (first ∷ rest) h list at =
    elim (cases_eq first.0 h) [
      | inl same ↦
          (let found : Some first.1 ≡ Some list = sym (at-node first rest h same) ∙ at in
          let one : first.1 ≡ list = cc in
          let whole : first ≡ (h, list) = λ i. (same i, one i) in
          let P : Row → Type 0 = λ r. Contains (first ∷ rest) r in
          subst P whole (Contains-here first rest))
      | inr apart ↦ Contains-there (h, list) first rest (there-recorded rest h list (sym (past-node first rest h apart) ∙ at))
    ]

-- rising histories that record the same are one
history-same : (a b : History) → Rises a → Rises b → ((h : ℕ) → record_of a h ≡ record_of b h) → a ≡ b
history-same a b rise-a rise-b each =
    list-unique (λ (row : Row). row.0) a b rise-a rise-b (λ row has. there-recorded b row.0 row.1 (sym (each row.0) ∙ recorded-there a rise-a row has))
    (λ row has. there-recorded a row.0 row.1 (each row.0 ∙ recorded-there b rise-b row has))

decide-recorded : (nodes : Nodes) (exits : List ℕ) (h : ℕ) → IsRecordedNow nodes exits h ⊎ ¬ IsRecordedNow nodes exits h
decide-recorded nodes exits h = elim (decide_history nodes h) [
  | inr out ↦ inr (λ now. out now.0)
  | inl is ↦ by_parent is (parent_of nodes h) refl
]
  where
    by_parent : IsHistory nodes h → (o : Option ℕ) → parent_of nodes h ≡ o → IsRecordedNow nodes exits h ⊎ ¬ IsRecordedNow nodes exits h
    by_parent is None orphan = inr (λ now. let (history, parent, child, left) = now in absurd (let both : None ≡ Some parent = sym orphan ∙ child in cc))
    by_parent is (Some parent) child = elim (decide_any (λ n. n ≡ parent) (λ n. cases_eq n parent) exits) [
      | inl (n, has, same) ↦ (let P : ℕ → Type 0 = λ m. Contains exits m in inl (is, parent, child, subst P same has))
      | inr out ↦ inr (λ now. let (history, other, child-too, left) = now in out other left (one_parent nodes h other parent child-too child))
    ]

record-same : (nodes : Nodes) (departure : Departure) (h : ℕ) (a b : Option (List ℕ)) → IsNewRecord nodes departure h a → IsNewRecord nodes departure h b → a ≡ b
record-same nodes departure h a b new-a new-b = elim (decide-recorded nodes departure.exits h) [
  | inl now ↦ by_sets a b (new-a.recorded now) (new-b.recorded now)
  | inr out ↦ new-a.kept out ∙ sym (new-b.kept out)
]
  where
    by_sets : (x y : Option (List ℕ)) → IsSomeAnd x (IsSetOf (IsRemembered nodes departure.active h)) → IsSomeAnd y (IsSetOf (IsRemembered nodes departure.active h)) → x ≡ y
    by_sets None y set-x set-y = absurd set-x
    by_sets (Some x) None set-x set-y = absurd set-y
    by_sets (Some x) (Some y) set-x set-y = ap Some (set-unique x y set-x set-y (λ n has. has) (λ n has. has))

pub history-unique : (nodes : Nodes) (departure : Departure) (a b : History) → RecordsHistory nodes departure a → RecordsHistory nodes departure b → a ≡ b
history-unique nodes departure a b records-a records-b =
    history-same a b (rises-by (λ (row : Row). row.0) a records-a.in_order) (rises-by (λ (row : Row). row.0) b records-b.in_order)
    (λ h. record-same nodes departure h (record_of a h) (record_of b h) (records-a.each h) (records-b.each h))

-- ---- moves

move-same : (a b : Move) → a.left ≡ b.left → a.history ≡ b.history → a.entered ≡ b.entered → a.configuration ≡ b.configuration → a ≡ b
move-same a b left history entered configuration = λ i. record { left = left i; history = history i; entered = entered i; configuration = configuration i }

move-unique : (def : Def) (own : Own) (transitions : List Transition) (a b : Move) → IsMove def own transitions a → IsMove def own transitions b → a ≡ b
move-unique def own transitions a b is-a is-b =
    let left : a.left ≡ b.left = set-unique a.left b.left is-a.left is-b.left (λ n has. has) (λ n has. has) in
    let Records : List ℕ → Type 0 = λ exits. RecordsHistory def.tree (record { active = own.nodes; exits = exits; recorded = own.history }) b.history in
    let history : a.history ≡ b.history = history-unique def.tree (record { active = own.nodes; exits = a.left; recorded = own.history }) a.history b.history is-a.history (subst Records (sym left) is-b.history) in
    let Entered : History → Type 0 = λ h. IsSetOf (IsEnteredByOne def h transitions) b.entered in
    let entered : a.entered ≡ b.entered = set-unique a.entered b.entered is-a.entered (subst Entered (sym history) is-b.entered) (λ n has. has) (λ n has. has) in
    move-same a b left history entered
    (set-unique a.configuration b.configuration is-a.configuration is-b.configuration (λ n active. along a b left entered n active) (λ n active. along b a (sym left) (sym entered) n active))
  where
    along : (x y : Move) → x.left ≡ y.left → x.entered ≡ y.entered → (n : ℕ) → IsActiveAfter own x n → IsActiveAfter own y n
    along x y left entered n (inl kept) = let P : List ℕ → Type 0 = λ exits. Contains own.nodes n × ¬ Contains exits n in inl (subst P left kept)
    along x y left entered n (inr has) = let P : List ℕ → Type 0 = λ nodes. Contains nodes n in inr (subst P entered has)

first-move-unique : (def : Def) (a b : Move) → IsFirstMove def a → IsFirstMove def b → a ≡ b
first-move-unique def a b is-a is-b =
    let entered : a.entered ≡ b.entered = set-unique a.entered b.entered is-a.entered is-b.entered (λ n has. has) (λ n has. has) in
    move-same a b (is-a.left ∙ sym is-b.left) (is-a.history ∙ sym is-b.history) entered (is-a.configuration ∙ entered ∙ sym is-b.configuration)

-- ---- acts

module _ (def : Def) (Active : ℕ → Type 0) where
  climb-unique : (low : ℕ) (a b : List Act) → IsClimb def Active low a → IsClimb def Active low b → a ≡ b
  climb-unique low a b (end out) (end out-too) = refl
  climb-unique low a b (end out) (further {high = high} climbs rest) = absurd (out high climbs)
  climb-unique low a b (further {high = high} climbs rest) (end out) = absurd (out high climbs)
  climb-unique low a b (further {high = x} {above = us} climbs rest) (further {high = y} {above = vs} climbs-too rest-too) =
      let same : y ≡ x = one_parent def.tree low y x climbs-too.parent climbs.parent in
      let P : ℕ → Type 0 = λ n. IsClimb def Active n vs in
      let one : us ≡ vs = climb-unique x us vs rest (subst P same rest-too) in
      λ i. Act.RaiseDone (node_id def.tree (sym same i)) expr.Null ∷ one i

  done-unique : (n : ℕ) (a b : List Act) → AreDoneActs def Active n a → AreDoneActs def Active n b → a ≡ b
  done-unique n a b (events.none out) (events.none out-too) = refl
  done-unique n a b (events.none out) (events.ends {parent = parent} {initial = initial} is climb) = absurd (out parent initial is)
  done-unique n a b (events.ends {parent = parent} {initial = initial} is climb) (events.none out) = absurd (out parent initial is)
  done-unique n a b (events.ends {parent = x} {above = us} is climb) (events.ends {parent = y} {above = vs} is-too climb-too) =
      let same : y ≡ x = one_parent def.tree n y x is-too.child is.child in
      let P : ℕ → Type 0 = λ m. IsClimb def Active m vs in
      let one : us ≡ vs = climb-unique x us vs climb (subst P same climb-too) in
      λ i. Act.RaiseDone (node_id def.tree (sym same i)) (output_of def n) ∷ one i

module _ (def : Def) (own : Own) (transitions : List Transition) (move : Move) where
  entry-unique : (n : ℕ) (a b : List Act) → AreEntryActs def own move n a → AreEntryActs def own move n b → a ≡ b
  entry-unique n a b are are-too =
      are.acts_are ∙ ap (λ (done : List Act). entry_acts def n ++ done) (done-unique def (IsActiveAt own move n) n are.done are-too.done are.done_events are-too.done_events) ∙ sym are-too.acts_are

  acts-unique : (a b : List Act) → AreActs def own transitions move a → AreActs def own transitions move b → a ≡ b
  acts-unique a b are are-too =
      let entries : are.entries ≡ are-too.entries = zip-unique (AreEntryActs def own move) entry-unique move.entered are.entries are-too.entries are.each_entry are-too.each_entry in
      let All : List (List Act) → List Act = λ entries. flat_map (exit_acts def) (reverse move.left) ++ flat_map (λ (transition : Transition). runs transition.actions) transitions ++ flat_map (λ (entry : List Act). entry) entries in
      are.acts_are ∙ ap All entries ∙ sym are-too.acts_are

-- ---- microsteps

ends-unique : (def : Def) (own : Own) (move : Move) (event : Value) (done : Stepped Progress) (a b : Stepped Micro) → Ends def own move event done a → Ends def own move event done b → a ≡ b
ends-unique def own move event done a b (goes_on out) (goes_on out-too) = refl
ends-unique def own move event done a b (goes_on out) (ends over) = absurd (out over)
ends-unique def own move event done a b (ends over) (goes_on out) = absurd (out over)
ends-unique def own move event done a b (ends over) (ends over-too) = refl

-- the same start, move and acts come to one end
end-unique : (def : Def) (own : Own) (transitions : List Transition) (event : Value) (start : Progress) (a b : Stepped Micro) (move-a move-b : Move) (acts-a acts-b : List Act) → move-a ≡ move-b
    → AreActs def own transitions move-a acts-a → AreActs def own transitions move-b acts-b
    → Ends def own move-a event (after_acts event acts-a start) a → Ends def own move-b event (after_acts event acts-b start) b → a ≡ b
end-unique def own transitions event start a b move-a move-b acts-a acts-b move are-a are-b ends-a ends-b =
    let Acts : Move → Type 0 = λ m. AreActs def own transitions m acts-b in
    let acts : acts-a ≡ acts-b = acts-unique def own transitions move-a acts-a acts-b are-a (subst Acts (sym move) are-b) in
    let Moved : Move → Type 0 = λ m. Ends def own m event (after_acts event acts-b start) b in
    let Done : List Act → Type 0 = λ acts. Ends def own move-a event (after_acts event acts start) b in
    ends-unique def own move-a event (after_acts event acts-a start) a b ends-a (subst Done (sym acts) (subst Moved (sym move) ends-b))

pub microstep-unique : (def : Def) (own : Own) (transitions : List Transition) (event : Value) (a b : Stepped Micro) → IsMicrostep def own transitions event a → IsMicrostep def own transitions event b → a ≡ b
microstep-unique def own transitions event a b is-a is-b =
    end-unique def own transitions event (progress_of own) a b is-a.move is-b.move is-a.acts is-b.acts (move-unique def own transitions is-a.move is-b.move is-a.moves is-b.moves) is-a.acts_are is-b.acts_are is-a.ends is-b.ends

clash : (def : Def) (event : Value) (name : FaultName) (context : Value) → first_context def event ≡ Err name → first_context def event ≡ Ok context → ⊥
clash def event name context is is-too = cc (is, is-too)

pub first-microstep-unique : (def : Def) (own : Own) (event : Value) (a b : Stepped Micro) → IsFirstMicrostep def own event a → IsFirstMicrostep def own event b → a ≡ b
first-microstep-unique def own event a b (no_context {name = x} is) (no_context {name = y} is-too) = let one : x ≡ y = cc (is, is-too) in ap Err one
first-microstep-unique def own event a b (no_context {name = x} is) (begins {context = context} is-too moves are last) = absurd (clash def event x context is is-too)
first-microstep-unique def own event a b (begins {context = context} is moves are last) (no_context {name = x} is-too) = absurd (clash def event x context is-too is)
first-microstep-unique def own event a b (begins {context = x} {move = move-a} {acts = acts-a} is moves are last) (begins {context = y} {move = move-b} {acts = acts-b} is-too moves-too are-too last-too) =
    let context : y ≡ x = cc (is, is-too) in
    let Start : Value → Type 0 = λ v. Ends def own move-b event (after_acts event acts-b (record (progress_of own) { context = v })) b in
    end-unique def own [] event (record (progress_of own) { context = x }) a b move-a move-b acts-a acts-b (first-move-unique def move-a move-b moves moves-too) are are-too last (subst Start context last-too)
