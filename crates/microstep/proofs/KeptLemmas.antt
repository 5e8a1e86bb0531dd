-- What a microstep does keeps what is done so far allowed, and what it leaves is allowed.
use Rattle.std.proofs.Common.{◌≡◌, ◌<◌, ◌≤◌, ℕ, zero, suc, Bool, true, false, IsTrue, List, [], ◌∷◌, ◌++◌, length, map, reverse, fold, Option, Some, None, IfSome, Ok, Err, refl, sym, ap, subst, arith, ◌∙◌}
use Rattle.std.specs.Prelude.{IfOk, Result, slice_get, codes}
use Rattle.std.specs.List.{All, AllZip, Contains, flat_map}
use Rattle.std.specs.Option.{option_map_or}
use Rattle.std.proofs.lemmas.List.Elements.{All-contains, All-nil}
use Rattle.node_tree.specs.Nodes.{IsTree}
use Rattle.guard_eval.specs.declared.def.Def.{Def}
use Rattle.guard_eval.specs.declared.def.Invocation.{Invocation}
use Rattle.guard_eval.specs.declared.def.NodeDef.{NodeDef}
use Rattle.guard_eval.specs.declared.transition.ActionUse.{ActionUse}
use Rattle.guard_eval.specs.declared.transition.Transition.{Transition}
use Rattle.guard_eval.specs.Definitions.{HasAfterTypes, IsAfterType, IsNodeOf, IsWellFormed, StartsActors}
use Rattle.office_types.specs.declared.outcome.Effect.TheVariants as effect
use Rattle.office_types.specs.declared.outcome.Own.{Own}
use Rattle.office_types.specs.declared.outcome.To.TheVariants as to
use Rattle.office_types.specs.Definitions.{ActorLogic, OfficeDefinitions}
use Rattle.office_types.specs.Effects.{fresh_own}
use Rattle.office_types.specs.Events.{event_type, init_type}
use Rattle.office_types.specs.Limits.{is_context, is_event, is_name}
use Rattle.office_types.specs.Outcomes.{AreAllowedEffects, IsTimed, children_after}
use Rattle.office_types.specs.OwnParts.{HasBegun, IsConfiguration, IsContext, IsRecordedHistory, is_map_layer}
use Rattle.xs_model.specs.declared.expr.Expr.{Expr}
use denote.Hole.Carrier.{out, shown, hidden}
use Rattle.xs_model.specs.declared.value.Value.{Value, out-Value}
use Rattle.xs_model.specs.declared.value.Value.TheBlock.{shown-the_row-Value-1}
use Rattle.microstep.specs.declared.micro.Micro.{Micro}
use Rattle.microstep.specs.declared.micro.Picked.{Picked}
use Rattle.microstep.specs.declared.micro.StepFault.{StepFault}
use Rattle.microstep.specs.declared.moves.Move.{Move}
use Rattle.microstep.specs.declared.progress.Progress.{Progress}
use Rattle.microstep.specs.Actions.{checked_context, in_turn}
use Rattle.microstep.specs.Acts.{Act, after_act, after_acts, after_event, cancels, checked_system, done_state_event, entries_of, entry_acts, exit_acts, exits_of, invokes, last_acts, plain_scope, runs, starts, stops}
use Rattle.microstep.specs.Allowed.{IsAllowedSoFar}
use Rattle.microstep.specs.DoneEvents.{AreDoneActs, IsClimb, end, further}
use Rattle.microstep.specs.DoneEvents as events
use Rattle.microstep.specs.Micro.{AreActs, AreEntryActs, Ends, IsFirstMicrostep, IsMicrostep, after_end, as_map, begins, ends, first_context, goes_on, machine_output, micro_of, no_context}
use Rattle.microstep.specs.Parts.{Stepped, and_then, checked_name, delay_in, short_in, value_in}
use Rattle.microstep.specs.Progress.{progress_of, with_child, with_effect, with_raised}
use Rattle.microstep.specs.Selection.{transition_at}
use Rattle.microstep.specs.Taking.{CanBeTaken, IsAnswered, LeavesAllowed, transitions_at}
use Rattle.microstep.proofs.ActionLemmas.{action-kept}
use Rattle.microstep.proofs.AllowedLemmas.{with-child, with-effect, with-raised, with-stop}
use Rattle.microstep.proofs.ExitLemmas.{transition-numbers}
use Rattle.microstep.proofs.MovedLemmas.{configuration-after, first-configuration, history-after, in-filter_map}
use Rattle.microstep.proofs.PartLemmas.{delay-inside, if-ok, ok-inside, short-inside}

-- ---- what holds of each act

abbrev Each : {X : Type 0} → (X → Type 0) → List X → Type 0
Each P [] = Unit {0}
Each P (x ∷ xs) = P x × Each P xs

each-append : {X : Type 0} (P : X → Type 0) (xs ys : List X) → Each P xs → Each P ys → Each P (xs ++ ys)
each-append P [] ys first rest = rest
each-append P (x ∷ xs) ys first rest = (first.0, each-append P xs ys first.1 rest)

each-three : {X : Type 0} (P : X → Type 0) (xs ys zs : List X) → Each P xs → Each P ys → Each P zs → Each P (xs ++ ys ++ zs)
each-three P xs ys zs first second third = each-append P (xs ++ ys) zs (each-append P xs ys first second) third

each-from-all : {X Y : Type 0} (P : X → Type 0) (Q : Y → Type 0) (f : X → Y) → ((x : X) → P x → Q (f x)) → (xs : List X) → All P xs → Each Q (map f xs)
each-from-all P Q f to [] all = tt
each-from-all P Q f to (x ∷ xs) all = (to x (all 0 x (omega arith)), each-from-all P Q f to xs (λ k d inside. all (suc k) d (omega (arith, inside))))

each-map : {X Y : Type 0} (Q : Y → Type 0) (f : X → Y) → ((x : X) → Q (f x)) → (xs : List X) → Each Q (map f xs)
each-map Q f every [] = tt
each-map Q f every (x ∷ xs) = (every x, each-map Q f every xs)

each-flat_map : {X Y : Type 0} (Q : Y → Type 0) (f : X → List Y) → ((x : X) → Each Q (f x)) → (xs : List X) → Each Q (flat_map f xs)
each-flat_map Q f every [] = tt
each-flat_map Q f every (x ∷ xs) = each-append Q (f x) (flat_map f xs) (every x) (each-flat_map Q f every xs)

each-among : {X Y : Type 0} (Q : Y → Type 0) (f : X → List Y) (xs : List X) → ((x : X) → Contains xs x → Each Q (f x)) → Each Q (flat_map f xs)
each-among Q f [] every = tt
each-among {X} Q f (x ∷ xs) every =
    each-append Q (f x) (flat_map f xs) (every x (0, omega arith, refl)) (each-among Q f xs (λ y (k, inside, is). every y (suc k, omega (arith, inside), is)))

-- ---- acts of a machine beside a table of so many actors

abbrev IsActOf : ℕ → Act → Type 0
IsActOf actors (Act.Run action_use) = StartsActors actors action_use
IsActOf actors (Act.CancelTimer id) = Unit {0}
IsActOf actors (Act.StopInvoked id) = Unit {0}
IsActOf actors (Act.StartTimer type delay) = IsAfterType type
IsActOf actors (Act.Invoke invocation) = invocation.src < actors
IsActOf actors (Act.RaiseDone id output) = Unit {0}

module _ (actors : ℕ) (def : Def) (formed : IsWellFormed actors def) where
  abbrev OfActors : List Act → Type 0
  OfActors acts = Each (IsActOf actors) acts

  runs-of : (actions : List ActionUse) → All (StartsActors actors) actions → OfActors (runs actions)
  runs-of actions all = each-from-all (StartsActors actors) (IsActOf actors) Act.Run (λ action_use starts. starts) actions all

  node-there : (n : ℕ) (node : NodeDef) → slice_get def.nodes n ≡ Some node → Contains def.nodes node
  node-there n node is = by_list def.nodes n is
    where
      by_list : (nodes : List NodeDef) (n : ℕ) → slice_get nodes n ≡ Some node → Contains nodes node
      by_list [] n at = absurd cc
      by_list (first ∷ rest) zero at = let same : first ≡ node = cc in (0, omega arith, same)
      by_list (first ∷ rest) (suc n) at = let (k, inside, is) = by_list rest n at in (suc k, omega (arith, inside), is)

  -- what is said of a node
  of-said : (n : ℕ) (acts : NodeDef → List Act) → ((node : NodeDef) → Contains def.nodes node → OfActors (acts node)) → OfActors (option_map_or acts (slice_get def.nodes n) [])
  of-said n acts every = by_node (slice_get def.nodes n) refl
    where
      by_node : (o : Option NodeDef) → slice_get def.nodes n ≡ o → OfActors (option_map_or acts o [])
      by_node None is = tt
      by_node (Some node) is = every node (node-there n node is)

  numbers-of : (node : NodeDef) → Contains def.nodes node → IsNodeOf (length def.tree) actors node
  numbers-of node has = All-contains (IsNodeOf (length def.tree) actors) def.nodes node formed.numbers has

  exits-kept : (n : ℕ) → OfActors (exit_acts def n)
  exits-kept n = of-said n exits_of (λ node has.
      each-three (IsActOf actors) (runs node.exit) (cancels node.after) (stops node.invoke) (runs-of node.exit (numbers-of node has).exit)
      (each-map (IsActOf actors) (λ (timer : List ℕ × Expr). Act.CancelTimer timer.0) (λ timer. tt) node.after)
      (each-map (IsActOf actors) (λ (invocation : Invocation). Act.StopInvoked invocation.id) (λ invocation. tt) node.invoke))

  lasts-kept : (n : ℕ) → OfActors (last_acts def n)
  lasts-kept n = of-said n (λ (node : NodeDef). runs node.exit) (λ node has. runs-of node.exit (numbers-of node has).exit)

  entry-kept : (n : ℕ) → OfActors (entry_acts def n)
  entry-kept n = of-said n entries_of (λ node has.
      let after = All-contains HasAfterTypes def.nodes node formed.after has in
      each-three (IsActOf actors) (runs node.entry) (starts node.after) (invokes node.invoke) (runs-of node.entry (numbers-of node has).entry)
      (each-from-all (λ (timer : List ℕ × Expr). IsAfterType timer.0) (IsActOf actors) (λ (timer : List ℕ × Expr). Act.StartTimer timer.0 timer.1) (λ timer is. is) node.after after)
      (each-from-all (λ (invocation : Invocation). invocation.src < actors) (IsActOf actors) Act.Invoke (λ invocation row. row) node.invoke (numbers-of node has).invoke))

  climb-kept : (Active : ℕ → Type 0) (low : ℕ) (acts : List Act) → IsClimb def Active low acts → OfActors acts
  climb-kept Active low acts (end out) = tt
  climb-kept Active low acts (further {high = high} {above = above} climbs rest) = (tt, climb-kept Active high above rest)

  done-kept : (Active : ℕ → Type 0) (n : ℕ) (acts : List Act) → AreDoneActs def Active n acts → OfActors acts
  done-kept Active n acts (events.ends {parent = parent} {above = above} is climb) = (tt, climb-kept Active parent above climb)
  done-kept Active n acts (events.none out) = tt

  entries-kept : (own : Own) (move : Move) (entered : List ℕ) (entries : List (List Act)) → AllZip (AreEntryActs def own move) entered entries → OfActors (flat_map (λ (entry : List Act). entry) entries)
  entries-kept own move [] [] all = tt
  entries-kept own move [] (entry ∷ entries) all = absurd all
  entries-kept own move (n ∷ entered) [] all = absurd all
  entries-kept own move (n ∷ entered) (entry ∷ entries) all =
      let acts : OfActors (entry_acts def n ++ all.0.done) = each-append (IsActOf actors) (entry_acts def n) all.0.done (entry-kept n) (done-kept _ n all.0.done all.0.done_events) in
      each-append (IsActOf actors) entry (flat_map (λ (entry : List Act). entry) entries) (subst OfActors (sym all.0.acts_are) acts) (entries-kept own move entered entries all.1)

  acts-of-kept : (own : Own) (transitions : List Transition) (move : Move) (acts : List Act) → ((transition : Transition) → Contains transitions transition → All (StartsActors actors) transition.actions)
      → AreActs def own transitions move acts → OfActors acts
  acts-of-kept own transitions move acts start are =
      let exits = flat_map (exit_acts def) (reverse move.left) in
      let taken = flat_map (λ (transition : Transition). runs transition.actions) transitions in
      let entered = flat_map (λ (entry : List Act). entry) are.entries in
      let all : OfActors (exits ++ taken ++ entered) =
      each-three (IsActOf actors) exits taken entered (each-flat_map (IsActOf actors) (exit_acts def) exits-kept (reverse move.left))
      (each-among (IsActOf actors) (λ (transition : Transition). runs transition.actions) transitions (λ transition has. runs-of transition.actions (start transition has)))
      (entries-kept own move move.entered are.entries are.each_entry) in
      subst OfActors (sym are.acts_are) all

-- ---- what an act does

after-typed : (type : List ℕ) → event_type (after_event type) ≡ Some type
unfolding out-Value out shown hidden shown-the_row-Value-1
after-typed type = refl

after-is_event : (rest : List ℕ) → is_event (after_event (codes "xstate.after." ++ rest)) ≡ true
unfolding out-Value out shown hidden shown-the_row-Value-1
after-is_event rest = refl

after-no_init : (rest : List ℕ) → Some (codes "xstate.after." ++ rest) ≡ Some init_type → ⊥
after-no_init rest same = cc

after-timed : (type : List ℕ) → IsAfterType type → IsTimed (after_event type)
after-timed type (rest, is) =
    let P : List ℕ → Type 0 = λ t. IsTimed (after_event t) in
    let after = codes "xstate.after." ++ rest in
    subst P (sym is) (record { well_formed = after-is_event rest; no_init = λ same. after-no_init rest (sym (after-typed after) ∙ same) })

system-inside : (system made : Option (List ℕ)) → checked_system system ≡ Ok made → IfSome made (λ name. IsTrue (is_name name))
system-inside None made is =
    let same : None ≡ made = cc in
    let P : Option (List ℕ) → Type 0 = λ o. IfSome o (λ name. IsTrue (is_name name)) in
    subst P same tt
system-inside (Some name) made is =
    let (checked, first, rest) = ok-inside (checked_name name) (λ checked. Ok (Some checked)) made is in
    let inside = if-ok (is_name name) name checked _ first in
    let same : Some checked ≡ made = cc rest in
    let P : Option (List ℕ) → Type 0 = λ o. IfSome o (λ name. IsTrue (is_name name)) in
    let Q : List ℕ → Type 0 = λ t. IsTrue (is_name t) in
    subst P same (subst Q inside.1 inside.0)

name-of : (text name : List ℕ) → checked_name text ≡ Ok name → IsTrue (is_name name)
name-of text name is =
    let inside = if-ok (is_name text) text name _ is in
    let Q : List ℕ → Type 0 = λ t. IsTrue (is_name t) in
    subst Q inside.1 inside.0

module _ (definitions : OfficeDefinitions) (own : Own) where
  abbrev Fine : Progress → Type 0
  Fine progress = IsAllowedSoFar definitions own progress

  given : (r : Stepped Progress) (p q : Progress) → r ≡ Ok p → r ≡ Ok q → Fine p → Fine q
  given r p q is-p is-q fine = let same : p ≡ q = cc (is-p, is-q) in subst Fine same fine

  act-kept : (event : Value) (act : Act) (p q : Progress) → IsActOf (length definitions.actors) act → Fine p → after_act event act p ≡ Ok q → Fine q
  act-kept event (Act.Run action_use) p q starts fine is = action-kept definitions own event action_use p q starts fine is
  act-kept event (Act.CancelTimer id) p q starts fine is = given _ _ q refl is (with-effect definitions own p (effect.Cancel id) fine tt fine.ids)
  act-kept event (Act.StopInvoked id) p q starts fine is = given _ _ q refl is (with-stop definitions own p id fine)
  act-kept event (Act.StartTimer type delay) p q starts fine is =
      let (milliseconds, first, rest) = ok-inside (delay_in (plain_scope event p) delay)
      (λ milliseconds. and_then (checked_name type) (λ id. Ok (with_effect p (effect.Schedule (Some id) milliseconds to.Own (after_event type))))) q is in
      let (id, second, last) = ok-inside (checked_name type) (λ id. Ok (with_effect p (effect.Schedule (Some id) milliseconds to.Own (after_event type)))) q rest in
      given _ _ q refl last
      (with-effect definitions own p (effect.Schedule (Some id) milliseconds to.Own (after_event type)) fine
      (name-of type id second, delay-inside (plain_scope event p) delay milliseconds first, after-timed type starts) fine.ids)
  act-kept event (Act.Invoke invocation) p q starts fine is =
      let (id, first, rest) = ok-inside (checked_name invocation.id)
      (λ id. and_then (short_in (plain_scope event p) invocation.input) (λ input. and_then (checked_system invocation.system) (λ system. Ok (with_child p id invocation.src input system)))) q is in
      let (input, second, more) = ok-inside (short_in (plain_scope event p) invocation.input) (λ input. and_then (checked_system invocation.system) (λ system. Ok (with_child p id invocation.src input system))) q rest in
      let (system, third, last) = ok-inside (checked_system invocation.system) (λ system. Ok (with_child p id invocation.src input system)) q more in
      given _ _ q refl last
      (with-child definitions own p id invocation.src input system fine (name-of invocation.id id first) starts (short-inside (plain_scope event p) invocation.input input second) (system-inside invocation.system system third))
  act-kept event (Act.RaiseDone id output) p q starts fine is =
      let (x, first, last) = ok-inside (short_in (plain_scope event p) output) (λ x. Ok (with_raised p (done_state_event id x))) q is in
      given _ _ q refl last (with-raised definitions own p (done_state_event id x) fine)

  acts-kept : (event : Value) (acts : List Act) (p q : Progress) → Each (IsActOf (length definitions.actors)) acts → Fine p → after_acts event acts p ≡ Ok q → Fine q
  acts-kept event [] p q all fine is = given _ p q refl is fine
  acts-kept event (act ∷ acts) p q all fine is =
      let (mid, first, rest) = ok-inside (after_act event act p) (in_turn (after_act event) acts) q is in
      acts-kept event acts mid q all.1 (act-kept event act p mid all.0 fine first) rest

  without-raised : (p : Progress) → Fine p → Fine (record p { raised = [] })
  without-raised p fine = record { effects = fine.effects; children = fine.children; context = fine.context; ids = fine.ids; unnamed = fine.unnamed; numbers = fine.numbers }

  -- what stands at the end of a microstep
  abbrev Stands : Move → Micro → Type 0
  Stands move micro = (last : Progress) × (finished : Bool) × Fine last × (micro ≡ micro_of own move finished last)

  made-of : (move : Move) (finished : Bool) (last : Progress) (micro : Micro) → ◌≡◌ {A = Stepped Micro} (Ok (micro_of own move finished last)) (Ok micro) → Fine last → Stands move micro
  made-of move finished last micro is fine = let same : micro_of own move finished last ≡ micro = cc in (last, finished, fine, sym same)

  ends-kept : (def : Def) (move : Move) (event : Value) (micro : Micro) → ((n : ℕ) → Each (IsActOf (length definitions.actors)) (last_acts def n))
      → (done : Stepped Progress) (result : Stepped Micro) → Ends def own move event done result → result ≡ Ok micro → ((p : Progress) → done ≡ Ok p → Fine p) → Stands move micro
  ends-kept def move event micro lasts done result (goes_on out) is fine =
      let (p, first, rest) = ok-inside done (λ progress. Ok (micro_of own move false progress)) micro is in
      made-of move false p micro rest (fine p first)
  ends-kept def move event micro lasts done result (ends over) is fine =
      let (p, first, rest) = ok-inside done (λ progress. and_then (after_end def move.configuration event progress) (λ last. Ok (micro_of own move true last))) micro is in
      let (last, second, made) = ok-inside (after_end def move.configuration event p) (λ last. Ok (micro_of own move true last)) micro rest in
      let acts = flat_map (last_acts def) (reverse move.configuration) in
      let (q, third, output) = ok-inside (after_acts event acts p) (λ last. and_then (machine_output def move.configuration event last) (λ output. Ok (record last { raised = [] }))) last second in
      let (x, fourth, final) = ok-inside (machine_output def move.configuration event q) (λ output. Ok (record q { raised = [] })) last output in
      let kept = acts-kept event acts p q (each-flat_map (IsActOf (length definitions.actors)) (last_acts def) lasts (reverse move.configuration)) (fine p first) third in
      made-of move true last micro made (given _ _ last refl final (without-raised q kept))

-- ---- what a microstep leaves

-- a table of so many actors
abbrev many : ℕ → List ActorLogic
many zero = []
many (suc n) = record { name = []; machine = None } ∷ many n

many-long : (n : ℕ) → length (many n) ≡ n
many-long zero = refl
many-long (suc n) = ap suc (many-long n)

leaves-by : (actors : ℕ) (def : Def) (own : Own) (move : Move) (micro : Micro)
    → ((definitions : OfficeDefinitions) → length definitions.actors ≡ actors → Stands definitions own move micro)
    → ((definitions : OfficeDefinitions) (last : Progress) (finished : Bool) → IsAllowedSoFar definitions own last → HasBegun def.tree (micro_of own move finished last).own)
    → LeavesAllowed actors def own micro
leaves-by actors def own move micro stands begun =
    let definitions : OfficeDefinitions = record { machines = []; actors = many actors } in
    let (last, finished, fine, is) = stands definitions (many-long actors) in
    let M : Micro → Type 0 = λ m. m.own.def ≡ own.def in
    let B : Micro → Type 0 = λ m. HasBegun def.tree m.own in
    let C : Micro → Type 0 = λ m. m.own.children ≡ fold children_after own.children m.effects in
    let U : Micro → Type 0 = λ m. own.unnamed ≤ m.own.unnamed in
    record {
      machine = subst M (sym is) refl;
      begun = subst B (sym is) (begun definitions last finished fine);
      effects = λ other long.
          let (last, finished, fine, is) = stands other long in
          let E : Micro → Type 0 = λ m. AreAllowedEffects other own.children m.effects in
          subst E (sym is) fine.effects;
      children = subst C (sym is) fine.children;
      unnamed = subst U (sym is) fine.unnamed;
    }

begun-after : (definitions : OfficeDefinitions) (def : Def) (own : Own) (move : Move) (last : Progress) (finished : Bool) → IsAllowedSoFar definitions own last
    → IsConfiguration def.tree move.configuration → IsRecordedHistory def.tree move.history → HasBegun def.tree (micro_of own move finished last).own
begun-after definitions def own move last finished fine configuration history = record {
  begun = refl;
  configuration = configuration;
  history = history;
  context = fine.context;
  children = fine.ids;
  unnamed = fine.numbers;
}

pub microstep-allowed : (actors : ℕ) (def : Def) → IsTree def.tree → IsWellFormed actors def → (own : Own) → HasBegun def.tree own → (picked : Picked) → CanBeTaken def own picked → (event : Value) (micro : Micro)
    → IsMicrostep def own (transitions_at def picked) event (Ok micro) → LeavesAllowed actors def own micro
microstep-allowed actors def tree formed own begun picked can event micro step =
    leaves-by actors def own step.move micro
    (λ definitions long.
    let kept : Each (IsActOf actors) step.acts = acts-of-kept actors def formed own (transitions_at def picked) step.move step.acts starts step.acts_are in
    let lasts : (n : ℕ) → Each (IsActOf actors) (last_acts def n) = lasts-kept actors def formed in
    let K : ℕ → Type 0 = λ a. Each (IsActOf a) step.acts in
    let L : ℕ → Type 0 = λ a. (n : ℕ) → Each (IsActOf a) (last_acts def n) in
    ends-kept definitions own def step.move event micro (subst L (sym long) lasts) (after_acts event step.acts (progress_of own)) (Ok micro) step.ends refl
    (λ p is. acts-kept definitions own event step.acts (progress_of own) p (subst K (sym long) kept) (start definitions) is))
    (λ definitions last finished fine. begun-after definitions def own step.move last finished fine
    (configuration-after actors def tree formed own begun picked can step.move step.moves) (history-after actors def tree formed own begun picked can step.move step.moves))
  where
    start : (definitions : OfficeDefinitions) → IsAllowedSoFar definitions own (progress_of own)
    start definitions = record { effects = tt; children = refl; context = begun.context; ids = begun.children; unnamed = omega arith; numbers = begun.unnamed }

    starts : (transition : Transition) → Contains (transitions_at def picked) transition → All (StartsActors actors) transition.actions
    starts transition has =
        let (place, in-place, at) = in-filter_map (transition_at def picked.eventless) picked.taken transition has in
        (transition-numbers actors def formed picked.eventless place transition (sym at)).actions

context-made : (def : Def) (event context : Value) → first_context def event ≡ Ok context → IsContext context
context-made def event context is =
    let (x, first, rest) = ok-inside (value_in _ def.context) (λ x. and_then (as_map x) checked_context) context is in
    let (m, second, last) = ok-inside (as_map x) checked_context context rest in
    let map-too = if-ok (is_map_layer (out-Value x)) x m _ second in
    let within = if-ok (is_context m) m context _ last in
    let P : Value → Type 0 = λ v. IsTrue (is_map_layer (out-Value v)) in
    let Q : Value → Type 0 = λ v. IsTrue (is_context v) in
    record { map = subst P within.1 (subst P map-too.1 map-too.0); within = subst Q within.1 within.0 }

pub first-allowed : (actors : ℕ) (def : Def) → IsTree def.tree → IsWellFormed actors def → (number : ℕ) (event : Value) (result : Stepped Micro) (micro : Micro)
    → IsFirstMicrostep def (fresh_own number) event result → result ≡ Ok micro → LeavesAllowed actors def (fresh_own number) micro
first-allowed actors def tree formed number event result micro (no_context {name = name} is) made = absurd cc
first-allowed actors def tree formed number event result micro (begins {context = context} {move = move} {acts = acts} is moves are ends_so) made =
    leaves-by actors def (fresh_own number) move micro
    (λ definitions long.
    let kept : Each (IsActOf actors) acts = acts-of-kept actors def formed (fresh_own number) [] move acts (λ transition (k, inside, at). absurd (omega (arith, inside))) are in
    let lasts : (n : ℕ) → Each (IsActOf actors) (last_acts def n) = lasts-kept actors def formed in
    let K : ℕ → Type 0 = λ a. Each (IsActOf a) acts in
    let L : ℕ → Type 0 = λ a. (n : ℕ) → Each (IsActOf a) (last_acts def n) in
    let start : Progress = record (progress_of (fresh_own number)) { context = context } in
    ends-kept definitions (fresh_own number) def move event micro (subst L (sym long) lasts) (after_acts event acts start) result ends_so made
    (λ p gives. acts-kept definitions (fresh_own number) event acts start p (subst K (sym long) kept) (fine-start definitions context is) gives))
    (λ definitions last finished fine. begun-after definitions def (fresh_own number) move last finished fine (first-configuration actors def tree formed move moves) (no-history move moves.history))
  where
    fine-start : (definitions : OfficeDefinitions) (context : Value) → first_context def event ≡ Ok context → IsAllowedSoFar definitions (fresh_own number) (record (progress_of (fresh_own number)) { context = context })
    fine-start definitions context is = record {
      effects = tt;
      children = refl;
      context = context-made def event context is;
      ids = record { names = All-nil _; distinct = λ i j d less inside. absurd (omega (arith, inside)) };
      unnamed = omega arith;
      numbers = omega arith;
    }

    no-history : (move : Move) → move.history ≡ [] → IsRecordedHistory def.tree move.history
    no-history move is = rw is (record { in_order = λ k inside. absurd (omega (arith, inside)); fit = λ h list at. absurd cc })

-- ---- what the calls leave

pub leaves-of : (def : Def) → IsTree def.tree → (own : Own) → HasBegun def.tree own → (picked : Picked) → CanBeTaken def own picked → (event : Value) (result : Result Micro StepFault) → IsAnswered (IsMicrostep def own (transitions_at def picked) event) result
    → IfOk result (λ micro. (actors : ℕ) → IsWellFormed actors def → LeavesAllowed actors def own micro)
leaves-of def tree own begun picked can event (Ok micro) step = λ actors formed. microstep-allowed actors def tree formed own begun picked can event micro step
leaves-of def tree own begun picked can event (Err fault) step = tt

pub first-leaves : (def : Def) → IsTree def.tree → (number : ℕ) (event : Value) (result : Result Micro StepFault) → IsAnswered (IsFirstMicrostep def (fresh_own number) event) result
    → IfOk result (λ micro. (actors : ℕ) → IsWellFormed actors def → LeavesAllowed actors def (fresh_own number) micro)
first-leaves def tree number event (Ok micro) step = λ actors formed. first-allowed actors def tree formed number event (Ok micro) micro step refl
first-leaves def tree number event (Err fault) step = tt
