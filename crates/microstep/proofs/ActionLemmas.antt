-- What an action does keeps what is done so far allowed.
use Rattle.std.proofs.Common.{◌≡◌, ◌<◌, ◌≤◌, ◌+◌, ◌++◌, ◌∷◌, ◌^◌, ℕ, Bool, true, false, IsTrue, List, [], Option, None, Some, Result, Ok, Err, OnOk, codes, decimal, length, map, nat_lt, if◌then◌else◌, sym, ◌∙◌, subst, arith, rules}
use Rattle.std.specs.Prelude.{⊤}
use Rattle.std.specs.List.{AllByRecursion}
use Rattle.std.proofs.lemmas.Bool.{ltb-true}
use Rattle.std.proofs.lemmas.Bool.Decides.{nat_tests}
use Rattle.std.proofs.lemmas.Fmt.{length-decimal-le}
use Rattle.xs_model.specs.declared.action.Action.{Action, every_here-Action, out-roll-Action}
use Rattle.xs_model.specs.declared.action.Action.TheFolds.{every-Action, every_held-Action, fold-roll-Action, ind-Action, map-Action}
use Rattle.xs_model.specs.declared.action.Action.TheOpen.{Action-F, ActionItem-F}
use Rattle.xs_model.specs.declared.action.Action.TheViews.{roll-Action}
use Rattle.xs_model.specs.declared.action.ActionItem.{ActionItem, every_held-ActionItem, every-ActionItem, fold-roll-ActionItem, map-ActionItem, out-roll-ActionItem, roll-ActionItem}
use Rattle.xs_model.specs.declared.expr.Expr.{Expr}
use Rattle.xs_model.specs.declared.value.Value.{Value, out-Value, the_lemmas}
use Rattle.xs_model.specs.declared.value.Value.TheVariants as value
use Rattle.xs_model.specs.Eval.{Scope}
use Rattle.guard_eval.specs.declared.transition.ActionUse.{ActionUse}
use Rattle.guard_eval.specs.Definitions.{StartsActor, StartsActors, StartsNone}
use Rattle.office_types.specs.declared.limits.TheConstants.{MAX_NEXT_NUMBER}
use Rattle.office_types.specs.declared.outcome.Effect.TheVariants as effect
use Rattle.office_types.specs.declared.outcome.Own.{Own}
use Rattle.office_types.specs.declared.outcome.To.{To}
use Rattle.office_types.specs.declared.outcome.To.TheVariants as to
use Rattle.office_types.specs.Definitions.{OfficeDefinitions}
use Rattle.office_types.specs.Limits.{is_context, is_name}
use Rattle.office_types.specs.OwnParts.{IsContext, is_map_layer}
use Rattle.microstep.specs.Actions.{Choice, Doing, Given, after_action, assign, assigned, cancel, checked_context, child_id_in, choose, chosen, counted_form, delayed, doing, enqueued, in_turn, members_assigned, raise, scope_at, send, sent_or_delayed, spawn, stop_child, target_in, with_members}
use Rattle.microstep.specs.Allowed.{IsAllowedSoFar}
use Rattle.microstep.specs.Choices.{choice}
use Rattle.microstep.specs.declared.micro.StepFault.{StepFault}
use Rattle.microstep.specs.declared.progress.Progress.{Progress}
use Rattle.microstep.specs.Progressing.{Becomes}
use Rattle.microstep.specs.Parts.{Stepped, and_then, delay_in, event_in, input_in, name_in, named, optional, test_in}
use Rattle.microstep.specs.Progress.{counted, with_child, with_effect, with_raised, with_stop}
use Rattle.microstep.proofs.AllowedLemmas.{SoFar, with-child, with-context, with-effect, with-raised, with-stop, with-unnamed}
use Rattle.microstep.proofs.PartLemmas.{IsMade, delay-inside, event-inside, if-ok, input-inside, name-inside, ok-inside, optional-inside, sent, timed}

short-name : (t : List ℕ) → 0 < length t → length t ≤ 256 → IsTrue (is_name t)
short-name t some short = grind (arith, nat_tests)

unnamed-name : (n : ℕ) → n < 2 ^ 62 → IsTrue (is_name (codes "x:" ++ decimal n))
unnamed-name n small =
    let short : length (decimal n) ≤ 20 = length-decimal-le 20 n (omega arith) (omega arith) (omega arith) in
    short-name (codes "x:" ++ decimal n) (omega arith) (omega (arith, short))

-- the id of a child is a name, and the count doesn't fall
record IsIdentified (unnamed : ℕ) (identified : List ℕ × ℕ) : Type 0 where
  name : IsTrue (is_name identified.0)
  more : unnamed ≤ identified.1
  within : identified.1 ≤ MAX_NEXT_NUMBER

id-inside : (scope : Scope) (id : Option Expr) (unnamed : ℕ) (identified : List ℕ × ℕ) → unnamed ≤ MAX_NEXT_NUMBER → child_id_in scope id unnamed ≡ Ok identified → IsIdentified unnamed identified
id-inside scope None unnamed identified within is =
    let made = if-ok (nat_lt unnamed MAX_NEXT_NUMBER) (codes "x:" ++ decimal unnamed, unnamed + 1) identified _ is in
    let small : unnamed < MAX_NEXT_NUMBER = ltb-true unnamed MAX_NEXT_NUMBER made.0 in
    subst (IsIdentified unnamed) made.1 (record { name = unnamed-name unnamed small; more = omega arith; within = omega (arith, small) })
id-inside scope (Some expr) unnamed identified within is =
    let made = ok-inside (name_in scope expr) (λ id. Ok (id, unnamed)) identified is in
    let same : (made.0, unnamed) ≡ identified = cc made.2 in
    subst (IsIdentified unnamed) same (record { name = name-inside scope expr made.0 made.1; more = omega arith; within = within })

map-layer : (members : List (List ℕ × Value)) → is_map_layer (out-Value (value.Map members)) ≡ true
map-layer members = search (rules, the_lemmas)

context-inside : (scope : Scope) (values : List (List ℕ × Expr)) (context : Value) → assigned scope values ≡ Ok context → IsContext context
context-inside scope values context is =
    let made = ok-inside (named (members_assigned scope values)) (λ members. checked_context (with_members scope.context members)) context is in
    let checked = if-ok (is_context (with_members scope.context made.0)) (with_members scope.context made.0) context _ made.2 in
    subst IsContext checked.1 (record { map = map-layer _; within = checked.0 })

-- what holds after a call that leaves this holds where the call goes through
pub after-ok : {X : Type 0} (P : Type 0) (r : Result X StepFault) (after : Progress) (expected : Stepped Progress) → Becomes r after expected → (expected ≡ Ok after → P) → OnOk r P
after-ok P (Ok x) after expected is next = next is
after-ok P (Err fault) after expected is next = tt

module _ (definitions : OfficeDefinitions) (own : Own) where
  abbrev Fine : Progress → Type 0
  Fine progress = SoFar definitions own progress

  -- ---- each form

  given : (p q : Progress) → ◌≡◌ {A = Stepped Progress} (Ok p) (Ok q) → Fine p → Fine q
  given p q is fine = let same : p ≡ q = cc in subst Fine same fine

  assign-kept : (scope : Scope) (values : List (List ℕ × Expr)) (p q : Progress) → Fine p → assign scope values p ≡ Ok q → Fine q
  assign-kept scope values p q fine is =
      let made = ok-inside (assigned scope values) (λ context. Ok (record p { context = context })) q is in
      given _ q made.2 (with-context definitions own p made.0 fine (context-inside scope values made.0 made.1))

  delayed-kept : (scope : Scope) (receiver : To) (event : Value) (delay : Expr) (id : Option Expr) (p q : Progress) → Fine p → IsMade event → delayed scope receiver event delay id p ≡ Ok q → Fine q
  delayed-kept scope receiver event delay id p q fine made is =
      let milliseconds = ok-inside (delay_in scope delay) (λ ms. and_then (optional (name_in scope) id) (λ name. Ok (with_effect p (effect.Schedule name ms receiver event)))) q is in
      let name = ok-inside (optional (name_in scope) id) (λ name. Ok (with_effect p (effect.Schedule name milliseconds.0 receiver event))) q milliseconds.2 in
      given _ q name.2
      (with-effect definitions own p (effect.Schedule name.0 milliseconds.0 receiver event) fine
      (optional-inside scope id name.0 name.1, delay-inside scope delay milliseconds.0 milliseconds.1, timed event made) fine.ids)

  raise-by : (scope : Scope) (event : Value) (delay : Option Expr) (id : Option Expr) (p q : Progress) → Fine p → IsMade event
      → sent_or_delayed scope to.Own (with_raised p) event delay id p ≡ Ok q → Fine q
  raise-by scope event None id p q fine made is = given _ q is (with-raised definitions own p event fine)
  raise-by scope event (Some delay) id p q fine made is = delayed-kept scope to.Own event delay id p q fine made is

  raise-kept : (scope : Scope) (event : Expr) (delay : Option Expr) (id : Option Expr) (p q : Progress) → Fine p → raise scope event delay id p ≡ Ok q → Fine q
  raise-kept scope event delay id p q fine is =
      let made = ok-inside (event_in scope event) (λ made. sent_or_delayed scope to.Own (with_raised p) made delay id p) q is in
      raise-by scope made.0 delay id p q fine (event-inside scope event made.0 made.1) made.2

  send-by : (scope : Scope) (receiver : To) (event : Value) (delay : Option Expr) (id : Option Expr) (p q : Progress) → Fine p → IsMade event
      → sent_or_delayed scope receiver (λ sent. with_effect p (effect.Send receiver sent)) event delay id p ≡ Ok q → Fine q
  send-by scope receiver event None id p q fine made is = given _ q is (with-effect definitions own p (effect.Send receiver event) fine (sent event made) fine.ids)
  send-by scope receiver event (Some delay) id p q fine made is = delayed-kept scope receiver event delay id p q fine made is

  send-kept : (scope : Scope) (receiver : To) (event : Expr) (delay : Option Expr) (id : Option Expr) (p q : Progress) → Fine p → send scope receiver event delay id p ≡ Ok q → Fine q
  send-kept scope receiver event delay id p q fine is =
      let made = ok-inside (event_in scope event) (λ made. sent_or_delayed scope receiver (λ sent. with_effect p (effect.Send receiver sent)) made delay id p) q is in
      send-by scope receiver made.0 delay id p q fine (event-inside scope event made.0 made.1) made.2

  cancel-kept : (scope : Scope) (id : Expr) (p q : Progress) → Fine p → cancel scope id p ≡ Ok q → Fine q
  cancel-kept scope id p q fine is =
      let name = ok-inside (name_in scope id) (λ name. Ok (with_effect p (effect.Cancel name))) q is in
      given _ q name.2 (with-effect definitions own p (effect.Cancel name.0) fine tt fine.ids)

  stop-kept : (scope : Scope) (id : Expr) (p q : Progress) → Fine p → stop_child scope id p ≡ Ok q → Fine q
  stop-kept scope id p q fine is =
      let name = ok-inside (name_in scope id) (λ name. Ok (with_stop p name)) q is in
      given _ q name.2 (with-stop definitions own p name.0 fine)

  spawn-kept : (scope : Scope) (src : ℕ) (id input system : Option Expr) (p q : Progress) → src < length definitions.actors → Fine p → spawn scope src id input system p ≡ Ok q → Fine q
  spawn-kept scope src id input system p q row fine is =
      let identified = ok-inside (child_id_in scope id p.unnamed)
      (λ (i : List ℕ × ℕ). and_then (input_in scope input) (λ x. and_then (optional (name_in scope) system) (λ name. Ok (with_child (record p { unnamed = i.1 }) i.0 src x name)))) q is in
      let i = identified.0 in
      let x = ok-inside (input_in scope input) (λ x. and_then (optional (name_in scope) system) (λ name. Ok (with_child (record p { unnamed = i.1 }) i.0 src x name))) q identified.2 in
      let name = ok-inside (optional (name_in scope) system) (λ name. Ok (with_child (record p { unnamed = i.1 }) i.0 src x.0 name)) q x.2 in
      let known = id-inside scope id p.unnamed i fine.numbers identified.1 in
      given _ q name.2
      (with-child definitions own (record p { unnamed = i.1 }) i.0 src x.0 name.0 (with-unnamed definitions own p i.1 fine known.more known.within) known.name row
      (input-inside scope input x.0 x.1) (optional-inside scope system name.0 name.1))

  -- ---- one after the other

  abbrev Keeps : Doing → Type 0
  Keeps doing = (g : Given) (p q : Progress) → Fine p → doing g p ≡ Ok q → Fine q

  abbrev KeepsChoice : Choice → Type 0
  KeepsChoice choice = (scope : Scope) (doings : List Doing) → choice scope ≡ Ok doings → AllByRecursion Keeps doings

  abbrev KeepsItem : ActionItem → Type 0
  KeepsItem item = KeepsChoice (choice item)

  abbrev KeepsAction : Action → Type 0
  KeepsAction action = Keeps (doing action)

  both-keep : (xs ys : List Doing) → AllByRecursion Keeps xs → AllByRecursion Keeps ys → AllByRecursion Keeps (xs ++ ys)
  both-keep [] ys first others = others
  both-keep (x ∷ xs) ys first others = (first.0, both-keep xs ys first.1 others)

  chosen-kept : (scope : Scope) (items : List ActionItem) (doings : List Doing) → AllByRecursion KeepsItem items → chosen scope (map choice items) ≡ Ok doings → AllByRecursion Keeps doings
  chosen-kept scope [] doings each is = let same : [] ≡ doings = cc in subst (AllByRecursion Keeps) same tt
  chosen-kept scope (item ∷ items) doings each is =
      let first = ok-inside (choice item scope) (λ xs. and_then (chosen scope (map choice items)) (λ ys. Ok (xs ++ ys))) doings is in
      let others = ok-inside (chosen scope (map choice items)) (λ ys. Ok (first.0 ++ ys)) doings first.2 in
      let same : first.0 ++ others.0 ≡ doings = cc others.2 in
      subst (AllByRecursion Keeps) same (both-keep first.0 others.0 (each.0 scope first.0 first.1) (chosen-kept scope items others.0 each.1 others.1))

  turn-kept : (g : Given) (doings : List Doing) (p q : Progress) → AllByRecursion Keeps doings → Fine p → in_turn (λ (one : Doing). one g) doings p ≡ Ok q → Fine q
  turn-kept g [] p q each fine is = given p q is fine
  turn-kept g (one ∷ doings) p q each fine is =
      let next = ok-inside (one g p) (in_turn (λ (one : Doing). one g) doings) q is in
      turn-kept g doings next.0 q each.1 (each.0 g p next.0 fine next.1) next.2

  enqueue-kept : (scope : Scope) (items : List ActionItem) (g : Given) (p q : Progress) → AllByRecursion KeepsItem items → Fine p → enqueued scope (map choice items) g p ≡ Ok q → Fine q
  enqueue-kept scope items g p q each fine is =
      let doings = ok-inside (chosen scope (map choice items)) (λ doings. in_turn (λ (one : Doing). one g) doings p) q is in
      turn-kept g doings.0 p q (chosen-kept scope items doings.0 each doings.1) fine doings.2

  -- ---- each action, by its parts

  abbrev Inside : (ActionItem → Type 0) → Action-F Action ActionItem → Type 0
  Inside Q (Action-F.EnqueueActions items) = AllByRecursion Q items
  Inside Q _ = ⊤

  abbrev Within : (Action → Type 0) → (ActionItem → Type 0) → ActionItem-F Action ActionItem → Type 0
  Within P Q (ActionItem-F.Do action) = P action
  Within P Q (ActionItem-F.If test items others) = AllByRecursion Q items × AllByRecursion Q others

  counted-kept : (p : Progress) → Fine p → Fine (counted p)
  counted-kept p fine = record {
    effects = fine.effects;
    children = fine.children;
    context = fine.context;
    ids = fine.ids;
    unnamed = fine.unnamed;
    numbers = fine.numbers;
  }

  form-kept : (x : Action-F Action ActionItem) → StartsActor (length definitions.actors) x → Inside KeepsItem x → Keeps (counted_form (map-Action Action ActionItem Doing Choice doing choice x))
  form-kept (Action-F.Assign values) row parts g p q fine is = assign-kept (scope_at g p) values (counted p) q (counted-kept p fine) is
  form-kept (Action-F.Raise event delay id) row parts g p q fine is = raise-kept (scope_at g p) event delay id (counted p) q (counted-kept p fine) is
  form-kept (Action-F.SendTo receiver event delay id) row parts g p q fine is =
      let found = ok-inside (target_in (scope_at g p) (counted p) receiver) (λ receiver. send (scope_at g p) receiver event delay id (counted p)) q is in
      send-kept (scope_at g p) found.0 event delay id (counted p) q (counted-kept p fine) found.2
  form-kept (Action-F.Cancel id) row parts g p q fine is = cancel-kept (scope_at g p) id (counted p) q (counted-kept p fine) is
  form-kept (Action-F.SpawnChild src id input system) row parts g p q fine is = spawn-kept (scope_at g p) src id input system (counted p) q row (counted-kept p fine) is
  form-kept (Action-F.StopChild id) row parts g p q fine is = stop-kept (scope_at g p) id (counted p) q (counted-kept p fine) is
  form-kept (Action-F.EnqueueActions items) row parts g p q fine is = enqueue-kept (scope_at g p) items g (counted p) q parts (counted-kept p fine) is

  branch-by : (b : Bool) (scope : Scope) (items others : List ActionItem) (doings : List Doing) → AllByRecursion KeepsItem items → AllByRecursion KeepsItem others
      → (if b then chosen scope (map choice items) else chosen scope (map choice others)) ≡ Ok doings → AllByRecursion Keeps doings
  branch-by true scope items others doings first second is = chosen-kept scope items doings first is
  branch-by false scope items others doings first second is = chosen-kept scope others doings second is

  branch-kept : (x : ActionItem-F Action ActionItem) → Within KeepsAction KeepsItem x → KeepsChoice (choose (map-ActionItem Action ActionItem Doing Choice doing choice x))
  branch-kept (ActionItem-F.Do action) parts scope doings is =
      let same : doing action ∷ [] ≡ doings = cc in
      subst (AllByRecursion Keeps) same (parts, tt)
  branch-kept (ActionItem-F.If test items others) parts scope doings is =
      let holds = ok-inside (test_in scope test) (λ (b : Bool). if b then chosen scope (map choice items) else chosen scope (map choice others)) doings is in
      branch-by holds.0 scope items others doings parts.0 parts.1 holds.2

  -- ---- every action

  module _ (P : Action → Type 0) (Q : ActionItem → Type 0) where
    abbrev ProvedA : Type 0
    ProvedA = (a : Action) × P a

    abbrev ProvedI : Type 0
    ProvedI = (i : ActionItem) × Q i

    all-items : (is : List ProvedI) → AllByRecursion Q (map (λ e. e.0) is)
    all-items [] = tt
    all-items (i ∷ is) = (i.1, all-items is)

    inside-of : (y : Action-F ProvedA ProvedI) → Inside Q (map-Action ProvedA ProvedI Action ActionItem (λ e. e.0) (λ e. e.0) y)
    inside-of (Action-F.Assign values) = tt
    inside-of (Action-F.Raise event delay id) = tt
    inside-of (Action-F.SendTo receiver event delay id) = tt
    inside-of (Action-F.Cancel id) = tt
    inside-of (Action-F.SpawnChild src id input system) = tt
    inside-of (Action-F.StopChild id) = tt
    inside-of (Action-F.EnqueueActions items) = all-items items

    within-of : (y : ActionItem-F ProvedA ProvedI) → Within P Q (map-ActionItem ProvedA ProvedI Action ActionItem (λ e. e.0) (λ e. e.0) y)
    within-of (ActionItem-F.Do action) = action.1
    within-of (ActionItem-F.If test items others) = (all-items items, all-items others)

  abbrev E : Action-F Action ActionItem → Type 0
  E = StartsActor (length definitions.actors)

  joined-items : (items : List ActionItem) → AllByRecursion (λ (i : ActionItem). every-ActionItem E StartsNone i → KeepsItem i) items → AllByRecursion (every-ActionItem E StartsNone) items → AllByRecursion KeepsItem items
  joined-items [] keep each = tt
  joined-items (i ∷ items) keep each = (keep.0 each.0, joined-items items keep.1 each.1)

  joined-inside : (x : Action-F Action ActionItem) → Inside (λ (i : ActionItem). every-ActionItem E StartsNone i → KeepsItem i) x → Inside (every-ActionItem E StartsNone) x → Inside KeepsItem x
  joined-inside (Action-F.Assign values) keep each = tt
  joined-inside (Action-F.Raise event delay id) keep each = tt
  joined-inside (Action-F.SendTo receiver event delay id) keep each = tt
  joined-inside (Action-F.Cancel id) keep each = tt
  joined-inside (Action-F.SpawnChild src id input system) keep each = tt
  joined-inside (Action-F.StopChild id) keep each = tt
  joined-inside (Action-F.EnqueueActions items) keep each = joined-items items keep each

  joined-within : (x : ActionItem-F Action ActionItem) → Within (λ (a : Action). every-Action E StartsNone a → KeepsAction a) (λ (i : ActionItem). every-ActionItem E StartsNone i → KeepsItem i) x
      → Within (every-Action E StartsNone) (every-ActionItem E StartsNone) x → Within KeepsAction KeepsItem x
  joined-within (ActionItem-F.Do action) keep each = keep each
  joined-within (ActionItem-F.If test items others) keep each = (joined-items items keep.0 each.0, joined-items others keep.1 each.1)

  abbrev PA : Action → Type 0
  PA a = every-Action E StartsNone a → KeepsAction a

  abbrev QI : ActionItem → Type 0
  QI i = every-ActionItem E StartsNone i → KeepsItem i

  action-step : (x : Action-F Action ActionItem) → Inside QI x → PA (roll-Action x)
  action-step x keep every =
      let held = every_held-Action E StartsNone (roll-Action x) every in
      let each = subst (Inside (every-ActionItem E StartsNone)) (held.1 ∙ out-roll-Action x) (inside-of (every-Action E StartsNone) (every-ActionItem E StartsNone) held.0) in
      let here = subst E (out-roll-Action x) (every_here-Action E StartsNone (roll-Action x) every) in
      subst Keeps (sym (fold-roll-Action Doing Choice counted_form choose x)) (form-kept x here (joined-inside x keep each))

  item-step : (x : ActionItem-F Action ActionItem) → Within PA QI x → QI (roll-ActionItem x)
  item-step x keep every =
      let held = every_held-ActionItem E StartsNone (roll-ActionItem x) every in
      let each = subst (Within (every-Action E StartsNone) (every-ActionItem E StartsNone)) (held.1 ∙ out-roll-ActionItem x) (within-of (every-Action E StartsNone) (every-ActionItem E StartsNone) held.0) in
      subst KeepsChoice (sym (fold-roll-ActionItem Doing Choice counted_form choose x)) (branch-kept x (joined-within x keep each))

  every-kept : (a : Action) → PA a
  every-kept = ind-Action PA QI (λ x y is. action-step x (subst (Inside QI) is (inside-of PA QI y))) (λ x y is. item-step x (subst (Within PA QI) is (within-of PA QI y)))

  -- an action of the table whose actors are in the table keeps what is done so far allowed
  pub action-kept : (event : Value) (action_use : ActionUse) (p q : Progress) → StartsActors (length definitions.actors) action_use → IsAllowedSoFar definitions own p
      → after_action event action_use p ≡ Ok q → IsAllowedSoFar definitions own q
  action-kept event action_use p q starts fine is = every-kept action_use.action starts (record { event = event; params = action_use.params }) p q fine is
