-- What is done in a microstep, from the first node left to the end of the machine.
use Rattle.std.proofs.Common.{◌≡◌, ℕ, List, [], ◌∷◌, ◌++◌, reverse, Ok, Err, refl, sym, subst, arith, inl, inr}
use Rattle.std.specs.Prelude.{Result}
use Rattle.std.specs.List.{AllZip, Contains, flat_map}
use Rattle.node_tree.specs.Nodes.{IsTree}
use Rattle.step_sets.specs.Configuration.{IsLegal}
use Rattle.step_sets.specs.Sets.{IsSetOf}
use Rattle.step_sets.specs.Statechart.{IsStatechart}
use Rattle.guard_eval.specs.declared.def.Def.{Def}
use Rattle.guard_eval.specs.declared.transition.Transition.{Transition}
use Rattle.office_types.specs.declared.outcome.FaultName.{FaultName}
use Rattle.office_types.specs.declared.outcome.Own.{Own}
use Rattle.xs_model.specs.declared.value.Value.{Value}
use Rattle.microstep.specs.declared.micro.Micro.{Micro}
use Rattle.microstep.specs.declared.micro.Picked.{Picked}
use Rattle.microstep.specs.declared.micro.StepFault.{StepFault}
use Rattle.microstep.specs.declared.micro.StepFault.TheVariants.{Fault, Memory}
use Rattle.microstep.specs.declared.moves.Move.{Move}
use Rattle.microstep.specs.declared.progress.Progress.{Progress}
use Rattle.microstep.specs.Acts.{Act, after_act, after_acts, exit_acts, runs}
use Rattle.microstep.specs.Micro.{AreActs, AreEntryActs, Ends, IsActiveAfter, IsActiveAt, IsFirstMicrostep, IsFirstMove, IsMicrostep, IsMove, begins, first_context}
use Rattle.microstep.specs.Progress.{progress_of}
use Rattle.microstep.specs.Progressing.{Gives}
use Rattle.office_types.specs.Effects.{fresh_own}
use Rattle.microstep.specs.Parts.{Stepped, and_then}
use Rattle.microstep.specs.Selection.{transition_at}
use Rattle.microstep.specs.Taking.{IsAnswered, transitions_at}
use Rattle.microstep.specs.Working.{AreActsOf, AreActsTo, BecomesBy, IsActiveUpTo, IsGivenBy, acts_at}
use Rattle.microstep.proofs.ActLemmas.{flat_map-filter_map, turn-three}
use Rattle.microstep.proofs.ClimbLemmas.{acts-along}
use Rattle.microstep.proofs.EndLemmas.{ends-in-fault}

-- ---- the acts up to a configuration

module _ (def : Def) (transitions : List Transition) (move : Move) (event : Value) where
  abbrev Exits : List Act
  Exits = flat_map (exit_acts def) (reverse move.left)

  abbrev Taken : List Act
  Taken = flat_map (λ (transition : Transition). runs transition.actions) transitions

  abbrev Entered : List (List Act) → List Act
  Entered entries = flat_map (λ (entry : List Act). entry) entries

  abbrev Entry : ℕ → List Act → Type 0
  Entry n = AreActsOf def (IsActiveUpTo move.configuration move.entered n) n

  in-order : (start : Progress) (entries : List (List Act)) → after_acts event (Exits ++ Taken ++ Entered entries) start
      ≡ and_then (after_acts event Exits start) (λ mid. and_then (after_acts event Taken mid) (after_acts event (Entered entries)))
  in-order start entries = turn-three (after_act event) Exits Taken (Entered entries) start

  pub acts-to : (start mid last : Progress) (expected : Stepped Progress) → after_acts event Exits start ≡ Ok mid → after_acts event Taken mid ≡ Ok last
      → IsGivenBy (λ acts. (entries : List (List Act)) × AllZip Entry move.entered entries × (acts ≡ Entered entries)) event last expected
      → IsGivenBy (AreActsTo def transitions move) event start expected
  acts-to start mid last expected left took (acts, (entries, all, is), gives) = (
    Exits ++ Taken ++ Entered entries,
    record { entries = entries; each_entry = all; acts_are = refl },
    (let at-last : after_acts event (Entered entries) last ≡ expected = rw (← is) gives in rw (in-order start entries, left, took) at-last),
  )

  pub act-fault : (start mid : Progress) (name : FaultName) → after_acts event Exits start ≡ Ok mid → after_acts event Taken mid ≡ Err name
      → ((entries : List (List Act)) × AllZip Entry move.entered entries) → IsGivenBy (AreActsTo def transitions move) event start (Err name)
  act-fault start mid name left took (entries, all) = (
    Exits ++ Taken ++ Entered entries,
    record { entries = entries; each_entry = all; acts_are = refl },
    rw (in-order start entries, left, took) refl,
  )

  pub leave-fault : (start : Progress) (name : FaultName) → after_acts event Exits start ≡ Err name
      → ((entries : List (List Act)) × AllZip Entry move.entered entries) → IsGivenBy (AreActsTo def transitions move) event start (Err name)
  leave-fault start name left (entries, all) = (
    Exits ++ Taken ++ Entered entries,
    record { entries = entries; each_entry = all; acts_are = refl },
    rw (in-order start entries, left) refl,
  )

  pub acts-become : {X : Type 0} (result : Result X StepFault) (start mid last after : Progress) → after_acts event Exits start ≡ Ok mid → after_acts event Taken mid ≡ Ok last
      → BecomesBy (λ acts. (entries : List (List Act)) × AllZip Entry move.entered entries × (acts ≡ Entered entries)) event result last after → BecomesBy (AreActsTo def transitions move) event result start after
  acts-become (Ok done) start mid last after left took given = acts-to start mid last (Ok after) left took given
  acts-become (Err fault) start mid last after left took given = λ name is. acts-to start mid last (Err name) left took (given name is)

pub taken-acts : (def : Def) (picked : Picked) → flat_map (acts_at def picked.eventless) picked.taken ≡ flat_map (λ (transition : Transition). runs transition.actions) (transitions_at def picked)
taken-acts def picked = sym (flat_map-filter_map (transition_at def picked.eventless) (λ (transition : Transition). runs transition.actions) picked.taken)

-- ---- the acts of a move

AllZip-along : {X Y : Type 0} (R S : X → Y → Type 0) → ((x : X) (y : Y) → R x y → S x y) → (xs : List X) (ys : List Y) → AllZip R xs ys → AllZip S xs ys
AllZip-along R S to [] [] all = tt
AllZip-along R S to [] (y ∷ ys) all = absurd all
AllZip-along R S to (x ∷ xs) [] all = absurd all
AllZip-along R S to (x ∷ xs) (y ∷ ys) all = (to x y all.0, AllZip-along R S to xs ys all.1)

pub acts-of-move : (def : Def) (own : Own) (transitions : List Transition) (move : Move) (acts : List Act)
    → ((n : ℕ) → Contains own.nodes n → Contains move.entered n → Contains move.left n) → IsSetOf (IsActiveAfter own move) move.configuration
    → AreActsTo def transitions move acts → AreActs def own transitions move acts
acts-of-move def own transitions move acts left set to = record {
  entries = to.entries;
  each_entry = AllZip-along (λ n. AreActsOf def (IsActiveUpTo move.configuration move.entered n) n) (AreEntryActs def own move) entry move.entered to.entries to.each_entry;
  acts_are = to.acts_are;
}
  where
    forth : (n m : ℕ) → IsActiveUpTo move.configuration move.entered n m → IsActiveAt own move n m
    forth n m (has, upto) = elim ((set.exact m).0 has) [ inl kept ↦ inl kept | inr entered ↦ inr (entered, upto entered) ]

    back : (n m : ℕ) → IsActiveAt own move n m → IsActiveUpTo move.configuration move.entered n m
    back n m (inl (active, out)) = ((set.exact m).1 (inl (active, out)), λ entered. absurd (out (left m active entered)))
    back n m (inr (entered, upto)) = ((set.exact m).1 (inr entered), λ again. upto)

    entry : (n : ℕ) (one : List Act) → AreActsOf def (IsActiveUpTo move.configuration move.entered n) n one → AreEntryActs def own move n one
    entry n one (done, are, is) = record {
      done = done;
      done_events = acts-along def (IsActiveUpTo move.configuration move.entered n) (IsActiveAt own move n) (forth n) (back n) n done are;
      acts_are = is;
    }

-- ---- microsteps

-- the answer is this value, or the name of its fault
pub answered-given : {X : Type 0} (expected : Stepped X) (result : Result X StepFault) → Gives result expected → IsAnswered (λ given. given ≡ expected) result
answered-given expected (Ok x) is = sym is
answered-given expected (Err (Fault name)) named = sym (named name refl)
answered-given expected (Err Memory) named = tt

pub answered-along : {X : Type 0} (G : Stepped X → Type 0) (H : Stepped X → Type 0) → ((r : Stepped X) → G r → H r) → (result : Result X StepFault) → IsAnswered G result → IsAnswered H result
answered-along G H to (Ok x) given = to (Ok x) given
answered-along G H to (Err (Fault name)) given = to (Err name) given
answered-along G H to (Err Memory) given = tt

module _ (def : Def) (own : Own) (transitions : List Transition) (event : Value) (move : Move) (moves : IsMove def own transitions move)
    (left : (n : ℕ) → Contains own.nodes n → Contains move.entered n → Contains move.left n) where
  step-by : (acts : List Act) (done : Stepped Progress) (result : Stepped Micro) → AreActsTo def transitions move acts → after_acts event acts (progress_of own) ≡ done → Ends def own move event done result → IsMicrostep def own transitions event result
  step-by acts done result are gives end =
      let P : Stepped Progress → Type 0 = λ r. Ends def own move event r result in
      record { move = move; moves = moves; acts = acts; acts_are = acts-of-move def own transitions move acts left moves.configuration are; ends = subst P (sym gives) end }

  pub microstep-by : (progress : Progress) (result : Result Micro StepFault) → IsGivenBy (AreActsTo def transitions move) event (progress_of own) (Ok progress)
      → IsAnswered (Ends def own move event (Ok progress)) result → IsAnswered (IsMicrostep def own transitions event) result
  microstep-by progress result (acts, are, gives) end =
      answered-along (Ends def own move event (Ok progress)) (IsMicrostep def own transitions event) (λ r e. step-by acts (Ok progress) r are gives e) result end

  pub microstep-fault : IsTree def.tree → IsStatechart def.tree → IsLegal def.tree (Contains move.configuration) → (name : FaultName) → IsGivenBy (AreActsTo def transitions move) event (progress_of own) (Err name)
      → IsMicrostep def own transitions event (Err name)
  microstep-fault tree chart legal name (acts, are, gives) = step-by acts (Err name) (Err name) are gives (ends-in-fault def own move event tree chart legal (Err name) name refl)

-- the acts of the first move
pub first-acts : (def : Def) (number : ℕ) (event : Value) (move : Move) → IsFirstMove def move → (start : Progress) (expected : Stepped Progress)
    → IsGivenBy (λ acts. (entries : List (List Act)) × AllZip (λ n. AreActsOf def (IsActiveUpTo move.configuration move.entered n) n) move.entered entries × (acts ≡ flat_map (λ (entry : List Act). entry) entries)) event start expected
    → (acts : List Act) × AreActs def (fresh_own number) [] move acts × (after_acts event acts start ≡ expected)
first-acts def number event move moves start expected (acts, (entries, all, is), gives) = (
  acts,
  acts-of-move def (fresh_own number) [] move acts (λ n (k, inside, at). absurd (omega (arith, inside)))
      (record {
        in_order = rw moves.configuration moves.entered.in_order;
        exact = λ n. rw moves.configuration ((λ has. inr has), (λ either. elim either [ inl kept ↦ absurd (let (k, inside, at) = kept.0 in omega (arith, inside)) | inr has ↦ has ]));
      })
      (record { entries = entries; each_entry = all; acts_are = rw moves.left is }),
  gives,
)

module _ (def : Def) (number : ℕ) (event : Value) (context : Value) (gives-context : first_context def event ≡ Ok context) (move : Move) (moves : IsFirstMove def move) where
  abbrev Start : Progress
  Start = record (progress_of (fresh_own number)) { context = context }

  abbrev Entries : List Act → Type 0
  Entries acts = (entries : List (List Act)) × AllZip (λ n. AreActsOf def (IsActiveUpTo move.configuration move.entered n) n) move.entered entries × (acts ≡ flat_map (λ (entry : List Act). entry) entries)

  first-step : (done : Stepped Progress) (result : Stepped Micro) → IsGivenBy Entries event Start done → Ends def (fresh_own number) move event done result → IsFirstMicrostep def (fresh_own number) event result
  first-step done result given end =
      let (acts, are, gives) = first-acts def number event move moves Start done given in
      let P : Stepped Progress → Type 0 = λ r. Ends def (fresh_own number) move event r result in
      begins gives-context moves are (subst P (sym gives) end)

  pub first-by : (progress : Progress) (result : Result Micro StepFault) → IsGivenBy Entries event Start (Ok progress) → IsAnswered (Ends def (fresh_own number) move event (Ok progress)) result
      → IsAnswered (IsFirstMicrostep def (fresh_own number) event) result
  first-by progress result given end =
      answered-along (Ends def (fresh_own number) move event (Ok progress)) (IsFirstMicrostep def (fresh_own number) event) (λ r e. first-step (Ok progress) r given e) result end

  pub first-fault : IsTree def.tree → IsStatechart def.tree → IsLegal def.tree (Contains move.configuration) → (name : FaultName) → IsGivenBy Entries event Start (Err name) → IsFirstMicrostep def (fresh_own number) event (Err name)
  first-fault tree chart legal name given = first-step (Err name) (Err name) given (ends-in-fault def (fresh_own number) move event tree chart legal (Err name) name refl)
