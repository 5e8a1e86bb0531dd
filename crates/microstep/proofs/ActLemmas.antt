-- Acts one after the other.
use Rattle.std.proofs.Common.{◌≡◌, ◌<◌, ◌≤◌, ◌+◌, ℕ, List, [], ◌∷◌, ◌++◌, length, get_or, take, reverse, Option, Some, None, Ok, Err, refl, sym, ap, arith, ◌∙◌}
use Rattle.std.specs.Prelude.{Result}
use Rattle.std.specs.List.{flat_map, filter_map}
use Rattle.std.specs.Option.{option_map_or}
use Rattle.std.proofs.lemmas.List.{take_all, take_more}
use Rattle.guard_eval.specs.declared.def.Invocation.{Invocation}
use Rattle.guard_eval.specs.declared.def.NodeDef.{NodeDef}
use Rattle.office_types.specs.declared.outcome.FaultName.{FaultName}
use Rattle.xs_model.specs.declared.expr.Expr.{Expr}
use Rattle.xs_model.specs.declared.value.Value.{Value}
use Rattle.microstep.specs.declared.micro.StepFault.{StepFault}
use Rattle.microstep.specs.declared.progress.Progress.{Progress}
use Rattle.microstep.specs.Actions.{in_turn}
use Rattle.microstep.specs.Acts.{Act, after_act, after_acts, cancels, entries_of, exits_of, invokes, runs, starts, stops}
use Rattle.microstep.specs.Parts.{Stepped, and_then}
use Rattle.microstep.specs.Progressing.{Becomes, IsNamed}
use Rattle.microstep.specs.Working.{cancel_timer, stop_invocation}
use Rattle.microstep.proofs.TurnLemmas.{turn-map}
use Rattle.microstep.proofs.WalkLemmas.{reversed-push}

-- ---- lists in turn

pub both : (r : Stepped Progress) (f g : Progress → Stepped Progress) → ((progress : Progress) → f progress ≡ g progress) → and_then r f ≡ and_then r g
both (Ok progress) f g same = same progress
both (Err name) f g same = refl

after-all : (r : Stepped Progress) (f g : Progress → Stepped Progress) → and_then (and_then r f) g ≡ and_then r (λ progress. and_then (f progress) g)
after-all (Ok progress) f g = refl
after-all (Err name) f g = refl

pub turn-append : {X : Type 0} (one : X → Progress → Stepped Progress) (xs ys : List X) (progress : Progress)
    → in_turn one (xs ++ ys) progress ≡ and_then (in_turn one xs progress) (in_turn one ys)
turn-append one [] ys progress = refl
turn-append one (x ∷ xs) ys progress =
    both (one x progress) _ _ (turn-append one xs ys) ∙ sym (after-all (one x progress) (in_turn one xs) (in_turn one ys))

-- three lists in turn
pub turn-three : {X : Type 0} (one : X → Progress → Stepped Progress) (xs ys zs : List X) (progress : Progress)
    → in_turn one (xs ++ ys ++ zs) progress ≡ and_then (in_turn one xs progress) (λ mid. and_then (in_turn one ys mid) (in_turn one zs))
turn-three one xs ys zs progress =
    turn-append one (xs ++ ys) zs progress ∙ ap (λ (r : Stepped Progress). and_then r (in_turn one zs)) (turn-append one xs ys progress) ∙ after-all (in_turn one xs progress) (in_turn one ys) (in_turn one zs)

pub turn-flat_map : {X Y : Type 0} (one : Y → Progress → Stepped Progress) (f : X → List Y) (xs : List X) (progress : Progress)
    → in_turn one (flat_map f xs) progress ≡ in_turn (λ (x : X). in_turn one (f x)) xs progress
turn-flat_map one f [] progress = refl
turn-flat_map one f (x ∷ xs) progress = turn-append one (f x) (flat_map f xs) progress ∙ both (in_turn one (f x) progress) _ _ (turn-flat_map one f xs)

-- the first thing, and then the others
pub turn-first : {X : Type 0} (one : X → Progress → Stepped Progress) (x : X) (xs : List X) (start mid : Progress) → one x start ≡ Ok mid → in_turn one (x ∷ xs) start ≡ in_turn one xs mid
turn-first one x xs start mid is = rw is refl

pub turn-wrong : {X : Type 0} (one : X → Progress → Stepped Progress) (x : X) (xs : List X) (start : Progress) (name : FaultName) → one x start ≡ Err name → in_turn one (x ∷ xs) start ≡ Err name
turn-wrong one x xs start name is = rw is refl

-- ---- from the last to the first

module _ {X : Type 0} (one : X → Progress → Stepped Progress) where
  -- the things before a place, the last first
  abbrev pub back_from : List X → ℕ → Progress → Stepped Progress
  back_from xs place progress = in_turn one (reverse (take place xs)) progress

  pub back-start : (xs : List X) (progress : Progress) → in_turn one (reverse xs) progress ≡ back_from xs (length xs) progress
  back-start xs progress = rw (take_all (length xs) xs (omega arith)) refl

  back-cons : (xs : List X) (place before : ℕ) (d : X) (progress : Progress) → place ≡ before + 1 → before < length xs
      → back_from xs place progress ≡ and_then (one (get_or xs before d) progress) (back_from xs before)
  back-cons xs place before d progress next inside = rw (next, take_more xs before d inside, reversed-push (take before xs) (get_or xs before d)) refl

  pub back-more : (xs : List X) (place before : ℕ) (d : X) (progress next : Progress) → place ≡ before + 1 → before < length xs → one (get_or xs before d) progress ≡ Ok next
      → back_from xs place progress ≡ back_from xs before next
  back-more xs place before d progress next follows inside gives = rw (back-cons xs place before d progress follows inside, gives) refl

  pub back-stops : (xs : List X) (place before : ℕ) (d : X) (progress : Progress) (name : FaultName) → place ≡ before + 1 → before < length xs → one (get_or xs before d) progress ≡ Err name
      → back_from xs place progress ≡ Err name
  back-stops xs place before d progress name follows inside gives = rw (back-cons xs place before d progress follows inside, gives) refl

  pub back-end : (xs : List X) (place : ℕ) (progress : Progress) → place ≤ 0 → back_from xs place progress ≡ Ok progress
  back-end xs place progress past = let none : place ≡ 0 = omega (arith, past) in rw none (by_list xs)
    where
      by_list : (xs : List X) → in_turn one (reverse (take 0 xs)) progress ≡ Ok progress
      by_list [] = refl
      by_list (x ∷ xs) = refl

-- ---- three things one after the other

module _ (all r : Stepped Progress) (f g : Progress → Stepped Progress) (is : all ≡ and_then r (λ mid. and_then (f mid) g)) where
  pub three-first : (fault : StepFault) → IsNamed fault r → IsNamed fault all
  three-first fault named = λ name at. is ∙ rw (named name at) refl

  pub three-second : (mid : Progress) (fault : StepFault) → r ≡ Ok mid → IsNamed fault (f mid) → IsNamed fault all
  three-second mid fault first named = λ name at. is ∙ rw (first, named name at) refl

  pub three-last : {X : Type 0} (result : Result X StepFault) (mid last after : Progress) → r ≡ Ok mid → f mid ≡ Ok last → Becomes result after (g last) → Becomes result after all
  three-last result mid last after first second becomes =
      let whole : all ≡ g last = is ∙ rw (first, second) refl in
      rw whole becomes

-- ---- one node

module _ (event : Value) (said : NodeDef) (start : Progress) where
  cancelled-and-stopped : (mid : Progress) → and_then (in_turn (after_act event) (cancels said.after) mid) (in_turn (after_act event) (stops said.invoke)) ≡ and_then (in_turn cancel_timer said.after mid) (in_turn stop_invocation said.invoke)
  cancelled-and-stopped mid =
      ap (λ (r : Stepped Progress). and_then r (in_turn (after_act event) (stops said.invoke))) (turn-map (after_act event) (λ (timer : List ℕ × Expr). Act.CancelTimer timer.0) said.after mid)
      ∙ both (in_turn cancel_timer said.after mid) (in_turn (after_act event) (stops said.invoke)) (in_turn stop_invocation said.invoke)
      (turn-map (after_act event) (λ (invocation : Invocation). Act.StopInvoked invocation.id) said.invoke)

  -- exit actions, and then timers are cancelled, and then invocations are stopped
  pub leaving : after_acts event (exits_of said) start ≡ and_then (after_acts event (runs said.exit) start) (λ mid. and_then (in_turn cancel_timer said.after mid) (in_turn stop_invocation said.invoke))
  leaving =
      turn-three (after_act event) (runs said.exit) (cancels said.after) (stops said.invoke) start
      ∙ both (in_turn (after_act event) (runs said.exit) start) (λ mid. and_then (in_turn (after_act event) (cancels said.after) mid) (in_turn (after_act event) (stops said.invoke)))
      (λ mid. and_then (in_turn cancel_timer said.after mid) (in_turn stop_invocation said.invoke)) cancelled-and-stopped

  -- entry actions, and then timers begin, and then invocations
  pub entering : after_acts event (entries_of said) start ≡ and_then (after_acts event (runs said.entry) start) (λ mid. and_then (after_acts event (starts said.after) mid) (after_acts event (invokes said.invoke)))
  entering = turn-three (after_act event) (runs said.entry) (starts said.after) (invokes said.invoke) start

-- ---- the transitions at places

pub flat_map-filter_map : {P T A : Type 0} (find : P → Option T) (f : T → List A) (places : List P)
    → flat_map f (filter_map find places) ≡ flat_map (λ (place : P). option_map_or f (find place) []) places
flat_map-filter_map find f [] = refl
flat_map-filter_map {P} {T} {A} find f (place ∷ places) = by_case (flat_map-filter_map find f places) (find place) refl
  where
    Same : List P → Type 0
    Same ps = flat_map f (filter_map find ps) ≡ flat_map (λ (place : P). option_map_or f (find place) []) ps

    by_case : Same places → (o : Option T) → find place ≡ o → Same (place ∷ places)
    by_case rest None is = rw is rest
    by_case rest (Some t) is = rw is (ap (λ l. f t ++ l) rest)
