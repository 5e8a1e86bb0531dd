-- The same own part and event have one outcome.
use Rattle.std.proofs.Common.{◌≡◌, ℕ, Bool, true, false, List, [], ◌∷◌, Ok, Err, refl, sym, ap, subst, arith, ◌∙◌}
use Rattle.std.specs.Prelude.{Result}
use Rattle.xs_model.specs.declared.env.EvalFault.{EvalFault}
use Rattle.xs_model.specs.declared.value.Value.{Value}
use Rattle.guard_eval.specs.declared.def.Def.{Def}
use Rattle.guard_eval.specs.declared.transition.Transition.{Transition}
use Rattle.office_types.specs.declared.outcome.End.TheVariants as end
use Rattle.office_types.specs.declared.outcome.Outcome.{Outcome}
use Rattle.office_types.specs.declared.outcome.Own.{Own}
use Rattle.office_types.specs.Effects.{fresh_own}
use Rattle.office_types.specs.Events.{init_event}
use Rattle.microstep.specs.declared.micro.Micro.{Micro}
use Rattle.microstep.specs.Parts.{Stepped, fault_name}
use Rattle.microstep.specs.Selection.{Place}
use Rattle.microstep.specs.Taking.{transitions_at}
use Rattle.microstep.proofs.UniqueLemmas.{selects-unique}
use Rattle.microstep.proofs.UniqueStepLemmas.{first-microstep-unique, microstep-unique}
use Rattle.macrostep.specs.Macro.{Ended, Goes, IsFirstMacrostep, IsMacrostep, Makes, Run, Runs, SelectsNow, Takes, acts_too_many, done, eventless, fails, faults, faults_at_rest, further, handled, none, one, one_too_many, outcome_of, rests, run_of, some, takes, unhandled, with_event, with_micro}

-- ---- what is selected

module _ (def : Def) (run : Run) (asked : Bool) where
  one-selection : (a b : Result (List Place) EvalFault) → SelectsNow def run asked a → SelectsNow def run asked b → a ≡ b
  one-selection a b is-a is-b = selects-unique (record { def = def; own = run.own; event = run.event; eventless = asked }) a b is-a is-b

  none-some : (first : Place) (others : List Place) → SelectsNow def run asked (Ok []) → SelectsNow def run asked (Ok (first ∷ others)) → ⊥
  none-some first others is-a is-b = let same : ◌≡◌ {A = Result (List Place) EvalFault} (Ok []) (Ok (first ∷ others)) = one-selection (Ok []) (Ok (first ∷ others)) is-a is-b in cc

  some-fault : (places : List Place) (name : EvalFault) → SelectsNow def run asked (Ok places) → SelectsNow def run asked (Err name) → ⊥
  some-fault places name is-a is-b = let same : ◌≡◌ {A = Result (List Place) EvalFault} (Ok places) (Err name) = one-selection (Ok places) (Err name) is-a is-b in cc

  one-fault : (x y : EvalFault) → SelectsNow def run asked (Err x) → SelectsNow def run asked (Err y) → x ≡ y
  one-fault x y is-a is-b = let same : ◌≡◌ {A = Result (List Place) EvalFault} (Err x) (Err y) = one-selection (Err x) (Err y) is-a is-b in cc

  one-list : (x y : List Place) → SelectsNow def run asked (Ok x) → SelectsNow def run asked (Ok y) → x ≡ y
  one-list x y is-a is-b = let same : ◌≡◌ {A = Result (List Place) EvalFault} (Ok x) (Ok y) = one-selection (Ok x) (Ok y) is-a is-b in cc

  -- the transitions that are taken
  abbrev Taken : List Place → List Transition
  Taken places = transitions_at def (record { eventless = asked; taken = places })

  same-taken : (x y : List Place) (result : Stepped Ended) → SelectsNow def run asked (Ok x) → SelectsNow def run asked (Ok y) → Makes def run (Taken y) result → Makes def run (Taken x) result
  same-taken x y result is-a is-b makes =
      let same : y ≡ x = one-list y x is-b is-a in
      let P : List Place → Type 0 = λ places. Makes def run (Taken places) result in
      subst P same makes

-- the oldest raised event is one
same-oldest : (def : Def) (run : Run) (x y : Value) (xs ys : List Value) (result : Stepped Ended) → run.raised ≡ x ∷ xs → run.raised ≡ y ∷ ys → Takes def (with_event run y ys) result → Takes def (with_event run x xs) result
same-oldest def run x y xs ys result is-a is-b takes_so =
    let event : y ≡ x = cc (is-a, is-b) in
    let later : ys ≡ xs = cc (is-a, is-b) in
    let P : Value → Type 0 = λ v. Takes def (with_event run v ys) result in
    let Q : List Value → Type 0 = λ vs. Takes def (with_event run x vs) result in
    subst Q later (subst P event takes_so)

none-raised : (run : Run) (x : Value) (xs : List Value) → run.raised ≡ [] → run.raised ≡ x ∷ xs → ⊥
none-raised run x xs empty is = cc (empty, is)

-- ---- runs

mutual
  runs-unique : (def : Def) (run : Run) (a b : Stepped Ended) → Runs def run a → Runs def run b → a ≡ b
  runs-unique def run a b (rests is empty) (rests is-too empty-too) = refl
  runs-unique def run a b (rests is empty) (eventless {first = first} {others = others} is-too makes) = absurd (none-some def run true first others is is-too)
  runs-unique def run a b (rests is empty) (takes {event = event} {later = later} is-too oldest takes_so) = absurd (none-raised run event later empty oldest)
  runs-unique def run a b (rests is empty) (faults_at_rest {name = name} is-too) = absurd (some-fault def run true [] name is is-too)
  runs-unique def run a b (eventless {first = first} {others = others} is makes) (rests is-too empty) = absurd (none-some def run true first others is-too is)
  runs-unique def run a b (eventless {first = x} {others = xs} is makes) (eventless {first = y} {others = ys} is-too makes-too) =
      makes-unique def run (transitions_at def (record { eventless = true; taken = x ∷ xs })) a b makes (same-taken def run true (x ∷ xs) (y ∷ ys) b is is-too makes-too)
  runs-unique def run a b (eventless {first = first} {others = others} is makes) (takes is-too oldest takes_so) = absurd (none-some def run true first others is-too is)
  runs-unique def run a b (eventless {first = first} {others = others} is makes) (faults_at_rest {name = name} is-too) = absurd (some-fault def run true (first ∷ others) name is is-too)
  runs-unique def run a b (takes {event = event} {later = later} is oldest takes_so) (rests is-too empty) = absurd (none-raised run event later empty oldest)
  runs-unique def run a b (takes is oldest takes_so) (eventless {first = first} {others = others} is-too makes) = absurd (none-some def run true first others is is-too)
  runs-unique def run a b (takes {event = x} {later = xs} is oldest takes_so) (takes {event = y} {later = ys} is-too oldest-too takes-too) =
      takes-unique def (with_event run x xs) a b takes_so (same-oldest def run x y xs ys b oldest oldest-too takes-too)
  runs-unique def run a b (takes is oldest takes_so) (faults_at_rest {name = name} is-too) = absurd (some-fault def run true [] name is is-too)
  runs-unique def run a b (faults_at_rest {name = name} is) (rests is-too empty) = absurd (some-fault def run true [] name is-too is)
  runs-unique def run a b (faults_at_rest {name = name} is) (eventless {first = first} {others = others} is-too makes) = absurd (some-fault def run true (first ∷ others) name is-too is)
  runs-unique def run a b (faults_at_rest {name = name} is) (takes is-too oldest takes_so) = absurd (some-fault def run true [] name is-too is)
  runs-unique def run a b (faults_at_rest {name = x} is) (faults_at_rest {name = y} is-too) = let same : x ≡ y = one-fault def run true x y is is-too in ap (λ (name : EvalFault). Err (fault_name name)) same

  takes-unique : (def : Def) (run : Run) (a b : Stepped Ended) → Takes def run a → Takes def run b → a ≡ b
  takes-unique def run a b (none is runs) (none is-too runs-too) = runs-unique def run a b runs runs-too
  takes-unique def run a b (none is runs) (some {first = first} {others = others} is-too makes) = absurd (none-some def run false first others is is-too)
  takes-unique def run a b (none is runs) (faults {name = name} is-too) = absurd (some-fault def run false [] name is is-too)
  takes-unique def run a b (some {first = first} {others = others} is makes) (none is-too runs) = absurd (none-some def run false first others is-too is)
  takes-unique def run a b (some {first = x} {others = xs} is makes) (some {first = y} {others = ys} is-too makes-too) =
      makes-unique def run (transitions_at def (record { eventless = false; taken = x ∷ xs })) a b makes (same-taken def run false (x ∷ xs) (y ∷ ys) b is is-too makes-too)
  takes-unique def run a b (some {first = first} {others = others} is makes) (faults {name = name} is-too) = absurd (some-fault def run false (first ∷ others) name is is-too)
  takes-unique def run a b (faults {name = name} is) (none is-too runs) = absurd (some-fault def run false [] name is-too is)
  takes-unique def run a b (faults {name = name} is) (some {first = first} {others = others} is-too makes) = absurd (some-fault def run false (first ∷ others) name is-too is)
  takes-unique def run a b (faults {name = x} is) (faults {name = y} is-too) = let same : x ≡ y = one-fault def run false x y is is-too in ap (λ (name : EvalFault). Err (fault_name name)) same

  makes-unique : (def : Def) (run : Run) (transitions : List Transition) (a b : Stepped Ended) → Makes def run transitions a → Makes def run transitions b → a ≡ b
  makes-unique def run transitions a b (one_too_many full) (one_too_many full-too) = refl
  makes-unique def run transitions a b (one_too_many full) (one within step goes) = absurd (omega (arith, full, within))
  makes-unique def run transitions a b (one within step goes) (one_too_many full) = absurd (omega (arith, full, within))
  makes-unique def run transitions a b (one {made = x} within step goes) (one {made = y} within-too step-too goes-too) =
      let same : y ≡ x = microstep-unique def run.own transitions run.event y x step-too step in
      let P : Stepped Micro → Type 0 = λ made. Goes def run made b in
      goes-unique def run x a b goes (subst P same goes-too)

  goes-unique : (def : Def) (run : Run) (made : Stepped Micro) (a b : Stepped Ended) → Goes def run made a → Goes def run made b → a ≡ b
  goes-unique def run made a b fails fails = refl
  goes-unique def run made a b (acts_too_many many) (acts_too_many many-too) = refl
  goes-unique def run made a b (acts_too_many many) (done few over gives) = absurd (omega (arith, many, few))
  goes-unique def run made a b (acts_too_many many) (further few on runs) = absurd (omega (arith, many, few))
  goes-unique def run made a b (done few over gives) (acts_too_many many) = absurd (omega (arith, many, few))
  goes-unique def run made a b (done {micro = micro} {output = x} few over gives) (done {output = y} few-too over-too gives-too) =
      let same : x ≡ y = cc (gives, gives-too) in
      λ i. Ok (record { run = with_micro run micro; end = end.Done (same i) })
  goes-unique def run made a b (done few over gives) (further few-too on runs) = absurd (cc (over, on))
  goes-unique def run made a b (further few on runs) (acts_too_many many) = absurd (omega (arith, many, few))
  goes-unique def run made a b (further few on runs) (done few-too over gives) = absurd (cc (over, on))
  goes-unique def run made a b (further {micro = micro} few on runs) (further few-too on-too runs-too) = runs-unique def (with_micro run micro) a b runs runs-too

-- ---- outcomes

pub macrostep-unique : (def : Def) (own : Own) (event : Value) (a b : Outcome) → IsMacrostep def own event a → IsMacrostep def own event b → a ≡ b
macrostep-unique def own event a b (unhandled child is) (unhandled child-too is-too) = refl
macrostep-unique def own event a b (unhandled child is) (handled tells takes_so) = absurd (tells child is)
macrostep-unique def own event a b (handled tells takes_so) (unhandled child is) = absurd (tells child is)
macrostep-unique def own event a b (handled {ended = x} tells takes_so) (handled {ended = y} tells-too takes-too) = ap (outcome_of own) (takes-unique def (run_of own event) x y takes_so takes-too)

pub first-macrostep-unique : (def : Def) (number : ℕ) (input : Value) (a b : Outcome) → IsFirstMacrostep def number input a → IsFirstMacrostep def number input b → a ≡ b
first-macrostep-unique def number input a b is-a is-b =
    let own = fresh_own number in
    let event = init_event input in
    let made : is-b.made ≡ is-a.made = first-microstep-unique def own event is-b.made is-a.made is-b.first is-a.first in
    let P : Stepped Micro → Type 0 = λ m. Goes def (run_of own event) m is-b.ended in
    let ended : is-a.ended ≡ is-b.ended = goes-unique def (run_of own event) is-a.made is-a.ended is-b.ended is-a.goes (subst P made is-b.goes) in
    is-a.outcome_is ∙ ap (outcome_of own) ended ∙ sym is-b.outcome_is
