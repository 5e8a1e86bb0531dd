-- The transitions that are taken can be taken together.
use Rattle.std.proofs.Common.{◌≡◌, ◌<◌, ◌+◌, ℕ, zero, suc, Bool, true, false, cond, List, [], ◌∷◌, length, get_or, map, filter, Option, Some, None, Ok, Err, refl, sym, ap, subst, arith, inl, inr, ◌∙◌}
use Rattle.std.specs.Prelude.{slice_get, unwrap_or}
use Rattle.std.specs.List.{All, AllPairs, AllZip, Contains, enumerate_from, items_where_true}
use Rattle.std.specs.Option.{option_map_or}
use Rattle.std.proofs.lemmas.List.{get_or-map, length-map}
use Rattle.std.proofs.lemmas.List.Elements.{Contains-get_or}
use Rattle.std.proofs.lemmas.List.FromFn.{get_or-enumerate_from, length-enumerate_from}
use Rattle.std.proofs.lemmas.Option.{slice_get_read}
use Rattle.std.proofs.lemmas.List.Kept.{AllPairs-from_increasing}
use Rattle.step_sets.specs.Sets.{IsSetOf}
use Rattle.step_sets.proofs.LawLemmas.{unpreempted_apart}
use Rattle.step_sets.proofs.ListLemmas.{Contains-cons_cases, Contains-flat_map, Contains-there}
use Rattle.guard_eval.specs.declared.def.NodeDef.{NodeDef}
use Rattle.guard_eval.specs.declared.transition.Transition.{Transition}
use Rattle.guard_eval.specs.Guards.{Truth}
use Rattle.microstep.specs.Candidates.{Candidate, candidates_for, candidates_under, descriptors_of}
use Rattle.microstep.specs.Selection.{IsLeftBy, IsSelection, Looking, Place, candidates_of, first_by, first_enabled, is_enabled, own_transition, transition_at}
use Rattle.office_types.specs.Events.{event_type}
use Rattle.microstep.specs.Micro.{Leaves}
use Rattle.microstep.specs.Taking.{CanBeTaken, IsLeftFrom}
use Rattle.microstep.proofs.ExitLemmas.{AllZip-length}

-- ---- a place that a node picks has a transition

in-filter : {X : Type 0} (p : X → Bool) (xs : List X) (x : X) → Contains (filter p xs) x → Contains xs x
in-filter p [] x has = has
in-filter {X} p (y ∷ ys) x has = by_case (λ later. in-filter p ys x later) (p y) has
  where
    by_case : (Contains (filter p ys) x → Contains ys x) → (b : Bool) → Contains (cond b (y ∷ filter p ys) (filter p ys)) x → Contains (y ∷ ys) x
    by_case deeper true h = elim (Contains-cons_cases x y (filter p ys) h) [ inl same ↦ (0, omega arith, same) | inr later ↦ Contains-there x y ys (deeper later) ]
    by_case deeper false h = Contains-there x y ys (deeper h)

-- the first candidate that is enabled is one of them
first-among : (looking : Looking) (candidates : List Candidate) (place : ℕ) → first_enabled looking candidates ≡ Ok (Some place) → (transition : Transition) × Contains candidates (place, transition)
first-among looking [] place is = absurd cc
first-among looking (candidate ∷ later) place is = by_truth (λ at. first-among looking later place at) (is_enabled looking candidate.1) is
  where
    by_truth : (first_enabled looking later ≡ Ok (Some place) → (transition : Transition) × Contains later (place, transition))
        → (truth : Truth) → first_by truth candidate.0 (first_enabled looking later) ≡ Ok (Some place) → (transition : Transition) × Contains (candidate ∷ later) (place, transition)
    by_truth deeper (Ok true) at = let same : candidate.0 ≡ place = cc in (candidate.1, (0, omega arith, rw (← same) refl))
    by_truth deeper (Ok false) at = let (transition, has) = deeper at in (transition, Contains-there (place, transition) candidate later has)
    by_truth deeper (Err fault) at = absurd cc

-- the candidates of a list stand in it
enumerated : (transitions : List Transition) (place : ℕ) (transition : Transition) → Contains (enumerate_from 0 transitions) (place, transition) → slice_get transitions place ≡ Some transition
enumerated transitions place transition (k, inside, is) =
    let within : k < length transitions = omega (arith, inside, length-enumerate_from 0 transitions) in
    let at : (0 + k, get_or transitions k transition) ≡ (place, transition) = sym (get_or-enumerate_from 0 transitions k (place, transition) within) ∙ is in
    let number : 0 + k ≡ place = ap (λ (c : Candidate). c.0) at in
    let found : get_or transitions k transition ≡ transition = ap (λ (c : Candidate). c.1) at in
    let same : k ≡ place = omega (arith, number) in
    slice_get_read transitions (length transitions) place transition refl (omega (arith, within, same)) (rw (← same) (sym found))

candidate-there : (looking : Looking) (node : NodeDef) (place : ℕ) (transition : Transition) → Contains (candidates_of looking node) (place, transition)
    → slice_get (cond looking.eventless node.always node.transitions) place ≡ Some transition
candidate-there looking node place transition has = by_case looking.eventless has
  where
    by_case : (eventless : Bool) → Contains (cond eventless (enumerate_from 0 node.always) (candidates_for node.transitions (unwrap_or (event_type looking.event) []))) (place, transition)
        → slice_get (cond eventless node.always node.transitions) place ≡ Some transition
    by_case true h = enumerated node.always place transition h
    by_case false h =
        let (k, inside, under) = Contains-flat_map (candidates_under node.transitions) (descriptors_of (unwrap_or (event_type looking.event) [])) (place, transition) h in
        enumerated node.transitions place transition (in-filter _ (enumerate_from 0 node.transitions) (place, transition) (under []))

picked-transition : (looking : Looking) (n place : ℕ) → own_transition looking n ≡ Ok (Some place) → (transition : Transition) × (transition_at looking.def looking.eventless (n, place) ≡ Some transition)
picked-transition looking n place is = by_node (slice_get looking.def.nodes n) refl is
  where
    by_node : (o : Option NodeDef) → slice_get looking.def.nodes n ≡ o → option_map_or (λ (node : NodeDef). first_enabled looking (candidates_of looking node)) o (Ok None) ≡ Ok (Some place)
        → (transition : Transition) × (transition_at looking.def looking.eventless (n, place) ≡ Some transition)
    by_node None at none = absurd cc
    by_node (Some node) at first =
        let (transition, has) = first-among looking (candidates_of looking node) place first in
        (transition, rw at (candidate-there looking node place transition has))

-- ---- the items that are kept

kept-one : {X : Type 0} (flags : List Bool) (xs : List X) (y : X) → Contains (items_where_true flags xs) y → (j : ℕ) × (j < length xs) × (get_or flags j false ≡ true) × (get_or xs j y ≡ y)
kept-one [] xs y (k, inside, is) = absurd (omega (arith, inside))
kept-one (b ∷ bs) [] y (k, inside, is) = absurd (omega (arith, inside))
kept-one (true ∷ bs) (x ∷ xs) y has = elim (Contains-cons_cases y x (items_where_true bs xs) has) [
  | inl same ↦ (0, omega arith, refl, same)
  | inr later ↦ let (j, inside, on, at) = kept-one bs xs y later in (suc j, omega (arith, inside), on, at)
]
kept-one (false ∷ bs) (x ∷ xs) y has = let (j, inside, on, at) = kept-one bs xs y has in (suc j, omega (arith, inside), on, at)

pairs-cons : {X : Type 0} (R : X → X → Type 0) (x : X) (xs : List X) → ((y : X) → Contains xs y → R x y) → AllPairs R xs → AllPairs R (x ∷ xs)
pairs-cons R x xs first pairs zero zero d less inside = absurd (omega (arith, less))
pairs-cons R x xs first pairs zero (suc j) d less inside = first (get_or xs j d) (Contains-get_or xs j d (omega (arith, inside)))
pairs-cons R x xs first pairs (suc i) zero d less inside = absurd (omega (arith, less))
pairs-cons R x xs first pairs (suc i) (suc j) d less inside = pairs i j d (omega (arith, less)) (omega (arith, inside))

kept-pairs : {X : Type 0} (R : X → X → Type 0) (flags : List Bool) (xs : List X)
    → ((i j : ℕ) (d : X) → i < j → j < length xs → get_or flags i false ≡ true → get_or flags j false ≡ true → R (get_or xs i d) (get_or xs j d))
    → AllPairs R (items_where_true flags xs)
kept-pairs R [] xs each = λ i j d less inside. absurd (omega (arith, inside))
kept-pairs R (b ∷ bs) [] each = λ i j d less inside. absurd (omega (arith, inside))
kept-pairs {X} R (true ∷ bs) (x ∷ xs) each = pairs-cons R x (items_where_true bs xs)
    (λ y has.
    let (j, inside, on, at) = kept-one bs xs y has in
    let P : X → Type 0 = λ z. R x z in
    subst P at (each 0 (suc j) y (omega arith) (omega (arith, inside)) refl on))
    (kept-pairs R bs xs (λ i j d less inside on-i on-j. each (suc i) (suc j) d (omega (arith, less)) (omega (arith, inside)) on-i on-j))
kept-pairs R (false ∷ bs) (x ∷ xs) each = kept-pairs R bs xs (λ i j d less inside on-i on-j. each (suc i) (suc j) d (omega (arith, less)) (omega (arith, inside)) on-i on-j)

kept-all : {X : Type 0} (P : X → Type 0) (flags : List Bool) (xs : List X) → ((x : X) → Contains xs x → P x) → All P (items_where_true flags xs)
kept-all P flags xs each = λ k d inside.
    let y = get_or (items_where_true flags xs) k d in
    let (j, in-xs, on, at) = kept-one flags xs y (Contains-get_or (items_where_true flags xs) k d inside) in
    each y (j, in-xs, at)

zip-at : {X Y : Type 0} (R : X → Y → Type 0) (xs : List X) (ys : List Y) (i : ℕ) (d : X) (e : Y) → AllZip R xs ys → i < length xs → R (get_or xs i d) (get_or ys i e)
zip-at R [] [] i d e all inside = absurd (omega (arith, inside))
zip-at R [] (y ∷ ys) i d e all inside = absurd all
zip-at R (x ∷ xs) [] i d e all inside = absurd all
zip-at R (x ∷ xs) (y ∷ ys) zero d e all inside = all.0
zip-at R (x ∷ xs) (y ∷ ys) (suc i) d e all inside = zip-at R xs ys i d e all.1 (omega (arith, inside))

-- ---- what is selected can be taken

by-looking : (looking : Looking) (taken : List Place) (place : Place) (n : ℕ)
    → IsLeftFrom looking.def looking.own (record { eventless = looking.eventless; taken = taken }) place n → IsLeftBy looking place n
by-looking looking taken place n (transition, at, (one, has, leaves)) =
    let only : transition ≡ one = elim (Contains-cons_cases one transition [] has) [ inl same ↦ same | inr (k, inside, is) ↦ absurd (omega (arith, inside)) ] in
    let P : Transition → Type 0 = λ t. Leaves looking.def looking.own.nodes t n in
    rw at (subst P (sym only) leaves)

pub can-be-taken : (looking : Looking) (taken : List Place) → IsSelection looking taken → CanBeTaken looking.def looking.own (record { eventless = looking.eventless; taken = taken })
can-be-taken looking taken selection =
    let Apart : Place → Place → Type 0 = λ a b. (n : ℕ) → IsLeftFrom looking.def looking.own (record { eventless = looking.eventless; taken = kept }) a n
    → ¬ IsLeftFrom looking.def looking.own (record { eventless = looking.eventless; taken = kept }) b n in
    rw selection.taken_are (record {
      in_order = λ k inside.
          let less : k + 1 < length kept = omega (arith, inside, length-map kept number) in
          rw (get_or-map number kept k (0, 0) 0 (omega (arith, less)), get_or-map number kept (k + 1) (0, 0) 0 less) (ordered k (k + 1) (0, 0) (omega arith) less);
      active = kept-all (λ (place : Place). Contains looking.own.nodes place.0) selection.flags selection.picked (λ place has. ((selection.picks.each place).0 has).0.active);
      in_range = kept-all (λ (place : Place). (transition : Transition) × (transition_at looking.def looking.eventless place ≡ Some transition)) selection.flags selection.picked
          (λ place has. picked-transition looking place.0 place.1 ((selection.picks.each place).0 has).1);
      apart = kept-pairs Apart selection.flags selection.picked (λ i j d less inside on-i on-j n left-i left-j.
          let each = AllZip-length (λ place. IsSetOf (IsLeftBy looking place)) selection.picked selection.exits selection.exit_sets in
          let at-i = zip-at (λ place. IsSetOf (IsLeftBy looking place)) selection.picked selection.exits i d [] selection.exit_sets (omega (arith, less, inside)) in
          let at-j = zip-at (λ place. IsSetOf (IsLeftBy looking place)) selection.picked selection.exits j d [] selection.exit_sets inside in
          (unpreempted_apart selection.exits selection.flags selection.stays).disjoint i j (omega (arith, less, inside, each)) (omega (arith, inside, each)) (λ same. omega (arith, less, same)) on-i on-j
          (n, (at-i.exact n).1 (by-looking looking kept (get_or selection.picked i d) n left-i), (at-j.exact n).1 (by-looking looking kept (get_or selection.picked j d) n left-j)));
    })
  where
    number : Place → ℕ
    number place = place.0

    kept : List Place
    kept = items_where_true selection.flags selection.picked

    ordered : AllPairs (λ (a b : Place). a.0 < b.0) kept
    ordered = kept-pairs (λ (a b : Place). a.0 < b.0) selection.flags selection.picked (λ i j d less inside on-i on-j.
        let all = AllPairs-from_increasing (map (λ (place : Place). place.0) selection.picked) selection.picks.in_order i j 0 less (omega (arith, inside, length-map selection.picked (λ (place : Place). place.0))) in
        rw (get_or-map (λ (place : Place). place.0) selection.picked i d 0 (omega (arith, less, inside)), get_or-map (λ (place : Place). place.0) selection.picked j d 0 inside) at all)
