-- What transitions leave and enter together.
use Rattle.std.proofs.Common.{◌≡◌, ◌<◌, ◌≤◌, ◌+◌, ◌⊎◌, ℕ, zero, suc, List, [], ◌∷◌, ◌++◌, length, get_or, take, Some, None, refl, sym, subst, arith, inl, inr, eq-eqb}
use Rattle.std.specs.Prelude.{Option}
use Rattle.std.specs.List.{AllPairs, Contains, filter_map}
use Rattle.std.specs.Option.{IsSomeAnd}
use Rattle.std.specs.List.Sorted.{IsStrictlyIncreasing}
use Rattle.std.proofs.lemmas.List.{append-nil, get_or-map, length-map, take_more, take_all}
use Rattle.std.proofs.lemmas.Bool.{ne_eqb}
use Rattle.std.proofs.lemmas.List.Kept.{AllPairs-from_increasing}
use Rattle.std.proofs.lemmas.List.Elements.{Contains-append_left, Contains-push, Contains-push_cases, filter_map-append}
use Rattle.node_tree.specs.Kinds.{Nodes}
use Rattle.node_tree.specs.Nodes.{IsTree}
use Rattle.step_sets.specs.declared.types.Domain.{Domain}
use Rattle.step_sets.specs.Sets.{IsSetOf}
use Rattle.step_sets.specs.Goals.{History, record_of}
use Rattle.step_sets.specs.History.{RecordsNodes, history_nodes}
use Rattle.step_sets.proofs.SetLemmas.{All-from_set, IsSetOf-same}
use Rattle.step_sets.proofs.TreeLemmas.{history_inside}
use Rattle.guard_eval.specs.declared.def.Def.{Def}
use Rattle.guard_eval.specs.declared.transition.Transition.{Transition}
use Rattle.microstep.specs.Selection.{MovesIn, arrow_of}
use Rattle.office_types.specs.OwnParts.{IsRecordedHistory}
use Rattle.microstep.specs.Micro.{IsMovedByOne}
use Rattle.microstep.proofs.ExitLemmas.{one-domain}

-- a transition moves in one domain
pub set-moved : {F : Domain → ℕ → Type 0} (def : Def) → IsTree def.tree → (transition : Transition) (domain : Domain) (nodes : List ℕ) → MovesIn def transition domain → IsSetOf (F domain) nodes
    → IsSetOf (λ n. (other : Domain) × MovesIn def transition other × F other n) nodes
set-moved {F} def tree transition domain nodes moves set = IsSetOf-same nodes set
    (λ n. (
      (λ f. (domain, moves, f)),
      (λ (other, also, f).
          let P : Domain → Type 0 = λ d. F d n in
          subst P (one-domain def.tree tree (arrow_of transition) other domain also.domain_of moves.domain_of) f),
    ))

-- without targets it moves nothing
pub set-still : {F : Domain → ℕ → Type 0} (def : Def) (transition : Transition) (nodes : List ℕ) → length transition.targets ≡ 0 → nodes ≡ []
    → IsSetOf (λ n. (domain : Domain) × MovesIn def transition domain × F domain n) nodes
set-still {F} def transition nodes still none = rw none (record {
  in_order = λ k inside. absurd (omega (arith, inside));
  exact = λ n. ((λ (k, inside, is). absurd (omega (arith, inside))), (λ (domain, moves, f). let (k, inside, is) = moves.has_target in absurd (omega (arith, inside, still))));
})

pub moved-start : (F : Transition → ℕ → Type 0) → IsSetOf (IsMovedByOne F []) []
moved-start F = record {
  in_order = λ k inside. absurd (omega (arith, inside));
  exact = λ n. ((λ (k, inside, is). absurd (omega (arith, inside))), (λ (transition, (k, inside, is), f). absurd (omega (arith, inside))));
}

-- one place more
pub moved-more : {P : Type 0} (F : Transition → ℕ → Type 0) (find : P → Option Transition) (places : List P) (i : ℕ) (d : P) (moved more both : List ℕ)
    → i < length places → IsSetOf (IsMovedByOne F (filter_map find (take i places))) moved → IsSetOf (λ n. IsSomeAnd (find (get_or places i d)) (λ t. F t n)) more
    → IsSetOf (λ n. Contains moved n ⊎ Contains more n) both → IsSetOf (IsMovedByOne F (filter_map find (take (i + 1) places))) both
moved-more {P} F find places i d moved more both inside was new joined =
    rw (take_more places i d inside, filter_map-append find (take i places) (get_or places i d ∷ []))
    (by_case (find (get_or places i d)) refl)
  where
    front : List Transition
    front = filter_map find (take i places)

    by_case : (o : Option Transition) → find (get_or places i d) ≡ o → IsSetOf (IsMovedByOne F (front ++ filter_map find (get_or places i d ∷ []))) both
    by_case None is =
        let none = rw is at new in
        rw (is, append-nil front)
        (IsSetOf-same both joined
        (λ n. (
          (λ has. elim has [ inl k ↦ (was.exact n).0 k | inr k ↦ absurd ((none.exact n).0 k) ]),
          (λ old. inl ((was.exact n).1 old)),
        )))
    by_case (Some transition) is =
        let one = rw is at new in
        rw is
        (IsSetOf-same both joined
        (λ n. (
          (λ has. elim has [
            | inl k ↦ let (old, in-old, f) = (was.exact n).0 k in (old, Contains-append_left front (transition ∷ []) old in-old, f)
            | inr k ↦ (transition, Contains-push front transition, (one.exact n).0 k)
          ]),
          (λ (by, has, f). elim (Contains-push_cases front transition by has) [
            | inl old ↦ inl ((was.exact n).1 (by, old, f))
            | inr same ↦ let G : Transition → Type 0 = λ t. F t n in inr ((one.exact n).1 (subst G (sym same) f))
          ]),
        )))

pub moved-all : {P : Type 0} (F : Transition → ℕ → Type 0) (find : P → Option Transition) (places : List P) (i : ℕ) (moved : List ℕ) → length places ≤ i
    → IsSetOf (IsMovedByOne F (filter_map find (take i places))) moved → IsSetOf (IsMovedByOne F (filter_map find places)) moved
moved-all F find places i moved all was = rw (take_all i places all) at was

-- what stays and what is entered
pub kept-and-entered : (nodes left entered kept both : List ℕ) → IsSetOf (λ n. Contains nodes n × ¬ Contains left n) kept → IsSetOf (λ n. Contains kept n ⊎ Contains entered n) both
    → IsSetOf (λ n. (Contains nodes n × ¬ Contains left n) ⊎ Contains entered n) both
kept-and-entered nodes left entered kept both stays joined = IsSetOf-same both joined
    (λ n. (
      (λ has. elim has [ inl k ↦ inl ((stays.exact n).0 k) | inr k ↦ inr k ]),
      (λ has. elim has [ inl k ↦ inl ((stays.exact n).1 k) | inr k ↦ inr k ]),
    ))

-- ---- recorded history

-- where each node stands once, a record is what is recorded for its node
pub record-at : (history : History) (k : ℕ) (d : ℕ × List ℕ) → IsStrictlyIncreasing (history_nodes history) → k < length history
    → record_of history (get_or history k d).0 ≡ Some (get_or history k d).1
record-at history k d rising inside = by_list history k (AllPairs-from_increasing (history_nodes history) rising) inside
  where
    by_list : (history : History) (k : ℕ) → AllPairs (λ x y. x < y) (history_nodes history) → k < length history → record_of history (get_or history k d).0 ≡ Some (get_or history k d).1
    by_list [] k pairs inside = absurd (omega (arith, inside))
    by_list (r ∷ rs) zero pairs inside = rw (eq-eqb r.0 r.0 refl) refl
    by_list (r ∷ rs) (suc k) pairs inside =
        let lt : r.0 < get_or (history_nodes rs) k 0 = pairs 0 (suc k) 0 (omega arith) (omega (arith, inside, length-map rs (λ (r : ℕ × List ℕ). r.0))) in
        let at : get_or (history_nodes rs) k 0 ≡ (get_or rs k d).0 = get_or-map (λ (r : ℕ × List ℕ). r.0) rs k d 0 (omega (arith, inside)) in
        rw (ne_eqb r.0 (get_or rs k d).0 (λ same. absurd (omega (arith, lt, at, same))))
        (by_list rs k (λ a b c less in-b. pairs (suc a) (suc b) c (omega (arith, less)) (omega (arith, in-b))) (omega (arith, inside)))

-- what a recorded history names are nodes
pub records-named : (nodes : Nodes) (history : History) → IsRecordedHistory nodes history → RecordsNodes nodes history
records-named nodes history recorded = λ k d inside.
    let fit = recorded.fit (get_or history k d).0 (get_or history k d).1 (record-at history k d recorded.in_order inside) in
    (history_inside nodes (get_or history k d).0 fit.history, All-from_set (λ n. n < length nodes) (get_or history k d).1 fit.remembered (λ n (active, can). fit.legal.of_tree n active))

-- ---- the transition at a place

pub found-moved : (F : Transition → ℕ → Type 0) (o : Option Transition) (transition : Transition) (moved : List ℕ) → Some transition ≡ o → IsSetOf (F transition) moved → IsSetOf (λ n. IsSomeAnd o (λ t. F t n)) moved
found-moved F o transition moved is set = rw (← is) set

pub none-moved : (F : Transition → ℕ → Type 0) (o : Option Transition) → None ≡ o → IsSetOf (λ n. IsSomeAnd o (λ t. F t n)) []
none-moved F o is = rw (← is) (record {
  in_order = λ k inside. absurd (omega (arith, inside));
  exact = λ n. ((λ (k, inside, at). absurd (omega (arith, inside))), (λ none. absurd none));
})
