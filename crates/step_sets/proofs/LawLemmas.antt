-- What follows from preemption and from the recorded history.
use Rattle.std.proofs.Common.{◌≡◌, ◌∙◌, ℕ, Bool, true, false, MatchBool, List, [], get_or, Option, Some, None, arith, inl, inr, sym, refl, subst}
use Rattle.std.specs.List.{All, Contains}
use Rattle.std.specs.Option.{IsSomeAnd}
use Rattle.std.proofs.lemmas.Bool.{cases_eq, cases_lt}
use Rattle.std.proofs.lemmas.Bool.Decides.{when_true}
use Rattle.std.proofs.lemmas.List.Elements.{All-contains, All-weaker, Contains-get_or}
use Rattle.node_tree.specs.declared.node.Node.{Node}
use Rattle.node_tree.specs.Nodes.{IsBelow, IsChild, parent_of}
use Rattle.step_sets.specs.Configuration.{IsLegal}
use Rattle.step_sets.specs.Goals.{History, record_of}
use Rattle.step_sets.specs.History.{CanBeRemembered, Departure, IsRecordedNow, IsRemembered, RecordsHistory}
use Rattle.node_tree.specs.Kinds.{IsHistory, IsLeaf}
use Rattle.step_sets.specs.Laws.{AreApart, HoldsChildrenOrLeaves}
use Rattle.step_sets.specs.Preemption.{IsPreempted, KeepsUnpreempted, Meets}
use Rattle.step_sets.specs.Sets.{IsSetOf}
use Rattle.step_sets.specs.Statechart.{IsFitHistory, IsFitRecord}
use Rattle.step_sets.proofs.GoalLemmas.{decide_history}
use Rattle.step_sets.proofs.ListLemmas.{decide_any}
use Rattle.step_sets.proofs.RememberedLemmas.{remembered_child, remembered_leaf}

when_not_true : (b : Bool) (P Q : Type 0) → MatchBool b P Q → ¬ (b ≡ true) → Q
when_not_true true P Q m off = absurd (off refl)
when_not_true false P Q m off = m

meets_back : (a b : List ℕ) → Meets a b → Meets b a
meets_back a b (n, in-a, in-b) = (n, in-b, in-a)

pub unpreempted_apart : (exits : List (List ℕ)) (stays : List Bool) → KeepsUnpreempted exits stays → AreApart exits stays
unpreempted_apart exits stays kept = record {
  disjoint = λ i j in-i in-j other stays-i stays-j meets.
      elim (cases_lt i j) [
        | inl before ↦ when_true (¬ IsPreempted exits stays j) (IsPreempted exits stays j) stays-j (kept.cases j in-j) (i, before, stays-i, meets)
        | inr ge ↦ elim (cases_lt j i) [
          | inl after ↦ when_true (¬ IsPreempted exits stays i) (IsPreempted exits stays i) stays-i (kept.cases i in-i) (j, after, stays-j, meets_back (get_or exits i []) (get_or exits j []) meets)
          | inr le ↦ other (omega arith)
        ]
      ];
  dropped = λ i in-i off. when_not_true (get_or stays i false) (¬ IsPreempted exits stays i) (IsPreempted exits stays i) (kept.cases i in-i) off;
}

module _ (nodes : List Node) (departure : Departure) (new : History) (records : RecordsHistory nodes departure new) where
  -- what is recorded for a history node whose parent is left
  recorded_set : (h : ℕ) (list : List ℕ) → IsRecordedNow nodes departure.exits h → record_of new h ≡ Some list → IsSetOf (IsRemembered nodes departure.active h) list
  recorded_set h list now is =
      let P : Option (List ℕ) → Type 0 = λ r. IsSomeAnd r (IsSetOf (IsRemembered nodes departure.active h)) in
      subst P is ((records.each h).recorded now)

  recorded_all : (h : ℕ) (list : List ℕ) → IsRecordedNow nodes departure.exits h → record_of new h ≡ Some list → All (CanBeRemembered nodes h) list
  recorded_all h list now is = λ k d inside.
      let remembered = ((recorded_set h list now is).exact (get_or list k d)).0 (Contains-get_or list k d inside) in
      remembered.1

  pub holds_children_or_leaves : HoldsChildrenOrLeaves nodes departure.exits new
  holds_children_or_leaves = record {
    shallow = λ h parent default list of c left is.
        let history : IsHistory nodes h = rw of tt in
        All-weaker (CanBeRemembered nodes h) (λ n. IsChild nodes n parent) (λ n can. remembered_child nodes h parent c default of n can) list (recorded_all h list (history, parent, c, left) is);
    deep = λ h parent default list of c left is.
        let history : IsHistory nodes h = rw of tt in
        All-weaker (CanBeRemembered nodes h) (λ n. IsBelow nodes n parent × IsLeaf nodes n) (λ n can. remembered_leaf nodes h parent c default of n can) list (recorded_all h list (history, parent, c, left) is);
  }

  kept_fit : (h : ℕ) (list : List ℕ) → ¬ IsRecordedNow nodes departure.exits h → IsFitHistory nodes departure.recorded → record_of new h ≡ Some list → IsFitRecord nodes h list
  kept_fit h list other fit is = fit h list (sym ((records.each h).kept other) ∙ is)

  fit_by_parent : (h : ℕ) (list : List ℕ) (parent : Option ℕ) → parent_of nodes h ≡ parent → IsLegal nodes (Contains departure.active) → All (Contains departure.active) departure.exits → IsFitHistory nodes departure.recorded → record_of new h ≡ Some list → IsFitRecord nodes h list
  fit_by_parent h list None no-parent legal within fit is = kept_fit h list (λ (history, p, c, left). cc) fit is
  fit_by_parent h list (Some parent) c legal within fit is =
      elim (decide_history nodes h) [
        | inr plain ↦ kept_fit h list (λ now. plain now.0) fit is
        | inl history ↦ elim (decide_any (λ x. x ≡ parent) (λ x. cases_eq x parent) departure.exits) [
          | inr none ↦ kept_fit h list (λ (history', p, d, left). none p left (let same : p ≡ parent = cc in same)) fit is
          | inl found ↦
              (let (x, left, same) = found in
              let P : ℕ → Type 0 = λ y. Contains departure.exits y in
              let left-parent = subst P same left in
              record {
                history = history;
                parent = parent;
                child = c;
                active = departure.active;
                legal = legal;
                has_parent = All-contains (Contains departure.active) departure.exits parent within left-parent;
                remembered = recorded_set h list (history, parent, c, left-parent) is;
              })
        ]
      ]

  pub stays_fit : IsLegal nodes (Contains departure.active) → All (Contains departure.active) departure.exits → IsFitHistory nodes departure.recorded → IsFitHistory nodes new
  stays_fit legal within fit = λ h list is. fit_by_parent h list (parent_of nodes h) refl legal within fit is
