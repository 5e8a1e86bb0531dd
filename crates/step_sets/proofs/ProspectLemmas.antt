-- How a walk over the prospects, each time at the first of them, finds the nodes that are entered.
use Rattle.std.proofs.Common.{cond, false, ◌≡◌, ◌≢◌, ◌↔◌, ◌<◌, ◌≤◌, ◌+◌, ◌-◌, ◌⊎◌, ℕ, suc, Bool, List, [], ◌∷◌, ◌++◌, length, get_or, Some, arith, inl, inr, sym, refl, subst, IsTrue}
use Rattle.std.proofs.lemmas.Bool.{cases_eq, cases_lt}
use Rattle.std.proofs.lemmas.List.Elements.{All-contains}
use Rattle.std.specs.BTreeMap.{is_at}
use Rattle.std.specs.List.{list_any}
use Rattle.std.specs.Ordering.{is_gt, nat_cmp}
use Rattle.node_tree.specs.declared.node.Kind.TheVariants.{Compound, Parallel}
use Rattle.node_tree.specs.declared.node.Node.{Node as NodeRow}
use Rattle.node_tree.specs.Kinds.{kind_of}
use Rattle.node_tree.specs.Nodes.{AreNodes, IsBelow, IsChild, IsTree, child}
use Rattle.step_sets.specs.Prospects.{CanBeEnteredOrWhole, EntersFrom, HasBelow, top_of}
use Rattle.step_sets.specs.Domains.{IsDomainOf, IsUnder}
use Rattle.step_sets.specs.Entries.{HasGoalBelow, IsEntered, LeadsToGoal, Opens, towards_goal, region, initial, root, as_domain, as_entered}
use Rattle.step_sets.specs.Sets.{IsSetOf}
use Rattle.step_sets.specs.declared.types.Domain.{Domain}
use Rattle.step_sets.specs.declared.types.Domain.TheVariants.{Node, Whole}
use Rattle.step_sets.proofs.PathLemmas.{not_greater}
use Rattle.step_sets.proofs.PreemptionLemmas.{is_at_other, is_at_same}
use Rattle.step_sets.proofs.SetLemmas.{IsSetOf-push, IsSetOf-same}
use Rattle.step_sets.proofs.TreeLemmas.{above_parent, below_inside, below_itself, below_less, child_inside, child_towards, parent_less, root_not_below, within_below}

-- a set of numbers after its first is taken out
pub taken_out : (old new : Bool) (x n : ℕ) → new ≡ cond (is_at (nat_cmp x) n) false old → IsTrue new ↔ (IsTrue old × (n ≢ x))
taken_out old new x n e =
    elim (cases_eq x n) [
      | inl same ↦ (let at = is_at_same x n same in let no : new ≡ false = grind arith in ((λ h. absurd cc), (λ (o, apart). absurd (apart (sym same)))))
      | inr apart ↦ (let at = is_at_other x n apart in let is : new ≡ old = grind arith in ((λ h. (cc, λ s. apart (sym s))), (λ (o, off). cc)))
    ]

-- the first member of a set, and the set without it
pub record IsFirst (has : ℕ → Bool) (k : ℕ) (rest : ℕ → Bool) : Type 0 where
  pub here : IsTrue (has k)
  pub least : (n : ℕ) → IsTrue (has n) → k ≤ n
  pub popped : (n : ℕ) → IsTrue (rest n) ↔ (IsTrue (has n) × (n ≢ k))

pub first_of : (has : ℕ → Bool) (k : ℕ) (rest : ℕ → Bool) → IsTrue (has k) → ((n : ℕ) → IsTrue (has n) → is_gt (nat_cmp k n) ≡ false) → ((n : ℕ) → rest n ≡ cond (is_at (nat_cmp k) n) false (has n)) → IsFirst has k rest
first_of has k rest here least updates = record {
  here = here;
  least = λ n h. not_greater k n (least n h);
  popped = λ n. taken_out (has n) (rest n) k n (updates n);
}

-- where each key stands after a number, the first one does, or there is none
first_after : (keys : List ℕ) (k size : ℕ) → k < size → ((n : ℕ) → IsTrue (list_any (is_at (nat_cmp n)) keys) → k < n) → k < get_or keys 0 size
first_after [] k size inside after = inside
first_after (x ∷ keys) k size inside after = after x (let at = is_at_same x x refl in grind arith)

-- the first key rises where it is taken out, and each new one stands after it
pub first_rises : (old rest new : List ℕ) (k size : ℕ) → k < size → old ≡ k ∷ rest → ((n : ℕ) → IsTrue (list_any (is_at (nat_cmp n)) new) → k < n) → size - get_or new 0 size < size - get_or old 0 size
first_rises old rest new k size inside taken after =
    let next = first_after new k size inside after in
    rw taken (omega arith)

-- a set without keys has no member
pub no_keys : (keys : List ℕ) → (0 < length keys → ⊥) → (n : ℕ) → IsTrue (list_any (is_at (nat_cmp n)) keys) → ⊥
no_keys [] none n h = absurd cc
no_keys (x ∷ keys) none n h = none (omega arith)

-- what is below the domain is a node of the tree
pub under_inside : (nodes : List NodeRow) (domain : Domain) (n : ℕ) → IsUnder nodes domain n → n < length nodes
under_inside nodes (Node d) n below = below_inside nodes n d below
under_inside nodes Whole n inside = inside

module _ (nodes : List NodeRow) (goals : List ℕ) (domain : Domain) where
  -- an open node enters the child by default
  abbrev pub EntersChild : ℕ → ℕ → Type 0
  EntersChild p n =
      IsChild nodes n p
      × ((kind_of nodes p ≡ Some Parallel)
      ⊎ ((kind_of nodes p ≡ Some (Compound n)) × ¬ HasGoalBelow nodes goals p))

  -- an open parent before the bound enters the node by default
  abbrev pub IsEnteredByParent : ℕ → ℕ → Type 0
  IsEnteredByParent bound n = (p : ℕ) × (p < bound) × Opens nodes goals domain p × EntersChild p n

  -- the node leads to a goal, or is where the walk begins, or is entered by an open parent
  abbrev pub IsProspect : ℕ → ℕ → Type 0
  IsProspect bound n = LeadsToGoal nodes goals n ⊎ ((n ≡ top_of domain) ⊎ IsEnteredByParent bound n)

  -- the nodes before the bound are done: those of them that are entered are listed, and the prospects from
  -- there on are pending
  pub record IsDone (bound : ℕ) (has : ℕ → Bool) (entries : List ℕ) : Type 0 where
    pub entered : IsSetOf (λ n. (n < bound) × IsEntered nodes goals domain n) entries
    pub pending : (n : ℕ) → IsTrue (has n) ↔ ((bound ≤ n) × IsProspect bound n)

module _ (nodes : List NodeRow) (tree : IsTree nodes) (goals : List ℕ) (domain : Domain) where
  -- each entered node is one of the tree
  pub entered_inside : (n : ℕ) → IsEntered nodes goals domain n → n < length nodes
  entered_inside n (root whole) = tree.outline.some
  entered_inside n (towards_goal can leads) = under_inside nodes domain n can.0
  entered_inside n (region can c parallel opens) = under_inside nodes domain n can.0
  entered_inside n (initial can c compound off opens) = under_inside nodes domain n can.0

  pub nothing_done : (has : ℕ → Bool) → ((n : ℕ) → IsTrue (has n) ↔ (LeadsToGoal nodes goals n ⊎ (n ≡ top_of domain))) → IsDone nodes goals domain 0 has []
  nothing_done has first = record {
    entered = record {
      in_order = λ k h. absurd (omega arith);
      exact = λ n. ((λ (k, h, e). absurd (omega arith)), (λ (before, e). absurd (omega arith)));
    };
    pending = λ n. (
      (λ h. (omega arith, elim ((first n).0 h) [ inl leads ↦ inl leads | inr start ↦ inr (inl start) ])),
      (λ (from, prospect). (first n).1 (elim prospect [
        | inl leads ↦ inl leads
        | inr e ↦ elim e [ inl start ↦ inr start | inr (p, before, opens, enters) ↦ absurd (omega arith) ]
      ])),
    );
  }

  start_inside : (d : Domain) → IsDomainOf nodes d → top_of d < length nodes
  start_inside (Node d) inside = inside
  start_inside Whole unit = tree.outline.some

  goal_inside : AreNodes nodes goals → (n : ℕ) → LeadsToGoal nodes goals n → n < length nodes
  goal_inside are n (g, has, inl same) = let P : ℕ → Type 0 = λ x. x < length nodes in subst P same (All-contains (λ x. x < length nodes) goals g are has)
  goal_inside are n (g, has, inr below) =
      let inside = All-contains (λ x. x < length nodes) goals g are has in
      let less = below_less nodes tree g n below in
      omega arith

  -- a prospect stands in the tree
  pub pending_inside : AreNodes nodes goals → IsDomainOf nodes domain → (bound n : ℕ) → IsProspect nodes goals domain bound n → n < length nodes
  pending_inside are is bound n (inl leads) = goal_inside are n leads
  pending_inside are is bound n (inr (inl start)) = rw start (start_inside domain is)
  pending_inside are is bound n (inr (inr (p, before, opens, enters))) = child_inside nodes n p enters.0

  module _ (bound : ℕ) (has : ℕ → Bool) (entries : List ℕ) (done : IsDone nodes goals domain bound has entries) (first : ℕ) (least : (n : ℕ) → IsTrue (has n) → first ≤ n) where
    from_prospect : (n : ℕ) → bound ≤ n → IsProspect nodes goals domain bound n → first ≤ n
    from_prospect n from prospect = least n ((done.pending n).1 (from, prospect))

    -- no node before the first prospect is entered or opens, but for those that are done
    mutual
      gap_entered : (n : ℕ) → IsEntered nodes goals domain n → bound ≤ n → first ≤ n
      gap_entered n (root whole) from = from_prospect 0 from (inr (inl (rw whole refl)))
      gap_entered n (towards_goal can leads) from = from_prospect n from (inl leads)
      gap_entered n (region {p = p} can c parallel opens) from =
          elim (cases_lt p bound) [
            | inl before ↦ from_prospect n from (inr (inr (p, before, opens, (c, inl parallel))))
            | inr past ↦ (let less = parent_less nodes tree n p c in let upto = gap_opens p opens past in omega arith)
          ]
      gap_entered n (initial {p = p} can c compound off opens) from =
          elim (cases_lt p bound) [
            | inl before ↦ from_prospect n from (inr (inr (p, before, opens, (c, inr (compound, off)))))
            | inr past ↦ (let less = parent_less nodes tree n p c in let upto = gap_opens p opens past in omega arith)
          ]

      gap_opens : (n : ℕ) → Opens nodes goals domain n → bound ≤ n → first ≤ n
      gap_opens n (as_domain is) from = from_prospect n from (inr (inl (rw is refl)))
      gap_opens n (as_entered e) from = gap_entered n e from

  -- where there is no prospect all is done
  pub all_done : (bound : ℕ) (has : ℕ → Bool) (entries : List ℕ) → IsDone nodes goals domain bound has entries → ((n : ℕ) → IsTrue (has n) → ⊥) → IsSetOf (IsEntered nodes goals domain) entries
  all_done bound has entries done none =
      IsSetOf-same entries done.entered (λ n. (
        (λ e. e.1),
        (λ e. (
          (elim (cases_lt n bound) [
            | inl before ↦ before
            | inr from ↦ absurd (let past = gap_entered bound has entries done (suc n) (λ q h. absurd (none q h)) n e from in omega arith)
          ]),
          e,
        )),
      ))

  start_under : (d : Domain) (n : ℕ) → n ≡ top_of d → IsUnder nodes d n → (d ≡ Whole) × (n ≡ 0)
  start_under (Node d) n start under = absurd (below_itself nodes tree n (let P : ℕ → Type 0 = λ x. IsBelow nodes n x in subst P (sym start) under))
  start_under Whole n start under = (refl, start)

  opens_after_start : (d : Domain) (k x : ℕ) → (domain ≡ d) → Opens nodes goals domain k → x ≡ top_of d → IsBelow nodes x k → ⊥
  opens_after_start Whole k x is opens start below = root_not_below nodes tree k (let P : ℕ → Type 0 = λ y. IsBelow nodes y k in subst P start below)
  opens_after_start (Node d) k x is (as_domain at) start below =
      let same : d ≡ k = cc in
      let less = below_less nodes tree x k below in
      omega arith
  opens_after_start (Node d) k x is (as_entered e) start below =
      let less = below_less nodes tree x k below in
      let more = entered_after d k is e in
      omega arith
    where
      entered_after : (d k : ℕ) → domain ≡ Node d → IsEntered nodes goals domain k → d < k
      entered_after d k is (root whole) = absurd (let no : Node d ≡ Whole = cc in cc)
      entered_after d k is (towards_goal can leads) = below_less nodes tree k d (rw is at can.0)
      entered_after d k is (region can c parallel opens) = below_less nodes tree k d (rw is at can.0)
      entered_after d k is (initial can c compound off opens) = below_less nodes tree k d (rw is at can.0)

  -- what is entered can be
  pub can_be_entered : (n : ℕ) → IsEntered nodes goals domain n → CanBeEnteredOrWhole nodes domain n
  can_be_entered n (root whole) = inl (refl, whole)
  can_be_entered n (towards_goal can leads) = inr can
  can_be_entered n (region can c parallel opens) = inr can
  can_be_entered n (initial can c compound off opens) = inr can

  module _ (bound : ℕ) (has : ℕ → Bool) (entries : List ℕ) (done : IsDone nodes goals domain bound has entries) (k : ℕ) (rest : ℕ → Bool) (first : IsFirst has k rest) where
    bound_upto : bound ≤ k
    bound_upto = ((done.pending k).0 first.here).0

    -- the first prospect is entered if it can be
    pub is_entered_now : CanBeEnteredOrWhole nodes domain k → IsEntered nodes goals domain k
    is_entered_now (inl (e, whole)) = rw e (root whole)
    is_entered_now (inr can) =
        elim ((done.pending k).0 first.here).1 [
          | inl leads ↦ towards_goal can leads
          | inr other ↦ elim other [
            | inl start ↦ (let (whole, zero-th) = start_under domain k start can.0 in rw zero-th (root whole))
            | inr (p, before, opens, (c, how)) ↦ elim how [
              | inl parallel ↦ region can c parallel opens
              | inr (compound, off) ↦ initial can c compound off opens
            ]
          ]
        ]

    -- it is listed if it is entered
    pub entries_more : IsEntered nodes goals domain k → IsSetOf (λ n. (n < k + 1) × IsEntered nodes goals domain n) (entries ++ k ∷ [])
    entries_more e =
        IsSetOf-push entries k done.entered (λ n f. let before = f.0 in let upto = bound_upto in omega arith)
        (λ n. (
          (λ (before, now). elim (cases_lt n bound) [
            | inl less ↦ inl (less, now)
            | inr from ↦ inr (let past = gap_entered bound has entries done k first.least n now from in omega arith)
          ]),
          (λ h. elim h [
            | inl (less, now) ↦ (let upto = bound_upto in omega arith, now)
            | inr same ↦ (omega arith, rw same e)
          ]),
        ))

    pub entries_same : ¬ IsEntered nodes goals domain k → IsSetOf (λ n. (n < k + 1) × IsEntered nodes goals domain n) entries
    entries_same out =
        IsSetOf-same entries done.entered
        (λ n. (
          (λ (less, now). (let upto = bound_upto in omega arith, now)),
          (λ (before, now). elim (cases_lt n bound) [
            | inl less ↦ (less, now)
            | inr from ↦ absurd (let past = gap_entered bound has entries done k first.least n now from in
                let same : n ≡ k = omega arith in
                let P : ℕ → Type 0 = λ x. IsEntered nodes goals domain x in
                out (subst P same now))
          ]),
        ))

    pub rest_after : (n : ℕ) → IsTrue (rest n) → k < n
    rest_after n h = let (was, apart) = (first.popped n).0 h in let upto = first.least n was in omega arith

    -- what stands after it and is a prospect is left
    left : (n : ℕ) → k < n → IsProspect nodes goals domain bound n → IsTrue (rest n)
    left n after prospect = (first.popped n).1 ((done.pending n).1 (let upto = bound_upto in omega arith, prospect), (omega arith))

    -- of an open node what is pending below it tells whether a goal is below it
    below_tells : Opens nodes goals domain k → HasBelow nodes rest k ↔ HasGoalBelow nodes goals k
    below_tells opens = (
      (λ (x, h, below). elim ((done.pending x).0 ((first.popped x).0 h).0).1 [
        | inl (g, has-g, w) ↦ (let (m, c, v) = child_towards nodes g k (within_below nodes g x k w below) in (m, c, (g, has-g, v)))
        | inr other ↦ elim other [
          | inl start ↦ absurd (opens_after_start domain k x refl opens start below)
          | inr (p, before, opens', (c, how)) ↦ absurd (
              let upto = bound_upto in
              elim (above_parent nodes x p k c below) [
                | inl same ↦ omega arith
                | inr under ↦ (let less = below_less nodes tree p k under in omega arith)
              ])
        ]
      ]),
      (λ (m, c, leads). (m, left m (parent_less nodes tree m k c) (inl leads), child m k c)),
    )

    enters_tells : Opens nodes goals domain k → (n : ℕ) → EntersFrom nodes rest k n ↔ EntersChild nodes goals domain k n
    enters_tells opens n = (
      (λ (c, how). (c, elim how [ inl parallel ↦ inl parallel | inr (compound, off) ↦ inr (compound, (λ on. off ((below_tells opens).1 on))) ])),
      (λ (c, how). (c, elim how [ inl parallel ↦ inl parallel | inr (compound, off) ↦ inr (compound, (λ on. off ((below_tells opens).0 on))) ])),
    )

    -- the prospects after it
    further : (n : ℕ) → IsTrue (rest n) → (k + 1 ≤ n) × IsProspect nodes goals domain (k + 1) n
    further n h =
        let after = rest_after n h in
        let upto = bound_upto in (
          omega arith,
          elim ((done.pending n).0 ((first.popped n).0 h).0).1 [
            | inl leads ↦ inl leads
            | inr other ↦ elim other [
              | inl start ↦ inr (inl start)
              | inr (p, before, opens, enters) ↦ inr (inr (p, omega arith, opens, enters))
            ]
          ],
        )

    back : (n : ℕ) → k + 1 ≤ n → IsProspect nodes goals domain (k + 1) n → IsTrue (rest n) ⊎ (Opens nodes goals domain k × EntersChild nodes goals domain k n)
    back n after (inl leads) = inl (left n (omega arith) (inl leads))
    back n after (inr (inl start)) = inl (left n (omega arith) (inr (inl start)))
    back n after (inr (inr (p, before, opens, enters))) =
        elim (cases_lt p bound) [
          | inl less ↦ inl (left n (omega arith) (inr (inr (p, less, opens, enters))))
          | inr from ↦
              (let past = gap_opens bound has entries done k first.least p opens from in
              let same : p ≡ k = omega arith in
              let P : ℕ → Type 0 = λ x. Opens nodes goals domain x × EntersChild nodes goals domain x n in
              inr (subst P same (opens, enters)))
        ]

    -- where it opens, the children that it enters by default are prospects too
    pub pending_open : (new : ℕ → Bool) → Opens nodes goals domain k → ((n : ℕ) → IsTrue (new n) ↔ (IsTrue (rest n) ⊎ EntersFrom nodes rest k n)) → (n : ℕ) → IsTrue (new n) ↔ ((k + 1 ≤ n) × IsProspect nodes goals domain (k + 1) n)
    pending_open new opens more n = (
      (λ h. elim ((more n).0 h) [
        | inl r ↦ further n r
        | inr e ↦ (let enters = (enters_tells opens n).0 e in
            let less = parent_less nodes tree n k enters.0 in
            (omega arith, inr (inr (k, omega arith, opens, enters))))
      ]),
      (λ (after, prospect). (more n).1 (elim (back n after prospect) [
        | inl r ↦ inl r
        | inr (opens', enters) ↦ inr ((enters_tells opens n).1 enters)
      ])),
    )

    -- where it does not, no further ones are
    pub pending_shut : ¬ Opens nodes goals domain k → (n : ℕ) → IsTrue (rest n) ↔ ((k + 1 ≤ n) × IsProspect nodes goals domain (k + 1) n)
    pending_shut shut n = (
      (λ h. further n h),
      (λ (after, prospect). elim (back n after prospect) [ inl r ↦ r | inr (opens, enters) ↦ absurd (shut opens) ]),
    )

    pub first_inside : AreNodes nodes goals → IsDomainOf nodes domain → k < length nodes
    first_inside are is = pending_inside are is bound k ((done.pending k).0 first.here).1

    pub rest_inside : AreNodes nodes goals → IsDomainOf nodes domain → (n : ℕ) → IsTrue (rest n) → n < length nodes
    rest_inside are is n h = pending_inside are is bound n ((done.pending n).0 ((first.popped n).0 h).0).1

    -- it is entered, and opens
    pub done_entered : (new : ℕ → Bool) → CanBeEnteredOrWhole nodes domain k → ((n : ℕ) → IsTrue (new n) ↔ (IsTrue (rest n) ⊎ EntersFrom nodes rest k n)) → IsDone nodes goals domain (k + 1) new (entries ++ k ∷ [])
    done_entered new can more =
        let e = is_entered_now can in
        record { entered = entries_more e; pending = pending_open new (as_entered e) more }

    -- it is the domain, which opens and is not entered
    pub done_domain : (new : ℕ → Bool) → ¬ IsEntered nodes goals domain k → domain ≡ Node k → ((n : ℕ) → IsTrue (new n) ↔ (IsTrue (rest n) ⊎ EntersFrom nodes rest k n)) → IsDone nodes goals domain (k + 1) new entries
    done_domain new out is more = record { entered = entries_same out; pending = pending_open new (as_domain is) more }

    -- it is neither
    pub done_shut : ¬ IsEntered nodes goals domain k → (domain ≡ Node k → ⊥) → IsDone nodes goals domain (k + 1) rest entries
    done_shut out apart = record { entered = entries_same out; pending = pending_shut (shut out apart) }
      where
        shut : ¬ IsEntered nodes goals domain k → (domain ≡ Node k → ⊥) → ¬ Opens nodes goals domain k
        shut out apart (as_domain is) = apart is
        shut out apart (as_entered e) = out e
