-- What two sets of nodes have together.
use Rattle.std.proofs.Common.{◌≡◌, ◌<◌, ◌≤◌, ◌+◌, ◌-◌, ◌⊎◌, ℕ, List, [], ◌∷◌, ◌++◌, length, get_or, take, true, nat_lt, arith, inl, inr, refl, sym, ◌∙◌}
use Rattle.std.specs.List.{Contains}
use Rattle.std.specs.List.Sorted.{IsStrictlyIncreasing}
use Rattle.std.proofs.lemmas.Bool.{cases_lt, ltb-true}
use Rattle.std.proofs.lemmas.List.{get_or_append_left, get_or-append_right, get_or_default, length-append, length-take, take_all}
use Rattle.std.proofs.lemmas.List.Elements.{Contains-append_cases, Contains-append_left, Contains-append_right, Contains-get_or, Contains-push_cases}
use Rattle.std.proofs.lemmas.List.Kept.{AllPairs-from_increasing}
use Rattle.node_tree.proofs.RisingLemmas.{rises}
use Rattle.step_sets.specs.Sets.{IsSetOf}
use Rattle.step_sets.proofs.SetLemmas.{IsSetOf-push, front_more}
use Rattle.microstep.specs.NodeSets.{IsLeast, IsPast}

-- what stands before the places, all of it before what stands there
pub record IsMerged (first : List ℕ) (i : ℕ) (second : List ℕ) (j : ℕ) (both : List ℕ) : Type 0 where
  pub first_inside : i ≤ length first
  pub second_inside : j ≤ length second
  pub set : IsSetOf (λ n. Contains (take i first) n ⊎ Contains (take j second) n) both
  pub before_first : (n : ℕ) → Contains both n → i < length first → n < get_or first i 0
  pub before_second : (n : ℕ) → Contains both n → j < length second → n < get_or second j 0

-- a place in one list after a node that stands before none of it
record IsOn (nodes : List ℕ) (place node next : ℕ) : Type 0 where
  pub inside : next ≤ length nodes
  pub front : (n : ℕ) → Contains (take next nodes) n → Contains (take place nodes) n ⊎ (n ≡ node)
  pub back : (n : ℕ) → Contains (take place nodes) n → Contains (take next nodes) n
  pub here : place < length nodes → get_or nodes place 0 ≡ node → Contains (take next nodes) node
  pub after : next < length nodes → node < get_or nodes next 0

goes-on : (nodes : List ℕ) → IsStrictlyIncreasing nodes → (place node next : ℕ) → place ≤ length nodes → (place < length nodes → node ≤ get_or nodes place 0) → IsPast nodes place node next → IsOn nodes place node next
goes-on nodes rising place node next was upto (inl (inside, is, to)) = record {
  inside = omega (arith, inside, to);
  front = λ n has. elim ((front_more nodes place n inside).0 (rw to at has)) [ inl k ↦ inl k | inr e ↦ inr cc ];
  back = λ n has. rw to ((front_more nodes place n inside).1 (inl has));
  here = λ _ _. rw to ((front_more nodes place node inside).1 (inr (sym is)));
  after = λ more. let step = rising place (omega (arith, more, to)) in rw (to, ← is) step;
}
goes-on nodes rising place node next was upto (inr (to, other)) = record {
  inside = rw to was;
  front = λ n has. inl (rw to at has);
  back = λ n has. rw to has;
  here = λ inside is. absurd (other inside is);
  after = λ more. let at = rw to at more in let ne = other at in let le = upto at in rw to (omega (arith, ne, le));
}

-- the least node is added, and each place goes past it
pub merged-more : (first second : List ℕ) → IsStrictlyIncreasing first → IsStrictlyIncreasing second → (i j node next_i next_j : ℕ) (both : List ℕ)
    → IsMerged first i second j both → IsLeast first i second j node → IsPast first i node next_i → IsPast second j node next_j
    → IsMerged first next_i second next_j (both ++ node ∷ [])
merged-more first second up-first up-second i j node next_i next_j both was least past_i past_j = record {
  first_inside = on_first.inside;
  second_inside = on_second.inside;
  set = IsSetOf-push both node was.set
      (λ n f. below n ((was.set.exact n).1 f))
      (λ n. (
        (λ g. elim g [
          | inl has ↦ elim (on_first.front n has) [ inl k ↦ inl (inl k) | inr e ↦ inr e ]
          | inr has ↦ elim (on_second.front n has) [ inl k ↦ inl (inr k) | inr e ↦ inr e ]
        ]),
        (λ f. elim f [
          | inl old ↦ elim old [ inl has ↦ inl (on_first.back n has) | inr has ↦ inr (on_second.back n has) ]
          | inr e ↦ rw e (elim least.there [
            | inl (inside, is) ↦ inl (on_first.here inside is)
            | inr (inside, is) ↦ inr (on_second.here inside is)
          ])
        ]),
      ));
  before_first = λ n has more. elim (Contains-push_cases both node n has) [
    | inl old ↦ let lt = below n old in let up = on_first.after more in omega (arith, lt, up)
    | inr same ↦ rw (← same) (on_first.after more)
  ];
  before_second = λ n has more. elim (Contains-push_cases both node n has) [
    | inl old ↦ let lt = below n old in let up = on_second.after more in omega (arith, lt, up)
    | inr same ↦ rw (← same) (on_second.after more)
  ];
}
  where
    on_first : IsOn first i node next_i
    on_first = goes-on first up-first i node next_i was.first_inside least.first_upto past_i

    on_second : IsOn second j node next_j
    on_second = goes-on second up-second j node next_j was.second_inside least.second_upto past_j

    below : (n : ℕ) → Contains both n → n < node
    below n has = elim least.there [
      | inl (inside, is) ↦ rw (← is) (was.before_first n has inside)
      | inr (inside, is) ↦ rw (← is) (was.before_second n has inside)
    ]

-- at the end both lists are through
pub merged-all : (first second : List ℕ) (i j : ℕ) (both : List ℕ) → IsMerged first i second j both → length first ≤ i → length second ≤ j
    → IsSetOf (λ n. Contains first n ⊎ Contains second n) both
merged-all first second i j both was all-first all-second = rw (take_all i first all-first, take_all j second all-second) at was.set

pub merged-start : (first second : List ℕ) → IsMerged first 0 second 0 []
merged-start first second = record {
  first_inside = omega arith;
  second_inside = omega arith;
  set = record {
    in_order = λ k inside. absurd (omega (arith, inside));
    exact = λ n. ((λ (k, inside, is). absurd (omega (arith, inside))), (λ has. elim has [ inl (k, inside, is) ↦ absurd (omega (arith, length-take 0 first, inside)) | inr (k, inside, is) ↦ absurd (omega (arith, length-take 0 second, inside)) ]));
  };
  before_first = λ n (k, inside, is). absurd (omega (arith, inside));
  before_second = λ n (k, inside, is). absurd (omega (arith, inside));
}

-- the last of the one list before the first of the other
pub all-before : (first second : List ℕ) → IsStrictlyIncreasing first → IsStrictlyIncreasing second → nat_lt (get_or first (length first - 1) 0) (get_or second 0 0) ≡ true
    → (m n : ℕ) → Contains first m → Contains second n → m < n
all-before first second up-first up-second test m n (k, in-first, is-m) (l, in-second, is-n) =
    let ends = ltb-true (get_or first (length first - 1) 0) (get_or second 0 0) test in
    let last = rises first up-first k (length first - 1) (omega (arith, in-first)) (omega (arith, in-first)) in
    let next = rises second up-second 0 l (omega arith) in-second in
    let at-m : get_or first k 0 ≡ m = get_or_default first k 0 m in-first ∙ is-m in
    let at-n : get_or second l 0 ≡ n = get_or_default second l 0 n in-second ∙ is-n in
    omega (arith, last, next, at-m, at-n, ends)

-- a list behind another is added to it
pub behind : (first second : List ℕ) → IsStrictlyIncreasing first → IsStrictlyIncreasing second → ((m n : ℕ) → Contains first m → Contains second n → m < n)
    → IsSetOf (λ n. Contains first n ⊎ Contains second n) (first ++ second)
behind first second up-first up-second before = record {
  in_order = rising;
  exact = λ n. (Contains-append_cases first second n, (λ has. elim has [ inl k ↦ Contains-append_left first second n k | inr k ↦ Contains-append_right first second n k ]));
}
  where
    later : (k : ℕ) → k + 1 < length (first ++ second) → length first ≤ k + 1 → get_or (first ++ second) k 0 < get_or (first ++ second) (k + 1) 0
    later k inside le =
        let all = length-append first second in
        let next = get_or-append_right first second _ (k + 1) 0 refl le in
        elim (cases_lt k (length first)) [
          | inl lt ↦ rw (get_or_append_left first second 0 k lt, next)
              (before _ _ (Contains-get_or first k 0 lt) (Contains-get_or second (k + 1 - length first) 0 (omega (arith, all, inside, le))))
          | inr past ↦ rw (get_or-append_right first second _ k 0 refl past, next)
              (AllPairs-from_increasing second up-second (k - length first) (k + 1 - length first) 0 (omega (arith, past)) (omega (arith, all, inside, le)))
        ]

    rising : IsStrictlyIncreasing (first ++ second)
    rising k inside = elim (cases_lt (k + 1) (length first)) [
      | inl lt ↦ rw (get_or_append_left first second 0 k (omega (arith, lt)), get_or_append_left first second 0 (k + 1) lt) (up-first k lt)
      | inr le ↦ later k inside le
    ]
