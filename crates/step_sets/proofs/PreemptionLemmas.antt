-- What is taken by the exit sets that stay.
use Rattle.std.proofs.Common.{◌≡◌, ◌∙◌, ap, MatchBool, ◌≤◌, ◌↔◌, ◌<◌, ◌+◌, ◌⊎◌, ℕ, Bool, true, false, cond, List, [], ◌∷◌, ◌++◌, length, get_or, take, arith, inl, inr, sym, IsTrue}
use Rattle.std.specs.BTreeMap.{is_at}
use Rattle.std.specs.List.{Contains}
use Rattle.std.specs.Ordering.{nat_cmp}
use Rattle.std.proofs.lemmas.Bool.{cases_eq, cases_lt}
use Rattle.std.proofs.lemmas.List.{get_or_append_left, get_or_push, length_push}
use Rattle.std.proofs.lemmas.Bool.Decides.{nat_tests}
use Rattle.step_sets.specs.Preemption.{IsPreempted, HasTaken, IsApart, TakesAll}
use Rattle.step_sets.proofs.SetLemmas.{front_more}

-- a number compares `Equal` to itself alone
pub is_at_same : (x n : ℕ) → x ≡ n → is_at (nat_cmp x) n ≡ true
is_at_same x n e = grind (arith, nat_tests)

pub is_at_other : (x n : ℕ) → (x ≡ n → ⊥) → is_at (nat_cmp x) n ≡ false
is_at_other x n e = grind (arith, nat_tests)

-- a set after an insert
pub taken_one : (old new : Bool) (x n : ℕ) → new ≡ cond (is_at (nat_cmp x) n) true old → IsTrue new ↔ (IsTrue old ⊎ (n ≡ x))
taken_one old new x n e =
    elim (cases_eq x n) [
      | inl same ↦ (let at = is_at_same x n same in let yes : new ≡ true = grind arith in ((λ h. inr (sym same)), (λ h. yes)))
      | inr apart ↦ (let at = is_at_other x n apart in let is : new ≡ old = grind arith in
          ((λ h. inl (cc)), (λ h. elim h [ inl o ↦ cc | inr s ↦ absurd (apart (sym s)) ])))
    ]

-- what was taken before, and one more of the nodes
pub taken_more : (before old new : Bool) (xs : List ℕ) (i n : ℕ) → i < length xs → new ≡ cond (is_at (nat_cmp (get_or xs i 0)) n) true old → IsTrue old ↔ (IsTrue before ⊎ Contains (take i xs) n) → IsTrue new ↔ (IsTrue before ⊎ Contains (take (i + 1) xs) n)
taken_more before old new xs i n inside e was =
    let one = taken_one old new (get_or xs i 0) n e in
    let more = front_more xs i n inside in (
      (λ h. elim (one.0 h) [
        | inl o ↦ elim (was.0 o) [ inl b ↦ inl b | inr k ↦ inr (more.1 (inl k)) ]
        | inr s ↦ inr (more.1 (inr s))
      ]),
      (λ h. elim h [
        | inl b ↦ one.1 (inl (was.1 (inl b)))
        | inr k ↦ elim (more.0 k) [ inl f ↦ one.1 (inl (was.1 (inr f))) | inr s ↦ one.1 (inr s) ]
      ]),
    )

-- the first i transitions are decided, and what is taken is what those of them that stay leave
pub record AreDecided (exits : List (List ℕ)) (flags : List Bool) (has : ℕ → Bool) (i : ℕ) : Type 0 where
  pub each : length flags ≡ i
  pub cases : (k : ℕ) → k < i → MatchBool (get_or flags k false) (¬ IsPreempted exits flags k) (IsPreempted exits flags k)
  pub taken : (n : ℕ) → IsTrue (has n) ↔ ((j : ℕ) × (j < i) × (get_or flags j false ≡ true) × Contains (get_or exits j []) n)

match_map : (b : Bool) {P Q R S : Type 0} → MatchBool b P Q → (P → R) → (Q → S) → MatchBool b R S
match_map true m f g = f m
match_map false m f g = g m

-- whether a transition is preempted depends on those before it
preempted_same : (exits : List (List ℕ)) (flags : List Bool) (b : Bool) (k : ℕ) → k ≤ length flags → IsPreempted exits flags k ↔ IsPreempted exits (flags ++ b ∷ []) k
preempted_same exits flags b k within = (
  (λ (j, before, on, meets). (j, before, (get_or_append_left flags (b ∷ []) false j (omega arith) ∙ on), meets)),
  (λ (j, before, on, meets). (j, before, (sym (get_or_append_left flags (b ∷ []) false j (omega arith)) ∙ on), meets)),
)

-- the decided ones stay decided when one more is
cases_more : (exits : List (List ℕ)) (flags : List Bool) (b : Bool) (has : ℕ → Bool) (i : ℕ) → AreDecided exits flags has i
    → MatchBool b (¬ IsPreempted exits flags i) (IsPreempted exits flags i)
    → (k : ℕ) → k < i + 1 → MatchBool (get_or (flags ++ b ∷ []) k false) (¬ IsPreempted exits (flags ++ b ∷ []) k) (IsPreempted exits (flags ++ b ∷ []) k)
cases_more exits flags b has i decided now k before =
    let each = decided.each in
    let same = preempted_same exits flags b k (omega arith) in
    elim (cases_lt k i) [
      | inl lt ↦
          rw (get_or_append_left flags (b ∷ []) false k (omega arith))
          (match_map (get_or flags k false) (decided.cases k lt) (λ out p. out (same.1 p)) same.0)
      | inr le ↦
          (let at : i ≡ k = omega arith in
          let here = rw at at now in
          rw (get_or_push flags b false k (omega arith))
          (match_map b here (λ out p. out (same.1 p)) same.0))
    ]

-- the next one stays, since nothing that it leaves is taken
pub AreDecided-stays : (exits : List (List ℕ)) (flags : List Bool) (has more : ℕ → Bool) (i : ℕ) → AreDecided exits flags has i
    → IsApart (get_or exits i []) has
    → TakesAll (get_or exits i []) has more
    → AreDecided exits (flags ++ true ∷ []) more (i + 1)
AreDecided-stays exits flags has more i decided apart grown =
    let each = decided.each in
    record {
      each = length_push flags true ∙ ap (λ n. n + 1) each;
      cases = cases_more exits flags true has i decided (λ (j, before, on, (n, a, b)). apart n b ((decided.taken n).1 (j, before, on, a)));
      taken = λ n. (
        (λ h. elim ((grown n).0 h) [
          | inl old ↦ (let (j, before, on, a) = (decided.taken n).0 old in (j, omega arith, (get_or_append_left flags (true ∷ []) false j (omega arith) ∙ on), a))
          | inr now ↦ (i, omega arith, get_or_push flags true false i each, now)
        ]),
        (λ (j, before, on, a). (grown n).1 (elim (cases_lt j i) [
          | inl lt ↦ inl ((decided.taken n).1 (j, lt, (sym (get_or_append_left flags (true ∷ []) false j (omega arith)) ∙ on), a))
          | inr le ↦ inr (let at : j ≡ i = omega arith in rw at at a)
        ])),
      );
    }

-- the next one is dropped, since something that it leaves is taken
pub AreDecided-drops : (exits : List (List ℕ)) (flags : List Bool) (has more : ℕ → Bool) (i : ℕ) → AreDecided exits flags has i
    → HasTaken (get_or exits i []) has
    → ((n : ℕ) → more n ≡ has n)
    → AreDecided exits (flags ++ false ∷ []) more (i + 1)
AreDecided-drops exits flags has more i decided (n, b, h) kept =
    let each = decided.each in
    let (j, before, on, a) = (decided.taken n).0 h in
    record {
      each = length_push flags false ∙ ap (λ n. n + 1) each;
      cases = cases_more exits flags false has i decided (j, before, on, (n, a, b));
      taken = λ n. (
        (λ h. let (j, before, on, a) = (decided.taken n).0 (rw kept at h) in (j, omega arith, (get_or_append_left flags (false ∷ []) false j (omega arith) ∙ on), a)),
        (λ (j, before, on, a). elim (cases_lt j i) [
          | inl lt ↦ rw (kept n) ((decided.taken n).1 (j, lt, (sym (get_or_append_left flags (false ∷ []) false j (omega arith)) ∙ on), a))
          | inr le ↦ absurd (let end = get_or_push flags false false j (omega arith) in cc)
        ]),
      );
    }

-- the next one is decided
pub AreDecided-more : (exits : List (List ℕ)) (flags : List Bool) (has more : ℕ → Bool) (i : ℕ) (stays : Bool) (nodes : List ℕ) → nodes ≡ get_or exits i [] → AreDecided exits flags has i
    → MatchBool stays (IsApart nodes has × TakesAll nodes has more) (HasTaken nodes has × ((n : ℕ) → more n ≡ has n))
    → AreDecided exits (flags ++ stays ∷ []) more (i + 1)
AreDecided-more exits flags has more i true nodes is decided (apart, grown) =
    AreDecided-stays exits flags has more i decided (rw is at apart) (rw is at grown)
AreDecided-more exits flags has more i false nodes is decided (met, same) =
    AreDecided-drops exits flags has more i decided (rw is at met) same
