-- Targets that clash with earlier ones.
use Rattle.std.proofs.Common.{◌≡◌, ◌⊎◌, ◌↔◌, ℕ, ◌<◌, ◌≤◌, ◌+◌, Bool, true, false, List, [], ◌∷◌, length, Some, None, Option, refl, ap, sym, ◌∙◌, arith, inl, inr, subst}
use Rattle.std.specs.Prelude.{Contains, MatchBool, slice_get}
use Rattle.std.specs.Bool.{then_some}
use Rattle.std.specs.Option.{IsSomeAnd}
use Rattle.std.proofs.lemmas.Bool.{cases_lt}
use Rattle.std.proofs.lemmas.Option.{slice_get_within}
use Rattle.ordered_json.specs.declared.json.OrderedJson.{OrderedJson}
use Rattle.ordered_json.specs.Words.{place_of}
use Rattle.node_tree.specs.declared.node.Kind.{Kind}
use Rattle.node_tree.specs.declared.node.Kind.TheVariants.{Atomic, Compound, Parallel, Final, Shallow, Deep}
use Rattle.node_tree.specs.declared.node.Node.{Node}
use Rattle.node_tree.specs.Kinds.{IsHistory, IsHistoryKind, kind_of}
use Rattle.node_tree.specs.Nodes.{parent_of}
use Rattle.step_sets.specs.Statechart.{AreOrthogonal, CountsFor}
use Rattle.step_sets.proofs.ListLemmas.{Contains-cons_cases, Contains-here, Contains-there}
use Rattle.step_sets.proofs.TreeLemmas.{one_parent}
use Rattle.machine_json.specs.declared.fault.MachineFault.{MachineFault}
use Rattle.machine_json.specs.declared.fault.MachineFault.TheVariants.{Clash}
use Rattle.machine_json.specs.FirstPass.{TellsFirst, earlier}
use Rattle.machine_json.specs.Reached.{ClashesWithReached, CountsForTarget, HasReached, IsFree, IsTaken, TellsReached}
use Rattle.machine_json.specs.SecondPass.{DoClash, IsClash, led_to}
use Rattle.machine_json.proofs.FirstLemmas.{as_set, single}
use Rattle.machine_json.proofs.NumberLemmas.{IsBelowNumber, below_next_number}

-- ---- the node that counts for a target

history_cases : (kind : Option Kind) → IsSomeAnd kind IsHistoryKind ⊎ (IsSomeAnd kind IsHistoryKind → ⊥)
history_cases None = inr (λ is. is)
history_cases (Some Atomic) = inr (λ is. is)
history_cases (Some (Compound initial)) = inr (λ is. is)
history_cases (Some Parallel) = inr (λ is. is)
history_cases (Some Final) = inr (λ is. is)
history_cases (Some (Shallow default)) = inl tt
history_cases (Some (Deep default)) = inl tt

one_counts : (rows : List Node) (s a b : ℕ) → CountsFor rows s a → CountsFor rows s b → a ≡ b
one_counts rows s a b (inl (is, plain)) (inl (is_too, plain_too)) = sym is ∙ is_too
one_counts rows s a b (inl (is, plain)) (inr (history, up)) = absurd (plain history)
one_counts rows s a b (inr (history, up)) (inl (is, plain)) = absurd (plain history)
one_counts rows s a b (inr (history, up)) (inr (history_too, up_too)) = one_parent rows s a b up up_too

counts_by_parent : (rows : List Node) (s : ℕ) (o : Option ℕ) → parent_of rows s ≡ o → IsHistory rows s → ((a : ℕ) × CountsFor rows s a) ⊎ ((a : ℕ) → CountsFor rows s a → ⊥)
counts_by_parent rows s None is history = inr (λ a counts. elim counts [ inl plain ↦ plain.1 history | inr up ↦ (let found : None ≡ Some a = sym is ∙ up.1 in absurd (cc)) ])
counts_by_parent rows s (Some p) is history = inl (p, inr (history, is))

counts_cases : (rows : List Node) (s : ℕ) → ((a : ℕ) × CountsFor rows s a) ⊎ ((a : ℕ) → CountsFor rows s a → ⊥)
counts_cases rows s =
    elim (history_cases (kind_of rows s)) [
      | inl history ↦ counts_by_parent rows s (parent_of rows s) refl history
      | inr plain ↦ inl (s, inl (refl, plain))
    ]

-- two that clash have nodes that count for them, which aren't in different regions
clashing_pair : (rows : List Node) (s t : ℕ) → DoClash rows s t → (a b : ℕ) × CountsFor rows s a × CountsFor rows t b × (AreOrthogonal rows a b → ⊥)
clashing_pair rows s t clash =
    elim (counts_cases rows s) [
      | inr none ↦ absurd (clash (λ a b at_a at_b. absurd (none a at_a)))
      | inl first ↦ elim (counts_cases rows t) [
        | inr none ↦ absurd (clash (λ a b at_a at_b. absurd (none b at_b)))
        | inl second ↦ (
          first.0,
          second.0,
          first.1,
          second.1,
          λ orthogonal. clash (λ a b at_a at_b.
              let P : ℕ → Type 0 = λ n. AreOrthogonal rows n b in
              let Q : ℕ → Type 0 = λ n. AreOrthogonal rows first.0 n in
              subst P (one_counts rows s first.0 a first.1 at_a) (subst Q (one_counts rows t second.0 b second.1 at_b) orthogonal)),
        )
      ]
    ]

-- ---- one more target

module _ (rows : List Node) (source : ℕ) (target : OrderedJson) (reached : List ℕ) where
  pub reaches_none : (around closed : ℕ → Bool) → ((s a : ℕ) → led_to rows source target ≡ Some s → CountsFor rows s a → ⊥)
      → TellsReached rows reached around closed → HasReached rows source target reached around closed None
  reaches_none around closed none tells = record {
    now_reached = reached;
    told = tells;
    added = λ n. ((λ has. inl has), (λ either. elim either [ inl has ↦ has | inr counts ↦ absurd (none counts.0 n counts.1 counts.2) ]));
    first = λ fault is. none is.1.0 is.0 is.1.1 is.1.2;
  }

  -- what counts for a target is one node
  abbrev pub IsCounted : ℕ → Type 0
  IsCounted n = (s : ℕ) × (led_to rows source target ≡ Some s) × ((a : ℕ) → CountsFor rows s a ↔ (n ≡ a))

  counted_is : (n a : ℕ) → IsCounted n → CountsForTarget rows source target a → n ≡ a
  counted_is n a counted counts =
      let found : Some counted.0 ≡ Some counts.0 = sym counted.1 ∙ counts.1 in
      let same : counts.0 ≡ counted.0 = cc in
      let P : ℕ → Type 0 = λ s. CountsFor rows s a in (counted.2 a).0 (subst P same counts.2)

  fault_of : (taken : Bool) (n : ℕ) → IsCounted n → MatchBool taken (IsTaken rows reached n) (IsFree rows reached n)
      → TellsFirst (then_some taken (Clash (place_of target))) (ClashesWithReached rows source reached target)
  fault_of true n counted taken =
      as_set (Some (Clash (place_of target))) (λ f. Clash (place_of target) ≡ f) (ClashesWithReached rows source reached target)
      (λ f same. (n, (counted.0, counted.1, (counted.2 n).1 refl), taken, sym same))
      (λ f is. sym is.3)
      (single (Clash (place_of target)))
  fault_of false n counted free = λ fault is.
      let same : n ≡ is.0 = counted_is n is.0 counted is.1 in
      let P : ℕ → Type 0 = λ m. AreOrthogonal rows is.2.0 m in
      is.2.2 (subst P same (free is.2.0 is.2.1))

  pub reaches_one : (around closed : ℕ → Bool) (taken : Bool) (n : ℕ) (found : Option MachineFault) → IsCounted n
      → MatchBool taken (IsTaken rows reached n) (IsFree rows reached n) → found ≡ then_some taken (Clash (place_of target))
      → TellsReached rows (n ∷ reached) around closed → HasReached rows source target reached around closed found
  reaches_one around closed taken n found counted is_taken is tells = record {
    now_reached = n ∷ reached;
    told = tells;
    added = λ m. (
      (λ has. elim (Contains-cons_cases m n reached has) [ inl same ↦ inr (counted.0, counted.1, (counted.2 m).1 same) | inr old ↦ inl old ]),
      (λ either. elim either [
        | inl old ↦ Contains-there m n reached old
        | inr counts ↦ (let P : ℕ → Type 0 = λ x. Contains (n ∷ reached) x in subst P (counted_is n m counted counts) (Contains-here n reached))
      ]),
    );
    first = (let P : Option MachineFault → Type 0 = λ o. TellsFirst o (ClashesWithReached rows source reached target) in subst P (sym is) (fault_of taken n counted is_taken));
  }

-- ---- all targets

-- a node counts for one of the first so many targets
abbrev pub WasReached : List Node → ℕ → List OrderedJson → ℕ → ℕ → Type 0
WasReached rows source targets i n =
    (k : ℕ) × (target : OrderedJson) × (k < i) × (slice_get targets k ≡ Some target) × CountsForTarget rows source target n

-- the target of a number clashes with an earlier one
abbrev pub IsClashAt : List Node → ℕ → List OrderedJson → ℕ → MachineFault → Type 0
IsClashAt rows source targets j fault =
    (i : ℕ) × (before later : OrderedJson) × (s t : ℕ) × (i < j) × (slice_get targets i ≡ Some before) × (slice_get targets j ≡ Some later)
    × (led_to rows source before ≡ Some s) × (led_to rows source later ≡ Some t) × DoClash rows s t × (fault ≡ Clash (place_of later))

-- the first so many targets were looked at
pub record HasLooked (rows : List Node) (source : ℕ) (targets : List OrderedJson) (around closed : ℕ → Bool) (found : Option MachineFault) (i : ℕ) : Type 0 where
  pub reached : List ℕ
  pub told : TellsReached rows reached around closed
  pub are : (n : ℕ) → Contains reached n ↔ WasReached rows source targets i n
  pub first : TellsFirst found (IsBelowNumber (IsClashAt rows source targets) i)

module _ (rows : List Node) (source : ℕ) (targets : List OrderedJson) where
  pub looks_at_none : (around closed : ℕ → Bool) → ((n : ℕ) → around n ≡ false) → ((n : ℕ) → closed n ≡ false) → HasLooked rows source targets around closed None 0
  looks_at_none around closed none none_too = record {
    reached = [];
    told = record {
      inside = λ y has. absurd (nothing y has);
      up = λ n y has within. absurd (nothing y has);
      down = λ n is. (let not = none n in absurd (cc));
      themselves = λ y has. absurd (nothing y has);
      parted = λ p v w y z is_v is_w differ has has_too at_v at_w other. absurd (nothing y has);
      taken_below = λ p n is below. (let not = none_too p in absurd (cc));
    };
    are = λ n. ((λ has. absurd (nothing n has)), (λ was. absurd (omega (arith, was.2))));
    first = λ fault is. absurd (omega (arith, is.1));
  }
    where
      nothing : (y : ℕ) → Contains [] y → ⊥
      nothing y (k, less, is) = absurd (omega arith)

  module _ (around closed around2 closed2 : ℕ → Bool) (found next : Option MachineFault) (i : ℕ) (target : OrderedJson)
      (looked : HasLooked rows source targets around closed found i) (at : slice_get targets i ≡ Some target)
      (new : HasReached rows source target looked.reached around2 closed2 next) where
    target_at : (other : OrderedJson) → slice_get targets i ≡ Some other → other ≡ target
    target_at other is = let found : Some other ≡ Some target = sym is ∙ at in cc

    reached_next : (n : ℕ) → Contains new.now_reached n ↔ WasReached rows source targets (i + 1) n
    reached_next n = (
      (λ has. elim ((new.added n).0 has) [
        | inl old ↦ (let (k, other, less, is, counts) = (looked.are n).0 old in (k, other, omega arith, is, counts))
        | inr counts ↦ (i, target, omega arith, at, counts)
      ]),
      (λ was. elim (cases_lt was.0 i) [
        | inl before ↦ (new.added n).1 (inl ((looked.are n).1 (was.0, was.1, before, was.3, was.4)))
        | inr from ↦
            let upto : was.0 < i + 1 = was.2 in
            let same : was.0 ≡ i = omega arith in
            let here : was.1 ≡ target = target_at was.1 (ap (slice_get targets) (sym same) ∙ was.3) in
            let P : OrderedJson → Type 0 = λ t. CountsForTarget rows source t n in
            (new.added n).1 (inr (subst P here was.4))
      ]),
    )

    clash_here : (f : MachineFault) → ClashesWithReached rows source looked.reached target f → IsClashAt rows source targets i f
    clash_here f (b, (t, led, counts), (a, has, not), is) =
        let (k, before, less, there, (s, led_too, counts_too)) = (looked.are a).0 has in
        (k, before, target, s, t, less, there, at, led_too, led, (λ all. not (all a b counts_too counts)), is)

    clash_there : (f : MachineFault) → IsClashAt rows source targets i f → ClashesWithReached rows source looked.reached target f
    clash_there f (k, before, later, s, t, less, there, here, led_too, led, clash, is) =
        let (a, b, counts_too, counts, not) = clashing_pair rows s t clash in
        let same : later ≡ target = target_at later here in
        let has : Contains looked.reached a = (looked.are a).1 (k, before, less, there, (s, led_too, counts_too)) in
        (b, (t, ap (led_to rows source) (sym same) ∙ led, counts), (a, has, not), is ∙ ap (λ (j : OrderedJson). Clash (place_of j)) same)

    pub looks_at_next : HasLooked rows source targets around2 closed2 (earlier found next) (i + 1)
    looks_at_next = record {
      reached = new.now_reached;
      told = new.told;
      are = reached_next;
      first = below_next_number (IsClashAt rows source targets) i found next looked.first
          (as_set next (ClashesWithReached rows source looked.reached target) (IsClashAt rows source targets i) clash_here clash_there new.first);
    }

  pub looked_at_all : (around closed : ℕ → Bool) (found : Option MachineFault) (n : ℕ) → HasLooked rows source targets around closed found n → length targets ≤ n
      → TellsFirst found (IsClash rows source targets)
  looked_at_all around closed found n looked past =
      as_set found (IsBelowNumber (IsClashAt rows source targets) n) (IsClash rows source targets)
      (λ f is. (is.2.0, is.0, is.2.1, is.2.2, is.2.3, is.2.4, is.2.5, is.2.6, is.2.7, is.2.8, is.2.9, is.2.10, is.2.11))
      (λ f is.
      let within : is.1 < length targets = slice_get_within targets is.1 is.3 is.8 in
      (is.1, omega arith, (is.0, is.2, is.3, is.4, is.5, is.6, is.7, is.8, is.9, is.10, is.11, is.12)))
      looked.first
