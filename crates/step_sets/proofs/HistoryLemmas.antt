-- Records of a history, looked up by their nodes.
use Rattle.std.proofs.Common.{◌≡◌, ◌≢◌, ◌∙◌, ◌↔◌, ◌⊎◌, ◌<◌, ◌+◌, ℕ, List, [], ◌∷◌, length, get_or, drop, take, Option, Some, None, arith, inl, inr, sym, refl, subst, ap}
use Rattle.std.specs.BTreeMap.{insert_entry}
use Rattle.std.specs.List.{All, Contains}
use Rattle.std.specs.List.Sorted.{IsStrictlyIncreasing}
use Rattle.std.specs.Option.{IsSomeAnd}
use Rattle.std.specs.Prelude.{Result, Ok, Err, IfOk}
use Rattle.std.specs.Ordering.{nat_cmp}
use Rattle.std.proofs.lemmas.Bool.{cases_eq, cases_lt}
use Rattle.std.proofs.lemmas.Bool.Decides.{nat_tests}
use Rattle.std.proofs.lemmas.List.{drop_more}
use Rattle.std.proofs.lemmas.List.Elements.{All-cons, All-head, All-tail}
use Rattle.node_tree.specs.declared.node.Node.{Node}
use Rattle.node_tree.specs.Kinds.{IsHistory}
use Rattle.node_tree.specs.Nodes.{AreNodes, IsChild, parent_of}
use Rattle.step_sets.specs.Goals.{History, record_of}
use Rattle.step_sets.specs.History.{AreRenewed, Departure, IsRecordedNow, IsRemembered, RecordsNodes, RecordsHistory, history_nodes}
use Rattle.step_sets.specs.Sets.{IsSetOf}
use Rattle.step_sets.proofs.GoalLemmas.{decide_history}
use Rattle.step_sets.proofs.SetLemmas.{front_more}

-- a record
abbrev Record : Type 0
Record = ℕ × List ℕ

-- looking up goes past a record of another node, and ends at one of the node
record_of-here : (r : Record) (rest : History) (h : ℕ) → r.0 ≡ h → record_of (r ∷ rest) h ≡ Some r.1
record_of-here r rest h same = grind (arith, nat_tests)

record_of-past : (r : Record) (rest : History) (h : ℕ) → r.0 ≢ h → record_of (r ∷ rest) h ≡ record_of rest h
record_of-past r rest h apart = grind (arith, nat_tests)

-- where a record is put
insert_before : (r : Record) (rs : History) (k : ℕ) (v : List ℕ) → k < r.0 → insert_entry nat_cmp (r ∷ rs) k v ≡ (k, v) ∷ r ∷ rs
insert_before r rs k v less = grind (arith, nat_tests)

insert_here : (r : Record) (rs : History) (k : ℕ) (v : List ℕ) → k ≡ r.0 → insert_entry nat_cmp (r ∷ rs) k v ≡ (r.0, v) ∷ rs
insert_here r rs k v same = grind (arith, nat_tests)

insert_after : (r : Record) (rs : History) (k : ℕ) (v : List ℕ) → r.0 < k → insert_entry nat_cmp (r ∷ rs) k v ≡ r ∷ insert_entry nat_cmp rs k v
insert_after r rs k v more = grind (arith, nat_tests)

order_cases : (a b : ℕ) → (a < b) ⊎ ((a ≡ b) ⊎ (b < a))
order_cases a b = elim (cases_lt a b) [
  | inl less ↦ inl less
  | inr from ↦ elim (cases_eq a b) [ inl same ↦ inr (inl same) | inr apart ↦ inr (inr (omega arith)) ]
]

-- it is found there
pub record_of-insert_same : (rs : History) (k : ℕ) (v : List ℕ) → record_of (insert_entry nat_cmp rs k v) k ≡ Some v
record_of-insert_same [] k v = record_of-here (k, v) [] k refl
record_of-insert_same (r ∷ rs) k v =
    elim (order_cases k r.0) [
      | inl less ↦ rw (insert_before r rs k v less) (record_of-here (k, v) (r ∷ rs) k refl)
      | inr e ↦ elim e [
        | inl same ↦ rw (insert_here r rs k v same) (record_of-here (r.0, v) rs k (sym same))
        | inr more ↦ rw (insert_after r rs k v more) (record_of-past r (insert_entry nat_cmp rs k v) k (λ is. omega arith) ∙ record_of-insert_same rs k v)
      ]
    ]

-- and the others stay
pub record_of-insert_other : (rs : History) (k : ℕ) (v : List ℕ) (h : ℕ) → k ≢ h → record_of (insert_entry nat_cmp rs k v) h ≡ record_of rs h
record_of-insert_other [] k v h apart = record_of-past (k, v) [] h apart
record_of-insert_other (r ∷ rs) k v h apart =
    elim (order_cases k r.0) [
      | inl less ↦ rw (insert_before r rs k v less) (record_of-past (k, v) (r ∷ rs) h apart)
      | inr e ↦ elim e [
        | inl same ↦ rw (insert_here r rs k v same) (record_of-past (r.0, v) rs h (λ is. apart (same ∙ is)) ∙ sym (record_of-past r rs h (λ is. apart (same ∙ is))))
        | inr more ↦ rw (insert_after r rs k v more) (elim (cases_eq r.0 h) [
          | inl here ↦ record_of-here r (insert_entry nat_cmp rs k v) h here ∙ sym (record_of-here r rs h here)
          | inr past ↦ record_of-past r (insert_entry nat_cmp rs k v) h past ∙ (record_of-insert_other rs k v h apart ∙ sym (record_of-past r rs h past))
        ])
      ]
    ]

-- what holds of each record holds of each with one more
pub All-insert : (P : Record → Type 0) (rs : History) (k : ℕ) (v : List ℕ) → P (k, v) → All P rs → All P (insert_entry nat_cmp rs k v)
All-insert P [] k v p all = All-cons P (k, v) [] p all
All-insert P (r ∷ rs) k v p all =
    elim (order_cases k r.0) [
      | inl less ↦ rw (insert_before r rs k v less) (All-cons P (k, v) (r ∷ rs) p all)
      | inr e ↦ elim e [
        | inl same ↦ (let Q : ℕ → Type 0 = λ x. P (x, v) in
            rw (insert_here r rs k v same) (All-cons P (r.0, v) rs (subst Q same p) (All-tail P r rs all)))
        | inr more ↦ rw (insert_after r rs k v more) (All-cons P r (insert_entry nat_cmp rs k v) (All-head P r rs all) (All-insert P rs k v p (All-tail P r rs all)))
      ]
    ]

-- the records from i on, with the one at i put in its place, have the same records as those from i on
pub record_of-back : (rs new : History) (i : ℕ) (d : Record) (h : ℕ) → i < length rs → ((n : ℕ) → record_of new n ≡ record_of (drop (i + 1) rs) n) → record_of (insert_entry nat_cmp new (get_or rs i d).0 (get_or rs i d).1) h ≡ record_of (drop i rs) h
record_of-back rs new i d h inside same =
    let r = get_or rs i d in
    rw (drop_more rs i d inside) (elim (cases_eq r.0 h) [
      | inl here ↦ (let P : ℕ → Type 0 = λ x. record_of (insert_entry nat_cmp new r.0 r.1) x ≡ Some r.1 in subst P here (record_of-insert_same new r.0 r.1)) ∙ sym (record_of-here r (drop (i + 1) rs) h here)
      | inr past ↦ record_of-insert_other new r.0 r.1 h past ∙ (same h ∙ sym (record_of-past r (drop (i + 1) rs) h past))
    ])

module _ (nodes : List Node) (active : List ℕ) where
  -- nothing is recorded anew
  pub AreRenewed-none : (Now : ℕ → Type 0) (old new : History) → ((h : ℕ) → ¬ Now h) → ((h : ℕ) → record_of new h ≡ record_of old h) → AreRenewed nodes active Now old new
  AreRenewed-none Now old new none same = record {
    renewed = λ h now. absurd (none h now);
    kept = λ h out. same h;
  }

  -- the same under another name
  pub AreRenewed-same : {Now Then : ℕ → Type 0} (old new : History) → ((h : ℕ) → Then h ↔ Now h) → AreRenewed nodes active Now old new → AreRenewed nodes active Then old new
  AreRenewed-same {Now} {Then} old new same were = record {
    renewed = λ h then. were.renewed h ((same h).0 then);
    kept = λ h out. were.kept h (λ now. out ((same h).1 now));
  }

  -- one more node has what it remembers recorded
  pub AreRenewed-insert : {Now Then : ℕ → Type 0} (old new : History) (c : ℕ) (list : List ℕ) → ((h : ℕ) → Then h ↔ (Now h ⊎ (h ≡ c))) → IsSetOf (IsRemembered nodes active c) list → AreRenewed nodes active Now old new → AreRenewed nodes active Then old (insert_entry nat_cmp new c list)
  AreRenewed-insert {Now} {Then} old new c list more set were = record {
    renewed = λ h then. elim (cases_eq c h) [
      | inl same ↦
          (let P : Option (List ℕ) → Type 0 = λ r. IsSomeAnd r (IsSetOf (IsRemembered nodes active h)) in
          let Q : ℕ → Type 0 = λ x. IsSetOf (IsRemembered nodes active x) list in
          let R : ℕ → Type 0 = λ x. record_of (insert_entry nat_cmp new c list) x ≡ Some list in
          subst P (sym (subst R same (record_of-insert_same new c list))) (subst Q same set))
      | inr apart ↦
          (let P : Option (List ℕ) → Type 0 = λ r. IsSomeAnd r (IsSetOf (IsRemembered nodes active h)) in
          subst P (sym (record_of-insert_other new c list h apart)) (were.renewed h (elim ((more h).0 then) [ inl now ↦ now | inr same ↦ absurd (apart (sym same)) ])))
    ];
    kept = λ h out. elim (cases_eq c h) [
      | inl same ↦ absurd (out ((more h).1 (inr (sym same))))
      | inr apart ↦ record_of-insert_other new c list h apart ∙ were.kept h (λ now. out ((more h).1 (inl now)))
    ];
  }

  -- first the ones and then the others
  pub AreRenewed-then : {First Then Both : ℕ → Type 0} (old middle new : History) → ((h : ℕ) → Then h ⊎ ¬ Then h) → ((h : ℕ) → Both h ↔ (First h ⊎ Then h)) → AreRenewed nodes active First old middle → AreRenewed nodes active Then middle new → AreRenewed nodes active Both old new
  AreRenewed-then {First} {Then} {Both} old middle new decide both first then = record {
    renewed = λ h is. elim (decide h) [
      | inl now ↦ then.renewed h now
      | inr out ↦
          (let P : Option (List ℕ) → Type 0 = λ r. IsSomeAnd r (IsSetOf (IsRemembered nodes active h)) in
          subst P (sym (then.kept h out)) (first.renewed h (elim ((both h).0 is) [ inl f ↦ f | inr t ↦ absurd (out t) ])))
    ];
    kept = λ h out. then.kept h (λ t. out ((both h).1 (inr t))) ∙ first.kept h (λ f. out ((both h).1 (inl f)));
  }

-- whether a node is a history node and a child of another one
decide_child_by : (nodes : List Node) (n p : ℕ) (o : Option ℕ) → parent_of nodes n ≡ o → IsChild nodes n p ⊎ ¬ IsChild nodes n p
decide_child_by nodes n p None e = inr (λ c. cc)
decide_child_by nodes n p (Some q) e =
    elim (cases_eq q p) [
      | inl same ↦ inl (rw (← same) e)
      | inr apart ↦ inr (λ c. apart (let is : q ≡ p = cc in is))
    ]

pub decide_history_child : (nodes : List Node) (p n : ℕ) → (IsHistory nodes n × IsChild nodes n p) ⊎ ¬ (IsHistory nodes n × IsChild nodes n p)
decide_history_child nodes p n =
    elim (decide_history nodes n) [
      | inr plain ↦ inr (λ (history, c). plain history)
      | inl history ↦ elim (decide_child_by nodes n p (parent_of nodes n) refl) [
        | inl c ↦ inl (history, c)
        | inr apart ↦ inr (λ (history', c). apart c)
      ]
    ]

-- the history nodes of which the parent is one of the first i of the list, one step on
pub recorded_more : (nodes : List Node) (exits : List ℕ) (i h : ℕ) → i < length exits
    → IsRecordedNow nodes (take (i + 1) exits) h ↔ (IsRecordedNow nodes (take i exits) h ⊎ (IsHistory nodes h × IsChild nodes h (get_or exits i 0)))
recorded_more nodes exits i h inside = (
  (λ (history, p, c, left). elim ((front_more exits i p inside).0 left) [
    | inl before ↦ inl (history, p, c, before)
    | inr last ↦ inr (history, (let P : ℕ → Type 0 = λ x. IsChild nodes h x in subst P last c))
  ]),
  (λ e. elim e [
    | inl (history, p, c, left) ↦ (history, p, c, (front_more exits i p inside).1 (inl left))
    | inr (history, c) ↦ (history, get_or exits i 0, c, (front_more exits i (get_or exits i 0) inside).1 (inr refl))
  ]),
)

-- all of them recorded, in document order
pub renewed_all : (nodes : List Node) (departure : Departure) (new : History) → IsStrictlyIncreasing (history_nodes new) → AreRenewed nodes departure.active (IsRecordedNow nodes departure.exits) departure.recorded new → RecordsHistory nodes departure new
renewed_all nodes departure new rising are = record {
  in_order = rising;
  each = λ h. record { recorded = are.renewed h; kept = are.kept h };
}

-- a copy of the record before the ones that are copied
pub copied_back : (nodes : List Node) (rs new after : History) (i j : ℕ) (r : Record) (list : List ℕ) → j + 1 ≡ i → j < length rs → r ≡ get_or rs j r → list ≡ r.1
    → after ≡ insert_entry nat_cmp new r.0 list → RecordsNodes nodes rs → ((h : ℕ) → record_of new h ≡ record_of (drop i rs) h) → RecordsNodes nodes new
    → ((h : ℕ) → record_of after h ≡ record_of (drop j rs) h) × RecordsNodes nodes after
copied_back nodes rs new after i j r list next inside is copy put named same were =
    let P : Record → Type 0 = λ x. (x.0 < length nodes) × AreNodes nodes x.1 in
    let Q : ℕ → Type 0 = λ x. (h : ℕ) → record_of new h ≡ record_of (drop x rs) h in
    let here : P r = subst P (sym is) (named j r inside) in
    let put-here : after ≡ insert_entry nat_cmp new r.0 r.1 = put ∙ ap (λ x. insert_entry nat_cmp new r.0 x) copy in
    let put-at : after ≡ insert_entry nat_cmp new (get_or rs j r).0 (get_or rs j r).1 = put-here ∙ ap (λ (x : Record). insert_entry nat_cmp new x.0 x.1) is in (
      (λ h. ap (λ x. record_of x h) put-at ∙ record_of-back rs new j r h inside (subst Q (sym next) same)),
      rw put-here (All-insert P new r.0 r.1 here were),
    )

-- of the first i nodes of a list those that are history nodes, one step on
pub history_more : (nodes : List Node) (xs : List ℕ) (i : ℕ) → i < length xs → IsHistory nodes (get_or xs i 0) → (h : ℕ)
    → (IsHistory nodes h × Contains (take (i + 1) xs) h) ↔ ((IsHistory nodes h × Contains (take i xs) h) ⊎ (h ≡ get_or xs i 0))
history_more nodes xs i inside history h = (
  (λ (is, has). elim ((front_more xs i h inside).0 has) [ inl before ↦ inl (is, before) | inr last ↦ inr last ]),
  (λ e. elim e [
    | inl (is, before) ↦ (is, (front_more xs i h inside).1 (inl before))
    | inr last ↦ ((let P : ℕ → Type 0 = λ x. IsHistory nodes x in subst P (sym last) history), (front_more xs i h inside).1 (inr last))
  ]),
)

pub history_skip : (nodes : List Node) (xs : List ℕ) (i : ℕ) → i < length xs → ¬ IsHistory nodes (get_or xs i 0) → (h : ℕ)
    → (IsHistory nodes h × Contains (take (i + 1) xs) h) ↔ (IsHistory nodes h × Contains (take i xs) h)
history_skip nodes xs i inside plain h = (
  (λ (is, has). elim ((front_more xs i h inside).0 has) [
    | inl before ↦ (is, before)
    | inr last ↦ absurd (plain (let P : ℕ → Type 0 = λ x. IsHistory nodes x in subst P last is))
  ]),
  (λ (is, before). (is, (front_more xs i h inside).1 (inl before))),
)

pub none_left : (xs : History) → ((0 < length xs) → ⊥) → xs ≡ []
none_left [] none = refl
none_left (x ∷ xs) none = absurd (none (omega arith))

pub if_ok_both : {X E : Type 0} {P Q R : X → Type 0} (r : Result X E) → IfOk r P → IfOk r Q → ((x : X) → P x → Q x → R x) → IfOk r R
if_ok_both (Ok x) p q f = f x p q
if_ok_both (Err e) p q f = tt

-- a record of a history that names nodes of the tree does so
pub record_of-named : (nodes : List Node) (rs : History) (h : ℕ) (list : List ℕ) → RecordsNodes nodes rs → record_of rs h ≡ Some list → AreNodes nodes list
record_of-named nodes [] h list named is = absurd cc
record_of-named nodes (r ∷ rest) h list named is =
    elim (cases_eq r.0 h) [
      | inl same ↦
          (let here = record_of-here r rest h same in
          let e : r.1 ≡ list = cc in
          let P : List ℕ → Type 0 = λ xs. AreNodes nodes xs in
          subst P e (All-head (λ (r : Record). (r.0 < length nodes) × AreNodes nodes r.1) r rest named).1)
      | inr apart ↦
          record_of-named nodes rest h list (All-tail (λ (r : Record). (r.0 < length nodes) × AreNodes nodes r.1) r rest named) (sym (record_of-past r rest h apart) ∙ is)
    ]
