-- What the walk up from a node that was reached takes down.
use Rattle.std.proofs.Common.{◌≡◌, ◌≢◌, ◌<◌, ◌⊎◌, ◌↔◌, ℕ, Bool, true, false, List, ◌∷◌, length, Some, None, arith, refl, sym, subst, inl, inr, ap, ◌∙◌}
use Rattle.std.specs.Prelude.{Contains, cond, not}
use Rattle.std.specs.BTreeMap.{is_at}
use Rattle.std.specs.Ordering.{nat_cmp}
use Rattle.std.proofs.lemmas.Bool.{cases_eq}
use Rattle.node_tree.specs.declared.node.Kind.TheVariants.{Parallel}
use Rattle.node_tree.specs.declared.node.Node.{Node}
use Rattle.node_tree.specs.Kinds.{kind_of}
use Rattle.node_tree.specs.Nodes.{IsBelow, IsChild, IsOutline, IsWithin, child, parent_of}
use Rattle.node_tree.proofs.TreeLemmas.{one_parent, parent_first, root_is_below_none}
use Rattle.step_sets.proofs.PreemptionLemmas.{taken_one}
use Rattle.step_sets.proofs.ListLemmas.{Contains-cons_cases, Contains-here, Contains-there}
use Rattle.step_sets.proofs.TreeLemmas.{above_parent, below_parent, below_within, child_towards, comparable, within_below, within_parent, within_trans}
use Rattle.machine_json.specs.Reached.{IsTaken, TellsReached}
use Rattle.machine_json.proofs.RegionLemmas.{not_below_itself, one_child, parent_not_within, part_in_one}

-- a node is or is below a child of a parent that isn't parallel, and only below other children
-- something was reached before
pub record Divides (rows : List Node) (old_around : ℕ → Bool) (node parent way : ℕ) : Type 0 where
  pub is_child : IsChild rows way parent
  pub within : IsWithin rows node way
  pub shared : old_around parent ≡ true
  pub new : old_around way ≡ true → ⊥
  pub other : kind_of rows parent ≢ Some Parallel

-- the walk up from a node has come to another one: what lies between them was added to the one set,
-- and each parent that divides to the other
pub record HasWalked (rows : List Node) (old_around old_closed around closed : ℕ → Bool) (node at : ℕ) : Type 0 where
  pub inside : at < length rows
  pub within : IsWithin rows node at
  pub added : (n : ℕ) → (around n ≡ true) ↔ ((old_around n ≡ true) ⊎ (IsWithin rows node n × IsBelow rows n at))
  pub itself : closed node ≡ true
  pub kept : (p : ℕ) → old_closed p ≡ true → closed p ≡ true
  pub cause : (p : ℕ) → closed p ≡ true → (old_closed p ≡ true) ⊎ ((p ≡ node) ⊎ ((w : ℕ) × Divides rows old_around node p w))
  pub each : (p w : ℕ) → IsBelow rows w at → Divides rows old_around node p w → closed p ≡ true

-- the same of the whole way up
pub record HasAdded (rows : List Node) (old_around old_closed around closed : ℕ → Bool) (node : ℕ) : Type 0 where
  pub added : (n : ℕ) → (around n ≡ true) ↔ ((old_around n ≡ true) ⊎ IsWithin rows node n)
  pub itself : closed node ≡ true
  pub kept : (p : ℕ) → old_closed p ≡ true → closed p ≡ true
  pub cause : (p : ℕ) → closed p ≡ true → (old_closed p ≡ true) ⊎ ((p ≡ node) ⊎ ((w : ℕ) × Divides rows old_around node p w))
  pub each : (p w : ℕ) → Divides rows old_around node p w → closed p ≡ true

-- one set has one node more than another
abbrev pub HasOneMore : (ℕ → Bool) → (ℕ → Bool) → ℕ → Type 0
HasOneMore old new one = (n : ℕ) → (new n ≡ true) ↔ ((old n ≡ true) ⊎ (n ≡ one))

module _ (rows : List Node) (outline : IsOutline rows) (around0 closed0 : ℕ → Bool) where
  pub starts : (closed : ℕ → Bool) (node : ℕ) → node < length rows → HasOneMore closed0 closed node → HasWalked rows around0 closed0 around0 closed node node
  starts closed node inside more = record {
    inside = inside;
    within = inl refl;
    added = λ n. ((λ old. inl old), (λ either. elim either [ inl old ↦ old | inr between ↦ absurd (loop_of n between) ]));
    itself = (more node).1 (inr refl);
    kept = λ p old. (more p).1 (inl old);
    cause = λ p now. elim ((more p).0 now) [ inl old ↦ inl old | inr same ↦ inr (inl same) ];
    each = λ p w below divides. absurd (loop_of w (divides.within, below));
  }
    where
      loop_of : (n : ℕ) → IsWithin rows node n × IsBelow rows n node → ⊥
      loop_of n between = not_below_itself rows outline node (within_below rows node n node between.0 between.1)

  module _ (around1 closed1 around2 closed2 : ℕ → Bool) (node at parent : ℕ) (walked : HasWalked rows around0 closed0 around1 closed1 node at)
      (more : HasOneMore around1 around2 at) (new : around1 at ≡ true → ⊥) (is : IsChild rows at parent) where
    up_one : (n : ℕ) → IsWithin rows node n → IsBelow rows n parent → IsBelow rows n at ⊎ (n ≡ at)
    up_one n within below =
        elim (comparable rows node at n walked.within within) [
          | inl at_n ↦ elim at_n [
            | inl same ↦ inr (sym same)
            | inr at_below ↦ absurd (not_below_itself rows outline n (below_within rows n parent n below (above_parent rows at parent n is at_below)))
          ]
          | inr below_at ↦ inl below_at
        ]

    added_one : (n : ℕ) → (around2 n ≡ true) ↔ ((around0 n ≡ true) ⊎ (IsWithin rows node n × IsBelow rows n parent))
    added_one n = (
      (λ now. elim ((more n).0 now) [
        | inl before ↦ elim ((walked.added n).0 before) [
          | inl old ↦ inl old
          | inr between ↦ inr (between.0, below_parent rows n at parent between.1 is)
        ]
        | inr same ↦ inr (
          (let P : ℕ → Type 0 = λ m. IsWithin rows node m in subst P (sym same) walked.within),
          (let P : ℕ → Type 0 = λ m. IsBelow rows m parent in subst P (sym same) (child at parent is)),
        )
      ]),
      (λ either. elim either [
        | inl old ↦ (more n).1 (inl ((walked.added n).1 (inl old)))
        | inr between ↦ elim (up_one n between.0 between.1) [
          | inl below ↦ (more n).1 (inl ((walked.added n).1 (inr (between.0, below))))
          | inr same ↦ (more n).1 (inr same)
        ]
      ]),
    )

    -- the parent was there before, if it is there now
    shared_before : around2 parent ≡ true → around0 parent ≡ true
    shared_before now =
        elim ((more parent).0 now) [
          | inl before ↦ elim ((walked.added parent).0 before) [
            | inl old ↦ old
            | inr between ↦ absurd (parent_not_within rows outline at parent is (inr between.1))
          ]
          | inr same ↦ absurd (parent_not_within rows outline at parent is (inl same))
        ]

    not_before : around0 at ≡ true → ⊥
    not_before old = new ((walked.added at).1 (inl old))

    divides_here : around2 parent ≡ true → kind_of rows parent ≢ Some Parallel → Divides rows around0 node parent at
    divides_here now other = record { is_child = is; within = walked.within; shared = shared_before now; new = not_before; other = other }

    inside_one : parent < length rows
    inside_one = let less = parent_first rows outline at parent is in let before = walked.inside in omega arith

    within_one : IsWithin rows node parent
    within_one = inr (within_parent rows node at parent walked.within is)

    -- a parent that divides closes
    pub closes : around2 parent ≡ true → kind_of rows parent ≢ Some Parallel → HasOneMore closed1 closed2 parent → HasWalked rows around0 closed0 around2 closed2 node parent
    closes now other one = record {
      inside = inside_one;
      within = within_one;
      added = added_one;
      itself = (one node).1 (inl walked.itself);
      kept = λ p old. (one p).1 (inl (walked.kept p old));
      cause = λ p closed. elim ((one p).0 closed) [
        | inl before ↦ walked.cause p before
        | inr same ↦ inr (inr (at, (let P : ℕ → Type 0 = λ m. Divides rows around0 node m at in subst P (sym same) (divides_here now other))))
      ];
      each = λ p w below divides. elim (up_one w divides.within below) [
        | inl low ↦ (one p).1 (inl (walked.each p w low divides))
        | inr same ↦ (one p).1 (inr (one_parent rows at p parent (let P : ℕ → Type 0 = λ m. IsChild rows m p in subst P same divides.is_child) is))
      ];
    }

    -- another one doesn't
    pub passes : (around2 parent ≡ true → kind_of rows parent ≡ Some Parallel) → HasWalked rows around0 closed0 around2 closed1 node parent
    passes open_above = record {
      inside = inside_one;
      within = within_one;
      added = added_one;
      itself = walked.itself;
      kept = walked.kept;
      cause = walked.cause;
      each = λ p w below divides. elim (up_one w divides.within below) [
        | inl low ↦ walked.each p w low divides
        | inr same ↦
            let above : p ≡ parent = one_parent rows at p parent (let P : ℕ → Type 0 = λ m. IsChild rows m p in subst P same divides.is_child) is in
            let shared : around0 parent ≡ true = ap around0 (sym above) ∙ divides.shared in
            let now : around2 parent ≡ true = (added_one parent).1 (inl shared) in
            absurd (divides.other (ap (kind_of rows) above ∙ open_above now))
      ];
    }

  -- the walk ends at a node that was there before
  pub ends_there : (around closed : ℕ → Bool) (node at : ℕ) → HasWalked rows around0 closed0 around closed node at → around at ≡ true
      → ((low high : ℕ) → around0 low ≡ true → IsWithin rows low high → around0 high ≡ true)
      → HasAdded rows around0 closed0 around closed node
  ends_there around closed node at walked now upward =
      let before : around0 at ≡ true = elim ((walked.added at).0 now) [ inl old ↦ old | inr between ↦ absurd (not_below_itself rows outline at between.1) ] in
      record {
        added = λ n. (
          (λ is. elim ((walked.added n).0 is) [ inl old ↦ inl old | inr between ↦ inr between.0 ]),
          (λ either. elim either [
            | inl old ↦ (walked.added n).1 (inl old)
            | inr within ↦ elim (comparable rows node at n walked.within within) [
              | inl above ↦ (walked.added n).1 (inl (upward at n before above))
              | inr below ↦ (walked.added n).1 (inr (within, below))
            ]
          ]),
        );
        itself = walked.itself;
        kept = walked.kept;
        cause = walked.cause;
        each = λ p w divides. elim (comparable rows node at w walked.within divides.within) [
          | inl above ↦ absurd (divides.new (upward at w before above))
          | inr below ↦ walked.each p w below divides
        ];
      }

  -- the walk ends at the root
  pub ends_above : (around1 around closed : ℕ → Bool) (node at : ℕ) → HasWalked rows around0 closed0 around1 closed node at → HasOneMore around1 around at → parent_of rows at ≡ None
      → HasAdded rows around0 closed0 around closed node
  ends_above around1 around closed node at walked more none = record {
    added = λ n. (
      (λ is. elim ((more n).0 is) [
        | inl before ↦ elim ((walked.added n).0 before) [ inl old ↦ inl old | inr between ↦ inr between.0 ]
        | inr same ↦ inr (let P : ℕ → Type 0 = λ m. IsWithin rows node m in subst P (sym same) walked.within)
      ]),
      (λ either. elim either [
        | inl old ↦ (more n).1 (inl ((walked.added n).1 (inl old)))
        | inr within ↦ elim (comparable rows node at n walked.within within) [
          | inl above ↦ elim above [ inl same ↦ (more n).1 (inr (sym same)) | inr higher ↦ absurd (root_is_below_none rows at n none higher) ]
          | inr below ↦ (more n).1 (inl ((walked.added n).1 (inr (within, below))))
        ]
      ]),
    );
    itself = walked.itself;
    kept = walked.kept;
    cause = walked.cause;
    each = λ p w divides. elim (comparable rows node at w walked.within divides.within) [
      | inl above ↦ elim above [
        | inl same ↦ absurd (let P : ℕ → Type 0 = λ m. IsChild rows m p in let top : IsChild rows at p = subst P (sym same) divides.is_child in root_is_below_none rows at p none (child at p top))
        | inr higher ↦ absurd (root_is_below_none rows at w none higher)
      ]
      | inr below ↦ walked.each p w below divides
    ];
  }

  module _ (around closed : ℕ → Bool) (node : ℕ) (node_inside : node < length rows) (new : HasAdded rows around0 closed0 around closed node)
      (reached : List ℕ) (tells : TellsReached rows reached around0 closed0) where
    taken_more : (n : ℕ) → IsTaken rows reached n → IsTaken rows (node ∷ reached) n
    taken_more n (y, has, not) = (y, Contains-there y node reached has, not)

    -- what is below a node that divides is taken
    taken_by_division : (p w n : ℕ) → Divides rows around0 node p w → IsBelow rows n p → IsTaken rows (node ∷ reached) n
    taken_by_division p w n divides below =
        let (c, is_c, n_c) = child_towards rows n p below in
        elim (cases_eq c w) [
          | inl same ↦
              let (y, has, within) = tells.down p divides.shared in
              let at_w : IsWithin rows n w = (let P : ℕ → Type 0 = λ m. IsWithin rows n m in subst P same n_c) in
              (y, Contains-there y node reached has, part_in_one rows outline n y p w divides.other divides.is_child at_w within (λ y_w. divides.new (tells.up w y has y_w)))
          | inr apart ↦ (
            node,
            Contains-here node reached,
            part_in_one rows outline n node p c divides.other is_c n_c (inr (within_parent rows node w p divides.within divides.is_child))
                (λ node_c. apart (one_child rows outline node c w p is_c divides.is_child node_c divides.within)),
          )
        ]

    -- the new node and one that was reached are in two children
    parted_new : (p v w z : ℕ) → IsChild rows v p → IsChild rows w p → v ≢ w → Contains reached z → IsWithin rows node v → IsWithin rows z w → kind_of rows p ≢ Some Parallel → closed p ≡ true
    parted_new p v w z is_v is_w differ has at_v at_w other =
        by_old (around0 v) refl
      where
        by_old : (b : Bool) → around0 v ≡ b → closed p ≡ true
        by_old true old =
            let (y, has_y, y_v) = tells.down v old in
            new.kept p (tells.parted p v w y z is_v is_w differ has_y has y_v at_w other)
        by_old false none =
            new.each p v (record { is_child = is_v; within = at_v; shared = tells.up p z has (inr (within_parent rows z w p at_w is_w)); new = λ yes. cc; other = other })

    parted_now : (p v w y z : ℕ) → IsChild rows v p → IsChild rows w p → v ≢ w → (node ≡ y) ⊎ Contains reached y → (node ≡ z) ⊎ Contains reached z
        → IsWithin rows y v → IsWithin rows z w → kind_of rows p ≢ Some Parallel → closed p ≡ true
    parted_now p v w y z is_v is_w differ (inl this) (inl that) at_v at_w other =
        let P : ℕ → Type 0 = λ m. IsWithin rows m v in
        let Q : ℕ → Type 0 = λ m. IsWithin rows m w in
        absurd (differ (one_child rows outline node v w p is_v is_w (subst P (sym this) at_v) (subst Q (sym that) at_w)))
    parted_now p v w y z is_v is_w differ (inl this) (inr has) at_v at_w other =
        let P : ℕ → Type 0 = λ m. IsWithin rows m v in parted_new p v w z is_v is_w differ has (subst P (sym this) at_v) at_w other
    parted_now p v w y z is_v is_w differ (inr has) (inl that) at_v at_w other =
        let Q : ℕ → Type 0 = λ m. IsWithin rows m w in parted_new p w v y is_w is_v (λ same. differ (sym same)) has (subst Q (sym that) at_w) at_v other
    parted_now p v w y z is_v is_w differ (inr has) (inr has_too) at_v at_w other =
        new.kept p (tells.parted p v w y z is_v is_w differ has has_too at_v at_w other)

    pub tells_more : TellsReached rows (node ∷ reached) around closed
    tells_more = record {
      inside = λ y has. elim (Contains-cons_cases y node reached has) [
        | inl same ↦ (let P : ℕ → Type 0 = λ m. m < length rows in subst P same node_inside)
        | inr old ↦ tells.inside y old
      ];
      up = λ n y has within. elim (Contains-cons_cases y node reached has) [
        | inl same ↦ (new.added n).1 (inr (let P : ℕ → Type 0 = λ m. IsWithin rows m n in subst P (sym same) within))
        | inr old ↦ (new.added n).1 (inl (tells.up n y old within))
      ];
      down = λ n is. elim ((new.added n).0 is) [
        | inl old ↦ (let (y, has, within) = tells.down n old in (y, Contains-there y node reached has, within))
        | inr within ↦ (node, Contains-here node reached, within)
      ];
      themselves = λ y has. elim (Contains-cons_cases y node reached has) [
        | inl same ↦ ap closed (sym same) ∙ new.itself
        | inr old ↦ new.kept y (tells.themselves y old)
      ];
      parted = λ p v w y z is_v is_w differ has has_too at_v at_w other.
          parted_now p v w y z is_v is_w differ (Contains-cons_cases y node reached has) (Contains-cons_cases z node reached has_too) at_v at_w other;
      taken_below = λ p n is below. elim (new.cause p is) [
        | inl old ↦ taken_more n (tells.taken_below p n old below)
        | inr cause ↦ elim cause [
          | inl same ↦ (node, Contains-here node reached, λ orthogonal. orthogonal.apart_too (inr (let P : ℕ → Type 0 = λ m. IsBelow rows n m in subst P same below)))
          | inr divides ↦ taken_by_division p divides.0 n divides.1 below
        ]
      ];
    }

-- what an insert into a set of nodes adds, by what its contract says
pub one_more : (old new : ℕ → Bool) (one : ℕ) → ((n : ℕ) → new n ≡ cond (is_at (nat_cmp one) n) true (old n)) → HasOneMore old new one
one_more old new one updates = λ n. taken_one (old n) (new n) one n (updates n)

pub not_there : (there added : Bool) → added ≡ not there → added ≡ true → there ≡ true → ⊥
not_there true added is was here = cc
not_there false added is was here = cc

pub was_there : (there added : Bool) → added ≡ not there → added ≡ false → there ≡ true
was_there true added is was = refl
was_there false added is was = cc

-- a node that is there is added once more
pub added_again : (rows : List Node) (around0 closed0 around1 around2 closed : ℕ → Bool) (node at : ℕ)
    → HasAdded rows around0 closed0 around1 closed node → HasOneMore around1 around2 at → around1 at ≡ true → HasAdded rows around0 closed0 around2 closed node
added_again rows around0 closed0 around1 around2 closed node at added more there = record {
  added = λ n. (
    (λ is. elim ((more n).0 is) [
      | inl before ↦ (added.added n).0 before
      | inr same ↦ (added.added n).0 (ap around1 same ∙ there)
    ]),
    (λ either. (more n).1 (inl ((added.added n).1 either))),
  );
  itself = added.itself;
  kept = added.kept;
  cause = added.cause;
  each = added.each;
}

pub upward_of : (rows : List Node) (reached : List ℕ) (around closed : ℕ → Bool) → TellsReached rows reached around closed
    → (low high : ℕ) → around low ≡ true → IsWithin rows low high → around high ≡ true
upward_of rows reached around closed tells low high is within =
    let (y, has, y_low) = tells.down low is in tells.up high y has (within_trans rows y low high y_low within)
