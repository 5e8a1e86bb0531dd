-- Which nodes of an outline are in different regions.
use Rattle.std.proofs.Common.{◌≡◌, ◌≢◌, ◌<◌, ◌⊎◌, ℕ, zero, suc, List, length, Option, Some, None, arith, refl, sym, subst, inl, inr, ap, ◌∙◌}
use Rattle.std.proofs.lemmas.Bool.{cases_eq}
use Rattle.node_tree.specs.declared.node.Kind.{Kind}
use Rattle.node_tree.specs.declared.node.Kind.TheVariants.{Atomic, Compound, Parallel, Final, Shallow, Deep}
use Rattle.node_tree.specs.declared.node.Node.{Node}
use Rattle.node_tree.specs.Kinds.{kind_of}
use Rattle.node_tree.specs.Nodes.{IsBelow, IsChild, IsOutline, IsWithin, child, further, parent_of}
use Rattle.node_tree.proofs.TreeLemmas.{ancestors_first, parent_first}
use Rattle.step_sets.specs.Statechart.{AreOrthogonal}
use Rattle.step_sets.proofs.TreeLemmas.{above_child, above_parent, below_within, comparable, within_parent, within_trans}

-- whether a node is parallel
parallel_cases : (kind : Option Kind) → (kind ≡ Some Parallel) ⊎ (kind ≢ Some Parallel)
parallel_cases None = inr (λ is. cc)
parallel_cases (Some Atomic) = inr (λ is. cc)
parallel_cases (Some (Compound initial)) = inr (λ is. cc)
parallel_cases (Some Parallel) = inl refl
parallel_cases (Some Final) = inr (λ is. cc)
parallel_cases (Some (Shallow default)) = inr (λ is. cc)
parallel_cases (Some (Deep default)) = inr (λ is. cc)

module _ (rows : List Node) (outline : IsOutline rows) where
  pub decide_parallel : (p : ℕ) → (kind_of rows p ≡ Some Parallel) ⊎ (kind_of rows p ≢ Some Parallel)
  decide_parallel p = parallel_cases (kind_of rows p)

  pub not_below_itself : (n : ℕ) → IsBelow rows n n → ⊥
  not_below_itself n below = let less = ancestors_first rows outline n n below in absurd (omega arith)

  -- a parent is not its child, or below it
  pub parent_not_within : (c p : ℕ) → IsChild rows c p → IsWithin rows p c → ⊥
  parent_not_within c p is within =
      let less = parent_first rows outline c p is in
      elim within [ inl same ↦ absurd (omega arith) | inr below ↦ let more = ancestors_first rows outline p c below in absurd (omega arith) ]

  -- whether a node is below another can be decided
  below_by_parent : (l h : ℕ) → ((p : ℕ) → p < l → IsBelow rows p h ⊎ (IsBelow rows p h → ⊥)) → (o : Option ℕ) → parent_of rows l ≡ o → IsBelow rows l h ⊎ (IsBelow rows l h → ⊥)
  below_by_parent l h above None is = inr (λ below. let (p, c, w) = above_child rows l h below in absurd (cc))
  below_by_parent l h above (Some p) is =
      elim (cases_eq p h) [
        | inl same ↦ inl (let P : ℕ → Type 0 = λ x. IsBelow rows l x in subst P same (child l p is))
        | inr apart ↦ elim (above p (parent_first rows outline l p is)) [
          | inl below ↦ inl (further l p h is below)
          | inr none ↦ inr (λ below. elim (above_parent rows l p h is below) [ inl same ↦ apart same | inr up ↦ none up ])
        ]
      ]

  below_upto : (fuel l h : ℕ) → l < fuel → IsBelow rows l h ⊎ (IsBelow rows l h → ⊥)
  below_upto zero l h less = absurd (omega arith)
  below_upto (suc fuel) l h less = below_by_parent l h (λ p before. below_upto fuel p h (omega arith)) (parent_of rows l) refl

  pub decide_within : (l h : ℕ) → IsWithin rows l h ⊎ (IsWithin rows l h → ⊥)
  decide_within l h =
      elim (cases_eq l h) [
        | inl same ↦ inl (inl same)
        | inr apart ↦ elim (below_upto (suc l) l h (omega arith)) [
          | inl below ↦ inl (inr below)
          | inr none ↦ inr (λ within. elim within [ inl same ↦ apart same | inr below ↦ none below ])
        ]
      ]

  -- nothing is below two children of one node
  pub one_child : (x v w p : ℕ) → IsChild rows v p → IsChild rows w p → IsWithin rows x v → IsWithin rows x w → v ≡ w
  one_child x v w p is_v is_w at_v at_w =
      elim (comparable rows x v w at_v at_w) [
        | inl within ↦ elim within [
          | inl same ↦ same
          | inr below ↦ absurd (parent_not_within w p is_w (above_parent rows v p w is_v below))
        ]
        | inr below ↦ absurd (parent_not_within v p is_v (above_parent rows w p v is_w below))
      ]

  -- two nodes that part at a node that isn't parallel are in one region
  pub part_in_one : (x y p c : ℕ) → kind_of rows p ≢ Some Parallel → IsChild rows c p → IsWithin rows x c → IsWithin rows y p
      → (IsWithin rows y c → ⊥) → AreOrthogonal rows y x → ⊥
  part_in_one x y p c other is at_c at_p apart orthogonal =
      let low : IsBelow rows x p = within_parent rows x c p at_c is in
      elim at_p [
        | inl same ↦ orthogonal.apart_too (inr (let P : ℕ → Type 0 = λ n. IsBelow rows x n in subst P (sym same) low))
        | inr below ↦
            let (q, y_q, x_q, kind, inner) = orthogonal.parallel in
            elim (inner p below low) [
              | inl same ↦ other (ap (kind_of rows) (sym same) ∙ kind)
              | inr q_p ↦ elim (comparable rows x c q at_c (inr x_q)) [
                | inl c_q ↦ elim c_q [
                  | inl same ↦ apart (inr (let P : ℕ → Type 0 = λ n. IsBelow rows y n in subst P (sym same) y_q))
                  | inr c_below ↦ not_below_itself q (below_within rows q p q q_p (above_parent rows c p q is c_below))
                ]
                | inr q_c ↦ apart (inr (below_within rows y q c y_q (inr q_c)))
              ]
            ]
      ]

  -- two nodes that part at a parallel node are in different regions
  pub part_in_two : (x y p c : ℕ) → kind_of rows p ≡ Some Parallel → IsChild rows c p → IsWithin rows x c → IsBelow rows y p
      → (IsWithin rows y c → ⊥) → AreOrthogonal rows y x
  part_in_two x y p c kind is at_c below apart =
      let low : IsBelow rows x p = within_parent rows x c p at_c is in
      record {
        apart = λ within. apart (within_trans rows y x c within at_c);
        apart_too = λ within. elim (comparable rows x c y at_c within) [
          | inl c_y ↦ elim c_y [
            | inl same ↦ apart (inl (sym same))
            | inr c_below ↦ not_below_itself y (below_within rows y p y below (above_parent rows c p y is c_below))
          ]
          | inr y_c ↦ apart (inr y_c)
        ];
        parallel = (
          p,
          below,
          low,
          kind,
          λ r y_r x_r. elim (comparable rows x c r at_c (inr x_r)) [
            | inl c_r ↦ elim c_r [
              | inl same ↦ absurd (apart (inr (let P : ℕ → Type 0 = λ n. IsBelow rows y n in subst P (sym same) y_r)))
              | inr c_below ↦ above_parent rows c p r is c_below
            ]
            | inr r_c ↦ absurd (apart (inr (below_within rows y r c y_r (inr r_c))))
          ],
        );
      }

  -- each node is the root or below it
  within_first : (fuel y : ℕ) → y < fuel → y < length rows → IsWithin rows y 0
  within_first zero y less inside = absurd (omega arith)
  within_first (suc fuel) zero less inside = inl refl
  within_first (suc fuel) (suc before) less inside =
      let (p, is, upto) = (outline.rows (suc before) inside).placed in
      let first = parent_first rows outline (suc before) p is in
      elim (within_first fuel p (omega arith) (omega arith)) [
        | inl same ↦ inr (let P : ℕ → Type 0 = λ n. IsBelow rows (suc before) n in subst P same (child (suc before) p is))
        | inr below ↦ inr (further (suc before) p 0 is below)
      ]

  root_is_first : (r : ℕ) → parent_of rows r ≡ None → r < length rows → r ≡ 0
  root_is_first zero none inside = refl
  root_is_first (suc before) none inside = let (p, is, upto) = (outline.rows (suc before) inside).placed in absurd (cc)

  pub within_root : (r y : ℕ) → parent_of rows r ≡ None → r < length rows → y < length rows → IsWithin rows y r
  within_root r y none inside y_inside =
      let P : ℕ → Type 0 = λ n. IsWithin rows y n in
      subst P (sym (root_is_first r none inside)) (within_first (suc y) y (omega arith) y_inside)
