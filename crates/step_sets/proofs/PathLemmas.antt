-- The way up from a node, and which nodes lead to the first goals of a list.
use Rattle.std.proofs.Common.{◌≡◌, ◌∙◌, ◌↔◌, ◌<◌, ◌≤◌, ◌+◌, ◌⊎◌, ℕ, suc, Bool, false, List, length, get_or, take, Option, Some, None, arith, inl, inr, sym, refl, subst, IsTrue}
use Rattle.std.specs.Ordering.{is_gt, nat_cmp}
use Rattle.std.specs.Prelude.{Result, Ok, Err, OnOk}
use Rattle.std.proofs.lemmas.Bool.{cases_eq}
use Rattle.std.proofs.lemmas.Bool.Decides.{nat_tests}
use Rattle.node_tree.proofs.TreeLemmas.{subtrees_are_runs}
use Rattle.node_tree.specs.declared.node.Kind.TheVariants.{Compound}
use Rattle.node_tree.specs.Kinds.{kind_of}
use Rattle.node_tree.specs.declared.node.Node.{Node}
use Rattle.node_tree.specs.Nodes.{IsBelow, IsChild, IsTree, IsWithin, child, further, parent_of}
use Rattle.step_sets.specs.Prospects.{EntersFrom, HasBelow, HasParents}
use Rattle.step_sets.specs.Entries.{LeadsToGoal}
use Rattle.step_sets.proofs.SetLemmas.{front_more}
use Rattle.step_sets.proofs.TreeLemmas.{above_child, initial_child, parent_inside, parent_less, within_parent}

-- the number after the node's, or 0 where there is none
abbrev pub place_of : Option ℕ → ℕ
place_of None = 0
place_of (Some n) = suc n

-- the members are those from before and the nodes from the low one up to before the next one
pub record IsOnPath (nodes : List Node) (low : ℕ) (old new : ℕ → Bool) (at : Option ℕ) : Type 0 where
  pub sound : (n : ℕ) → IsTrue (new n) → IsTrue (old n) ⊎ (IsWithin nodes low n × ((m : ℕ) → at ≡ Some m → m < n))
  pub kept : (n : ℕ) → IsTrue (old n) → IsTrue (new n)
  pub reached : (n : ℕ) → IsWithin nodes low n → IsTrue (new n) ⊎ ((m : ℕ) × (at ≡ Some m) × IsWithin nodes m n)
  pub next : (m : ℕ) → at ≡ Some m → (m < length nodes) × IsWithin nodes low m

module _ (nodes : List Node) (tree : IsTree nodes) (low : ℕ) (old : ℕ → Bool) where
  pub path_start : low < length nodes → IsOnPath nodes low old old (Some low)
  path_start inside = record {
    sound = λ n h. inl h;
    kept = λ n h. h;
    reached = λ n w. inr (low, refl, w);
    next = λ m is. (let same : low ≡ m = cc in (rw (← same) inside, inl same));
  }

  -- one node up
  pub path_more : (was new : ℕ → Bool) (node : ℕ) → IsOnPath nodes low old was (Some node) → ((n : ℕ) → IsTrue (new n) ↔ (IsTrue (was n) ⊎ (n ≡ node))) → IsOnPath nodes low old new (parent_of nodes node)
  path_more was new node path more = record {
    sound = λ n h. elim ((more n).0 h) [
      | inl w ↦ elim (path.sound n w) [
        | inl o ↦ inl o
        | inr (within, after) ↦ inr (within, (λ m is. let first = parent_less nodes tree node m is in let less = after node refl in omega arith))
      ]
      | inr same ↦ inr ((let P : ℕ → Type 0 = λ x. IsWithin nodes low x in subst P (sym same) (path.next node refl).1), (λ m is. let first = parent_less nodes tree node m is in omega arith))
    ];
    kept = λ n h. (more n).1 (inl (path.kept n h));
    reached = λ n w. elim (path.reached n w) [
      | inl h ↦ inl ((more n).1 (inl h))
      | inr (m, is, within) ↦ (let same : node ≡ m = cc in elim within [
        | inl e ↦ inl ((more n).1 (inr (sym (same ∙ e))))
        | inr below ↦ (let P : ℕ → Type 0 = λ x. IsBelow nodes x n in
            let (p, c, up) = above_child nodes node n (subst P (sym same) below) in inr (p, c, up))
      ])
    ];
    next = λ m is. (parent_inside nodes tree node m is, inr (within_parent nodes low node m (path.next node refl).1 is));
  }

  -- at the end of the way
  pub path_all : (new : ℕ → Bool) → IsOnPath nodes low old new None → (n : ℕ) → IsTrue (new n) ↔ (IsTrue (old n) ⊎ IsWithin nodes low n)
  path_all new path n = (
    (λ h. elim (path.sound n h) [ inl o ↦ inl o | inr w ↦ inr w.0 ]),
    (λ h. elim h [
      | inl o ↦ path.kept n o
      | inr w ↦ elim (path.reached n w) [ inl there ↦ there | inr (m, is, within) ↦ absurd cc ]
    ]),
  )

  -- with a parent for each member, the nodes above a member are members
  parents_up : HasParents nodes old → (m n : ℕ) → IsTrue (old m) → IsWithin nodes m n → IsTrue (old n)
  parents_up parents m n h (inl same) = let P : ℕ → Type 0 = λ x. IsTrue (old x) in subst P same h
  parents_up parents m n h (inr (child l0 h0 c)) = parents m n h c
  parents_up parents m n h (inr (further l0 p h0 c b)) = parents_up parents p n (parents m p h c) (inr b)

  -- at a node that was there before
  pub path_met : (new : ℕ → Bool) (node : ℕ) → HasParents nodes old → IsOnPath nodes low old new (Some node) → IsTrue (new node) → (n : ℕ) → IsTrue (new n) ↔ (IsTrue (old n) ⊎ IsWithin nodes low n)
  path_met new node parents path met n = (
    (λ h. elim (path.sound n h) [ inl o ↦ inl o | inr w ↦ inr w.0 ]),
    (λ h. elim h [
      | inl o ↦ path.kept n o
      | inr w ↦ elim (path.reached n w) [
        | inl there ↦ there
        | inr (m, is, within) ↦ (let same : node ≡ m = cc in
            let P : ℕ → Type 0 = λ x. IsWithin nodes x n in
            elim (path.sound node met) [
              | inl o ↦ path.kept n (parents_up parents node n o (subst P (sym same) within))
              | inr (w', after) ↦ absurd (let less = after node refl in omega arith)
            ])
      ]
    ]),
  )

-- the nodes that lead to goals, with one goal more
pub leads_more : (nodes : List Node) (goals : List ℕ) (i n : ℕ) (old new : Bool) → i < length goals → IsTrue old ↔ LeadsToGoal nodes (take i goals) n → IsTrue new ↔ (IsTrue old ⊎ IsWithin nodes (get_or goals i 0) n) → IsTrue new ↔ LeadsToGoal nodes (take (i + 1) goals) n
leads_more nodes goals i n old new inside was more = (
  (λ h. elim (more.0 h) [
    | inl o ↦ (let (g, has, w) = was.0 o in (g, (front_more goals i g inside).1 (inl has), w))
    | inr w ↦ (get_or goals i 0, (front_more goals i (get_or goals i 0) inside).1 (inr refl), w)
  ]),
  (λ (g, has, w). more.1 (elim ((front_more goals i g inside).0 has) [
    | inl before ↦ inl (was.1 (g, before, w))
    | inr last ↦ inr (let P : ℕ → Type 0 = λ x. IsWithin nodes x n in subst P last w)
  ])),
)

-- each node that leads to a goal has a parent that does
pub leads_parents : (nodes : List Node) (goals : List ℕ) (has : ℕ → Bool) → ((n : ℕ) → IsTrue (has n) ↔ LeadsToGoal nodes goals n) → HasParents nodes has
leads_parents nodes goals has tells = λ n p h c. (tells p).1 (let (g, in-goals, w) = (tells n).0 h in (g, in-goals, inr (within_parent nodes g n p w c)))

pub not_greater : (k q : ℕ) → is_gt (nat_cmp k q) ≡ false → k ≤ q
not_greater k q h = grind (arith, nat_tests)

-- the first of the members tells whether one is below a node before all of them
pub first_tells : (nodes : List Node) → IsTree nodes → (has : ℕ → Bool) (high k : ℕ) (b : Bool) → ((n : ℕ) → IsTrue (has n) → high < n) → IsTrue (has k) → ((n : ℕ) → IsTrue (has n) → is_gt (nat_cmp k n) ≡ false)
    → IsTrue b ↔ IsBelow nodes k high → IsTrue b ↔ HasBelow nodes has high
first_tells nodes tree has high k b after member least tells = (
  (λ yes. (k, member, tells.0 yes)),
  (λ (x, h, below). tells.1 (elim (cases_eq k x) [
    | inl same ↦ (let P : ℕ → Type 0 = λ y. IsBelow nodes y high in subst P (sym same) below)
    | inr apart ↦ (let upto = not_greater k x (least x h) in subtrees_are_runs nodes tree.outline x high k below (after k member) (omega arith))
  ])),
)

pub on_ok_weaker : {X E : Type 0} {P Q : Type 0} (r : Result X E) → OnOk r P → (P → Q) → OnOk r Q
on_ok_weaker (Ok x) p f = f p
on_ok_weaker (Err e) p f = tt

-- what a compound node enters by default
pub compound_enters : (nodes : List Node) → IsTree nodes → (has : ℕ → Bool) (node start n : ℕ) → kind_of nodes node ≡ Some (Compound start) → EntersFrom nodes has node n ↔ ((n ≡ start) × ¬ HasBelow nodes has node)
compound_enters nodes tree has node start n of = (
  (λ (c, how). elim how [
    | inl parallel ↦ absurd cc
    | inr (compound, off) ↦ ((let same : n ≡ start = cc in same), off)
  ]),
  (λ (same, off). (
    (let P : ℕ → Type 0 = λ x. IsChild nodes x node in subst P (sym same) (initial_child nodes tree node start of)),
    inr ((let P : ℕ → Type 0 = λ x. kind_of nodes node ≡ Some (Compound x) in subst P (sym same) of), off),
  )),
)
