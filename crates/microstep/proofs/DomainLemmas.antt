-- Each transition has a domain.
use Rattle.std.proofs.Common.{◌≡◌, ◌⊎◌, ◌<◌, ℕ, zero, suc, Bool, true, false, List, [], ◌∷◌, Option, Some, None, refl, sym, subst, arith, inl, inr}
use Rattle.std.specs.List.{All}
use Rattle.std.proofs.lemmas.Bool.{cases_eq}
use Rattle.std.proofs.lemmas.List.Elements.{All-cons, All-nil}
use Rattle.node_tree.specs.Kinds.{Nodes}
use Rattle.node_tree.specs.Nodes.{IsBelow, IsChild, IsTree, IsWithin, child, parent_of}
use Rattle.step_sets.specs.declared.types.Domain.{Domain}
use Rattle.step_sets.specs.declared.types.Domain.TheVariants.{Node}
use Rattle.step_sets.specs.Domains.{Arrow, IsCommonAncestor, IsDomain, IsInnermostAncestor, IsInternal, internal, innermost, none, outermost_of}
use Rattle.step_sets.proofs.TreeLemmas.{above_child, above_parent, below_trans, decide_below, parent_less}

decide-within : (nodes : Nodes) → IsTree nodes → (a b : ℕ) → IsWithin nodes a b ⊎ ¬ IsWithin nodes a b
decide-within nodes tree a b =
    elim (cases_eq a b) [
      | inl same ↦ inl (inl same)
      | inr apart ↦ elim (decide_below nodes tree a b) [
        | inl below ↦ inl (inr below)
        | inr out ↦ inr (λ within. elim within [ inl same ↦ apart same | inr below ↦ out below ])
      ]
    ]

decide-each : (P : ℕ → Type 0) → ((n : ℕ) → P n ⊎ ¬ P n) → (xs : List ℕ) → All P xs ⊎ ¬ All P xs
decide-each P decide [] = inl (All-nil P)
decide-each P decide (x ∷ xs) =
    elim (decide x) [
      | inr out ↦ inr (λ all. out (all 0 0 (omega arith)))
      | inl here ↦ elim (decide-each P decide xs) [
        | inl rest ↦ inl (All-cons P x xs here rest)
        | inr out ↦ inr (λ all. out (λ k d inside. all (suc k) d (omega (arith, inside))))
      ]
    ]

decide-internal : (nodes : Nodes) → IsTree nodes → (source : ℕ) (targets : List ℕ) (reenter : Bool) → IsInternal nodes source targets reenter ⊎ ¬ IsInternal nodes source targets reenter
decide-internal nodes tree source targets true = inr (λ i. let is : true ≡ false = i.0 in cc)
decide-internal nodes tree source targets false =
    elim (decide-each (λ t. IsWithin nodes t source) (λ t. decide-within nodes tree t source) targets) [
      | inl all ↦ inl (refl, all)
      | inr out ↦ inr (λ i. out i.1)
    ]

module _ (nodes : Nodes) (tree : IsTree nodes) (source : ℕ) (targets : List ℕ) where
  below-parent : (low p : ℕ) → IsWithin nodes source low → IsChild nodes low p → IsBelow nodes source p
  below-parent low p (inl same) c = let P : ℕ → Type 0 = λ n. IsBelow nodes n p in subst P (sym same) (child low p c)
  below-parent low p (inr below) c = below_trans nodes source low p below (child low p c)

  -- the innermost common ancestor above a node that stands within none
  common-above : (fuel low : ℕ) → low < fuel → IsWithin nodes source low → ((b : ℕ) → IsCommonAncestor nodes source targets b → IsBelow nodes low b)
      → ((a : ℕ) × IsInnermostAncestor nodes source targets a) ⊎ ((a : ℕ) → ¬ IsCommonAncestor nodes source targets a)
  common-above zero low less within lower = absurd (omega (arith, less))
  common-above (suc fuel) low less within lower = by_parent (λ p before w l. common-above fuel p before w l) (parent_of nodes low) refl
    where
      by_parent : ((p : ℕ) → p < fuel → IsWithin nodes source p → ((b : ℕ) → IsCommonAncestor nodes source targets b → IsBelow nodes p b)
          → ((a : ℕ) × IsInnermostAncestor nodes source targets a) ⊎ ((a : ℕ) → ¬ IsCommonAncestor nodes source targets a))
          → (o : Option ℕ) → parent_of nodes low ≡ o → ((a : ℕ) × IsInnermostAncestor nodes source targets a) ⊎ ((a : ℕ) → ¬ IsCommonAncestor nodes source targets a)
      by_parent higher None is = inr (λ a common. let (p, c, w) = above_child nodes low a (lower a common) in cc)
      by_parent higher (Some p) c =
          let up = below-parent low p within c in
          let before = parent_less nodes tree low p c in
          elim (decide-each (λ t. IsBelow nodes t p) (λ t. decide_below nodes tree t p) targets) [
            | inl all ↦ inl (p, ((up, all), λ b common. above_parent nodes low p b c (lower b common)))
            | inr out ↦ higher p (omega (arith, less, before)) (inr up)
                (λ b common. elim (above_parent nodes low p b c (lower b common)) [
                  | inl same ↦ absurd (out (let P : ℕ → Type 0 = λ n. All (λ t. IsBelow nodes t n) targets in subst P (sym same) common.1))
                  | inr below ↦ below
                ])
          ]

-- a transition has a domain
pub domain-there : (nodes : Nodes) → IsTree nodes → (arrow : Arrow) → (domain : Domain) × IsDomain nodes arrow domain
domain-there nodes tree arrow =
    elim (decide-internal nodes tree arrow.source arrow.targets arrow.reenter) [
      | inl within ↦ (Node arrow.source, internal within)
      | inr out ↦ elim (common-above nodes tree arrow.source arrow.targets (suc arrow.source) arrow.source (omega arith) (inl refl) (λ b common. common.0)) [
        | inl (a, inner) ↦ (Node a, innermost out inner)
        | inr without ↦ (outermost_of arrow.reenter, none out without)
      ]
    ]
