-- The test of equality decides whether both values are the same.
use Rattle.std.proofs.Common.{◌≡◌, ℕ, Bool, true, false, ◌&&◌, List, [], ◌∷◌, map, bytes_eq, Decides, refl, sym, ap, ◌∙◌}
use Rattle.std.specs.List.{AllByRecursion}
use Rattle.std.proofs.lemmas.Bool.Decides.{Decides-int_eq, Decides-at}
use Rattle.std.proofs.lemmas.Slice.Eq.{bytes_eq-Decides}
use Rattle.xs_model.proofs.PartLemmas.{Parts, by_parts}
use Rattle.xs_model.proofs.SameLemmas.{member_same, map-both_pass}
use Rattle.xs_model.specs.Equality.{pass_in_turn, same_layer, same}
use Rattle.xs_model.specs.declared.value.Value.{Value, out-Value}
use Rattle.xs_model.specs.declared.value.Value.TheFolds.{map-Value, fold-roll-Value}
use Rattle.xs_model.specs.declared.value.Value.TheOpen.{Value-F}
use Rattle.xs_model.specs.declared.value.Value.TheViews.{roll-Value, roll-out-Value, out-roll-Value}

-- the test of x against another is true exactly where the other is x
abbrev Tests : {X : Type 0} → (X → X → Bool) → X → Type 0
Tests {X} f x = (y : X) → Decides (f x y) (x ≡ y)

module _ {X : Type 0} where
  both_decide : (s t : Bool) (x y : X) (xs ys : List X) → Decides s (x ≡ y) → Decides t (xs ≡ ys) → Decides (s && t) (x ∷ xs ≡ y ∷ ys)
  both_decide true true x y xs ys p q = (λ e i. p.0 refl i ∷ q.0 refl i, λ e. refl)
  both_decide true false x y xs ys p q = (λ e. cc, λ e. q.1 cc)
  both_decide false t x y xs ys p q = (λ e. cc, λ e. p.1 cc)

  tests_decide : (f : X → X → Bool) (xs ys : List X) → AllByRecursion (Tests f) xs → Decides (pass_in_turn (map f xs) ys) (xs ≡ ys)
  tests_decide f [] [] all = (λ e. refl, λ e. refl)
  tests_decide f [] (y ∷ ys) all = (λ e. cc, λ e. cc)
  tests_decide f (x ∷ xs) [] all = (λ e. cc, λ e. cc)
  tests_decide f (x ∷ xs) (y ∷ ys) all = both_decide (f x y) (pass_in_turn (map f xs) ys) x y xs ys (all.0 y) (tests_decide f xs ys all.1)

abbrev Member : Type 0
Member = List ℕ × Value

pair_decides : (s t : Bool) (m n : Member) → Decides s (m.0 ≡ n.0) → Decides t (m.1 ≡ n.1) → Decides (s && t) (m ≡ n)
pair_decides true true m n p q = (λ e i. (p.0 refl i, q.0 refl i), λ e. refl)
pair_decides true false m n p q = (λ e. cc, λ e. q.1 (ap (λ (x : Member). x.1) e))
pair_decides false t m n p q = (λ e. cc, λ e. p.1 (ap (λ (x : Member). x.0) e))

members_test : (ms : List Member) → AllByRecursion (λ (m : Member). Tests same m.1) ms → AllByRecursion (Tests member_same) ms
members_test [] all = tt
members_test (m ∷ ms) all = (λ n. pair_decides (bytes_eq m.0 n.0) (same m.1 n.1) m n (bytes_eq-Decides m.0 n.0) (all.0 n.1), members_test ms all.1)

-- a variant's one part decides whether two of the variant are the same
inside : {X : Type 0} (make : X → Value-F Value) (t : Bool) (x y : X) → (make x ≡ make y → x ≡ y) → Decides t (x ≡ y) → Decides t (make x ≡ make y)
inside make t x y injective d = (λ e. ap make (d.0 e), λ e. d.1 (injective e))

layers_decide : (x y : Value-F Value) → Parts (Tests same) x → Decides (same_layer (map-Value Value (Value → Bool) same x) y) (x ≡ y)
layers_decide Value-F.Null Value-F.Null parts = (λ e. refl, λ e. refl)
layers_decide (Value-F.Bool true) (Value-F.Bool true) parts = (λ e. refl, λ e. refl)
layers_decide (Value-F.Bool true) (Value-F.Bool false) parts = (λ e. cc, λ e. cc)
layers_decide (Value-F.Bool false) (Value-F.Bool true) parts = (λ e. cc, λ e. cc)
layers_decide (Value-F.Bool false) (Value-F.Bool false) parts = (λ e. refl, λ e. refl)
layers_decide (Value-F.Int m) (Value-F.Int n) parts = inside Value-F.Int _ m n (λ e. cc) (Decides-int_eq m n)
layers_decide (Value-F.Text s) (Value-F.Text t) parts = inside Value-F.Text _ s t (λ e. cc) (bytes_eq-Decides s t)
layers_decide (Value-F.List xs) (Value-F.List ys) parts = inside Value-F.List _ xs ys (λ e. cc) (tests_decide same xs ys parts)
layers_decide (Value-F.Map xs) (Value-F.Map ys) parts =
    inside Value-F.Map _ xs ys (λ e. cc) (Decides-at _ _ (ap (λ tests. pass_in_turn tests ys) (map-both_pass xs)) (tests_decide member_same xs ys (members_test xs parts)))
layers_decide x y parts = (λ e. cc, λ e. cc)

pub same_decides : (a b : Value) → Decides (same a b) (a ≡ b)
same_decides = by_parts (Tests same) (λ x parts b.
    let layer = layers_decide x (out-Value b) parts in
    let opened : same (roll-Value x) b ≡ same_layer (map-Value Value (Value → Bool) same x) (out-Value b) =
    ap (λ (test : Value → Bool). test b) (fold-roll-Value (Value → Bool) (λ layer value. same_layer layer (out-Value value)) x) in
    (λ e. ap roll-Value (layer.0 (sym opened ∙ e)) ∙ roll-out-Value b, λ e. opened ∙ layer.1 (sym (out-roll-Value x) ∙ ap out-Value e)))

-- what the test answers decides it too
pub decided : (r : Bool) (a b : Value) → r ≡ same a b → Decides r (a ≡ b)
decided r a b e = Decides-at r (same a b) e (same_decides a b)
