-- Induction over values: what holds of a value whose parts have it holds of each value.
use Rattle.std.proofs.Common.{◌≡◌, ℕ, List, [], ◌∷◌, map, refl, ap, subst}
use Rattle.std.specs.Prelude.{⊤}
use Rattle.std.specs.List.{AllByRecursion}
use Rattle.xs_model.specs.declared.value.Value.{Value, out-Value}
use Rattle.xs_model.specs.declared.value.Value.TheFolds.{ind-Value, map-Value, every-Value, every_held-Value, every_made-Value}
use Rattle.xs_model.specs.declared.value.Value.TheOpen.{Value-F}
use Rattle.xs_model.specs.declared.value.Value.TheViews.{roll-Value}

-- P holds of each part of the layer
abbrev pub Parts : (Value → Type 0) → Value-F Value → Type 0
Parts P (Value-F.List members) = AllByRecursion P members
Parts P (Value-F.Map members) = AllByRecursion (λ (m : List ℕ × Value). P m.1) members
Parts P _ = ⊤

module _ (P : Value → Type 0) where
  abbrev Proved : Type 0
  Proved = (v : Value) × P v

  all_members : (ps : List Proved) → AllByRecursion P (map (λ e. e.0) ps)
  all_members [] = tt
  all_members (p ∷ ps) = (p.1, all_members ps)

  all_values : (ps : List (List ℕ × Proved)) → AllByRecursion (λ (m : List ℕ × Value). P m.1) (map (λ (e : List ℕ × Proved). (e.0, e.1.0)) ps)
  all_values [] = tt
  all_values (p ∷ ps) = (p.1.1, all_values ps)

  parts_of : (x : Value-F Proved) → Parts P (map-Value Proved Value (λ e. e.0) x)
  parts_of Value-F.Null = tt
  parts_of (Value-F.Bool b) = tt
  parts_of (Value-F.Int n) = tt
  parts_of (Value-F.Text text) = tt
  parts_of (Value-F.List ps) = all_members ps
  parts_of (Value-F.Map ps) = all_values ps

  pub by_parts : ((x : Value-F Value) → Parts P x → P (roll-Value x)) → (v : Value) → P v
  by_parts step = ind-Value P (λ x y is. step x (subst (Parts P) is (parts_of y)))

  proved : (xs : List Value) → AllByRecursion P xs → List Proved
  proved [] all = []
  proved (x ∷ xs) all = (x, all.0) ∷ proved xs all.1

  proved_firsts : (xs : List Value) (all : AllByRecursion P xs) → map (λ e. e.0) (proved xs all) ≡ xs
  unfolding proved
  proved_firsts [] all = refl
  proved_firsts (x ∷ xs) all = ap (λ rest. x ∷ rest) (proved_firsts xs all.1)

  proved_pairs : (ms : List (List ℕ × Value)) → AllByRecursion (λ (m : List ℕ × Value). P m.1) ms → List (List ℕ × Proved)
  proved_pairs [] all = []
  proved_pairs (m ∷ ms) all = (m.0, (m.1, all.0)) ∷ proved_pairs ms all.1

  proved_pairs_firsts : (ms : List (List ℕ × Value)) (all : AllByRecursion (λ (m : List ℕ × Value). P m.1) ms) → map (λ (e : List ℕ × Proved). (e.0, e.1.0)) (proved_pairs ms all) ≡ ms
  unfolding proved_pairs
  proved_pairs_firsts [] all = refl
  proved_pairs_firsts (m ∷ ms) all = ap (λ rest. m ∷ rest) (proved_pairs_firsts ms all.1)

-- what holds of each layer of a value holds of each layer of its parts
pub parts_every : (Q : Value-F Value → Type 0) (v : Value) → every-Value Q v → Parts (every-Value Q) (out-Value v)
parts_every Q v all = let held = every_held-Value Q v all in subst (Parts (every-Value Q)) held.1 (parts_of (every-Value Q) held.0)

-- and what holds of each layer of its parts and of its own holds of each layer of the value
pub every_from_parts : (Q : Value-F Value → Type 0) (x : Value-F Value) → Q x → Parts (every-Value Q) x → every-Value Q (roll-Value x)
every_from_parts Q Value-F.Null here parts = every_made-Value Q Value-F.Null Value-F.Null refl here
every_from_parts Q (Value-F.Bool b) here parts = every_made-Value Q (Value-F.Bool b) (Value-F.Bool b) refl here
every_from_parts Q (Value-F.Int n) here parts = every_made-Value Q (Value-F.Int n) (Value-F.Int n) refl here
every_from_parts Q (Value-F.Text text) here parts = every_made-Value Q (Value-F.Text text) (Value-F.Text text) refl here
every_from_parts Q (Value-F.List xs) here parts =
    every_made-Value Q (Value-F.List xs) (Value-F.List (proved (every-Value Q) xs parts)) (ap Value-F.List (proved_firsts (every-Value Q) xs parts)) here
every_from_parts Q (Value-F.Map ms) here parts =
    every_made-Value Q (Value-F.Map ms) (Value-F.Map (proved_pairs (every-Value Q) ms parts)) (ap Value-F.Map (proved_pairs_firsts (every-Value Q) ms parts)) here
