-- The least place of a use for which nothing stands.
use Rattle.std.proofs.Common.{◌≡◌, ℕ, zero, suc, ◌+◌, ◌<◌, ◌≤◌, min, inl, inr, List, [], ◌∷◌, ◌++◌, Option, None, Some, length, map, take, get_or, refl, sym, ap, ◌∙◌, subst, arith, rules}
use Rattle.std.specs.Prelude.{is_some, slice_get}
use Rattle.std.specs.List.{Contains, flat_map}
use Rattle.std.proofs.lemmas.List.{flat_map_more, take_all}
use Rattle.std.proofs.lemmas.List.Elements.{Contains-append_cases, Contains-append_left, Contains-append_right, Contains-push}
use Rattle.std.proofs.lemmas.Option.{get_or_from_slice_get, slice_get_within}
use Rattle.xs_model.specs.Rising.{get}
use Rattle.machine_json.specs.declared.machine.Machine.{Machine}
use Rattle.machine_json.specs.declared.machine.Named.{Named}
use Rattle.machine_json.specs.declared.machine.UnlinkedGuard.{UnlinkedGuard, the_lemmas as guard_lemmas}
use Rattle.machine_json.specs.declared.machine.UnlinkedGuard.TheVariants as guard
use Rattle.xs_model.specs.declared.expr.Expr.{Expr}
use Rattle.action_table.specs.declared.table.Table.{Table}
use Rattle.action_table.specs.declared.table.UnlinkedForm.{the_lemmas as form_lemmas}
use Rattle.action_table.specs.declared.table.UnlinkedForm.TheVariants as form
use Rattle.action_table.specs.declared.table.UnlinkedItem.{UnlinkedItem}
use Rattle.action_table.specs.declared.table.UnlinkedItem.TheVariants as item
use Rattle.action_table.specs.DefNames.{ids_of_machines}
use Rattle.action_table.specs.Linking.{actor_number, machine_number}
use Rattle.action_table.specs.TablePlaces.{IsLeastOf, least_of}
use Rattle.action_table.specs.Unnamed.{least_unnamed, place_unless, unnamed_at}
use Rattle.action_table.specs.Uses.{IsUnnamed, IsUnnamedUse, Use, uses, uses_of_form, uses_of_guard, uses_of_item}
use Rattle.action_table.proofs.FirstLemmas.{least-of}
use Rattle.action_table.proofs.ThereLemmas.{taken}

pub least-none : (o : Option ℕ) → least_of o None ≡ o
least-none None = refl
least-none (Some p) = refl

pub least-assoc : (a b c : Option ℕ) → least_of (least_of a b) c ≡ least_of a (least_of b c)
least-assoc None b c = refl
least-assoc (Some p) None c = refl
least-assoc (Some p) (Some q) None = refl
least-assoc (Some p) (Some q) (Some r) = let same : min (min p q) r ≡ min p (min q r) = omega arith in ap Some same

-- ---- one use more

module _ (ids : List (List ℕ × ℕ)) (table : Table) where
  pub unnamed-append : (us vs : List Use) → least_unnamed ids table (us ++ vs) ≡ least_of (least_unnamed ids table us) (least_unnamed ids table vs)
  unnamed-append [] vs = refl
  unnamed-append (u ∷ us) vs =
      ap (least_of (unnamed_at ids table u)) (unnamed-append us vs)
      ∙ sym (least-assoc (unnamed_at ids table u) (least_unnamed ids table us) (least_unnamed ids table vs))

  pub one-use : (used : Use) → least_unnamed ids table (used ∷ []) ≡ unnamed_at ids table used
  one-use used = least-none (unnamed_at ids table used)

  pub unnamed-more : {X : Type 0} (uses_of : X → List Use) (xs : List X) (i : ℕ) (x : X) (least found : Option ℕ) → i < length xs → x ≡ get_or xs i x
      → least ≡ least_unnamed ids table (flat_map uses_of (take i xs)) → found ≡ least_unnamed ids table (uses_of x)
      → least_of least found ≡ least_unnamed ids table (flat_map uses_of (take (i + 1) xs))
  unnamed-more uses_of xs i x least found below is sofar here =
      ap (λ o. least_of o found) sofar ∙ ap (least_of (least_unnamed ids table (flat_map uses_of (take i xs)))) here
      ∙ sym (ap (λ l. least_unnamed ids table (flat_map uses_of l)) (taken xs i x below is)
      ∙ ap (least_unnamed ids table) (sym (flat_map_more uses_of [] (take i xs) x))
      ∙ unnamed-append (flat_map uses_of (take i xs)) (uses_of x))

  pub unnamed-all : {X : Type 0} (uses_of : X → List Use) (xs : List X) (i : ℕ) (least : Option ℕ) → length xs ≤ i
      → least ≡ least_unnamed ids table (flat_map uses_of (take i xs)) → least ≡ least_unnamed ids table (flat_map uses_of xs)
  unnamed-all uses_of xs i least past sofar = sofar ∙ ap (λ l. least_unnamed ids table (flat_map uses_of l)) (take_all i xs past)

  -- likewise where the use is found by its place
  pub unnamed-more-at : {X : Type 0} (uses_of : X → List Use) (xs : List X) (i : ℕ) (x : X) (least found : Option ℕ) → slice_get xs i ≡ Some x
      → least ≡ least_unnamed ids table (flat_map uses_of (take i xs)) → found ≡ least_unnamed ids table (uses_of x)
      → least_of least found ≡ least_unnamed ids table (flat_map uses_of (take (i + 1) xs))
  unnamed-more-at uses_of xs i x least found at sofar here =
      unnamed-more uses_of xs i x least found (slice_get_within xs i x at) (sym (get_or_from_slice_get xs i x x at)) sofar here

  pub six-joined : (a b c d e f : List Use) → least_unnamed ids table (a ++ b ++ c ++ d ++ e ++ f)
      ≡ least_of (least_of (least_of (least_of (least_of (least_unnamed ids table a) (least_unnamed ids table b)) (least_unnamed ids table c)) (least_unnamed ids table d)) (least_unnamed ids table e)) (least_unnamed ids table f)
  six-joined a b c d e f = rw (unnamed-append (a ++ b ++ c ++ d ++ e) f, unnamed-append (a ++ b ++ c ++ d) e, unnamed-append (a ++ b ++ c) d, unnamed-append (a ++ b) c, unnamed-append a b) refl

-- ---- the uses of guards and forms, by their parts

joined : {X : Type 0} (uses_of : X → List Use) (xs : List X) → flat_map (λ (us : List Use). us) (map uses_of xs) ≡ flat_map uses_of xs
joined uses_of [] = refl
joined uses_of (x ∷ xs) = ap (λ us. uses_of x ++ us) (joined uses_of xs)

pub uses-And : (parts : List UnlinkedGuard) → uses_of_guard (guard.And parts) ≡ flat_map uses_of_guard parts
uses-And parts =
    let layer : uses_of_guard (guard.And parts) ≡ flat_map (λ (us : List Use). us) (map uses_of_guard parts) = search (rules, guard_lemmas) in
    layer ∙ joined uses_of_guard parts

pub uses-Or : (parts : List UnlinkedGuard) → uses_of_guard (guard.Or parts) ≡ flat_map uses_of_guard parts
uses-Or parts =
    let layer : uses_of_guard (guard.Or parts) ≡ flat_map (λ (us : List Use). us) (map uses_of_guard parts) = search (rules, guard_lemmas) in
    layer ∙ joined uses_of_guard parts

pub uses-SpawnChild : (src : Named) (id input system : Option Expr) → uses_of_form (form.SpawnChild src id input system) ≡ Use.OfActor src ∷ []
uses-SpawnChild src id input system = search (rules, form_lemmas)

pub uses-EnqueueActions : (items : List UnlinkedItem) → uses_of_form (form.EnqueueActions items) ≡ flat_map uses_of_item items
uses-EnqueueActions items =
    let layer : uses_of_form (form.EnqueueActions items) ≡ flat_map (λ (us : List Use). us) (map uses_of_item items) = search (rules, form_lemmas) in
    layer ∙ joined uses_of_item items

pub uses-If : (test : Expr) (then_items else_items : List UnlinkedItem) → uses_of_item (item.If test then_items else_items) ≡ flat_map uses_of_item then_items ++ flat_map uses_of_item else_items
uses-If test then_items else_items =
    let layer : uses_of_item (item.If test then_items else_items)
    ≡ flat_map (λ (us : List Use). us) (map uses_of_item then_items) ++ flat_map (λ (us : List Use). us) (map uses_of_item else_items) = search (rules, form_lemmas) in
    layer ∙ ap (λ us. us ++ flat_map (λ (us : List Use). us) (map uses_of_item else_items)) (joined uses_of_item then_items)
    ∙ ap (λ us. flat_map uses_of_item then_items ++ us) (joined uses_of_item else_items)

-- ---- what the least place means

module _ (machines : List Machine) (table : Table) where
  abbrev ids : List (List ℕ × ℕ)
  ids = ids_of_machines machines

  place-least : {A : Type 0} (o : Option A) (named : Named) → IsLeastOf (λ (place : ℕ). (o ≡ None) × (place ≡ named.place)) (place_unless (is_some o) named)
  place-least None named = record { there = (refl, refl); no_earlier = λ other it. omega (arith, it.1) }
  place-least (Some a) named = λ place it. let never : Some a ≡ None = it.0 in absurd (cc)

  use-least : (used : Use) → IsLeastOf (IsUnnamedUse machines table used) (unnamed_at ids table used)
  use-least (Use.OfGuard named) = place-least (get named.name table.guards) named
  use-least (Use.OfAction named) = place-least (get named.name table.actions) named
  use-least (Use.OfDelay named) = place-least (get named.name table.delays) named
  use-least (Use.OfActor named) = place-least (actor_number table named.name) named
  use-least (Use.OfMachine named) = place-least (machine_number ids named.name) named

  -- one of these is used at the place, and nothing stands for it
  abbrev IsUnnamedIn : List Use → ℕ → Type 0
  IsUnnamedIn us place = (used : Use) × Contains us used × IsUnnamedUse machines table used place

  none-contained : (used : Use) → Contains [] used → ⊥
  none-contained used in_none = omega (arith, in_none.1)

  only-contained : (u used : Use) → Contains (u ∷ []) used → u ≡ used
  only-contained u used (zero, within, is) = is
  only-contained u used (suc k, within, is) = absurd (omega (arith, within))

  uses-least : (us : List Use) → IsLeastOf (IsUnnamedIn us) (least_unnamed ids table us)
  uses-least [] = λ place it. none-contained it.0 it.1
  uses-least (u ∷ us) =
      least-of (IsUnnamedUse machines table u) (IsUnnamedIn us) (IsUnnamedIn (u ∷ us)) (unnamed_at ids table u) (least_unnamed ids table us) (use-least u) (uses-least us)
      (λ place it. (u, Contains-append_left (u ∷ []) us u (Contains-push [] u), it))
      (λ place it. (it.0, Contains-append_right (u ∷ []) us it.0 it.1, it.2))
      (λ place it. elim (Contains-append_cases (u ∷ []) us it.0 it.1) [
        | inl first ↦ inl (subst (λ w. IsUnnamedUse machines table w place) (sym (only-contained u it.0 first)) it.2)
        | inr later ↦ inr (it.0, later, it.2)
      ])

  pub unnamed-least : IsLeastOf (IsUnnamed machines table) (least_unnamed ids table (uses machines table))
  unnamed-least = uses-least (uses machines table)
