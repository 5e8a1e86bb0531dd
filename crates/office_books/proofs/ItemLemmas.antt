-- Open items by their numbers.
use Rattle.std.proofs.Common.{◌≡◌, ℕ, ◌<◌, List, [], ◌∷◌, get_or, map, nat_eq, Some, None, refl, sym, arith}
use Rattle.std.specs.declared.cmp.Ordering.TheVariants.{Less}
use Rattle.std.specs.Ordering.{nat_cmp, is_eq}
use Rattle.std.specs.List.{All, AllByRecursion, remove}
use Rattle.std.proofs.lemmas.Bool.{lt-ltb}
use Rattle.std.proofs.lemmas.Bool.Decides.{nat_tests}
use Rattle.std.proofs.lemmas.Cmp.{nat_cmp_total}
use Rattle.std.proofs.lemmas.List.Elements.{All-head, All-tail}
use Rattle.office_types.specs.declared.office.Item.{Item}
use Rattle.office_types.specs.WorkItems.{item_of, without_item}
use Rattle.office_books.specs.Sorted.{IsAt, IsAbsentAt}
use Rattle.office_books.proofs.SortedLemmas.{removed_at, kept_gap, found, absent}

pub same_number : (a b : ℕ) → nat_eq b a ≡ is_eq (nat_cmp a b)
same_number a b = grind (arith, nat_tests)

pub less : (a b : ℕ) → a < b → nat_cmp a b ≡ Less
less a b h = rw (lt-ltb a b h) refl

abbrev number : Item → ℕ
number item = item.actor

pub above_all : (items : List Item) (actor : ℕ) → All (λ (other : Item). other.actor < actor) items → AllByRecursion (λ l. nat_cmp l actor ≡ Less) (map number items)
above_all [] actor above = tt
above_all (item ∷ items) actor above =
    let P : Item → Type 0 = λ other. other.actor < actor in
    (less item.actor actor (All-head P item items above), above_all items actor (All-tail P item items above))

module _ (items : List Item) (actor place : ℕ) where
  pub removed : IsAt nat_cmp actor place (map number items) → remove items place ≡ without_item actor items
  removed at = removed_at nat_cmp_total number actor (λ (item : Item). nat_eq item.actor actor) (λ item. same_number actor item.actor) items place at

  pub kept : IsAbsentAt nat_cmp actor place (map number items) → items ≡ without_item actor items
  kept gap = sym (kept_gap nat_cmp_total number actor (λ (item : Item). nat_eq item.actor actor) (λ item. same_number actor item.actor) items place gap)

  pub item_at : (d : Item) → IsAt nat_cmp actor place (map number items) → item_of actor items ≡ Some (get_or items place d)
  item_at d at = found nat_cmp_total number actor (λ (item : Item). nat_eq item.actor actor) (λ item. same_number actor item.actor) items place d at

  pub no_item : IsAbsentAt nat_cmp actor place (map number items) → item_of actor items ≡ None
  no_item gap = absent nat_cmp_total number actor (λ (item : Item). nat_eq item.actor actor) (λ item. same_number actor item.actor) items place gap
