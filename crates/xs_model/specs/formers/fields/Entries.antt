-- How `Entries` stores what it holds, so that a type may hold itself through it: as a vector of pairs does.
use Rattle.std.specs.Prelude.{◌≡◌, ℕ, List, [], ◌∷◌, map}
use mathlib.Core.Path.{refl, sym, ap, subst}
use mathlib.Core.Former.{Former, this, const, pair, list, via, children}
use base.Stored.{code_map, coded×, gcons}
use denote.RattleType.{RattleType}
use denote.Struct.Tuple.{Tuple, tuple_type}
use denote.HoleLaws.{Alike}
use denote.HolePlaces.{Recodes, struct_places, laid, stays}
use denote.Hole.Carrier.{listed}
use denote.Hole.Fix.{over}
use denote.Param.Weighed.{Weighed, w_list, w_pair, w_const}
use denote.Model.Placed.{view_places}
use Rattle.std.specs.Map.{keys_of, values_of}
use Rattle.std.specs.Ordering.{nat_cmp}
use Rattle.std.specs.Cmp.Lexicographic.{slice_cmp}
use Rattle.std.specs.List.Sorted.{IsStrictlySortedBy, IsStrictlySortedBy-prop}
use Rattle.std.specs.formers.vec.Vec as vec
use Rattle.std.specs.declared.alloc.Global.{Global}
use Rattle.std.specs.contracts.alloc.Global as heap
use Rattle.std.specs.contracts.impls.GlobalAllocator.TheImpl.{ghosts}
use Rattle.xs_data.specs.contracts.text.Text as text
use Rattle.xs_model.specs.declared.fields.Entries.TheInside.{Inside}
use Rattle.xs_model.specs.declared.fields.Entries.TheView.{view, invariant}
use Rattle.xs_model.specs.contracts.fields.Entries as row
use Rattle.xs_model.specs.contracts.fields.Entries.TheInside as inside

abbrev pub Key : Type 0
Key = List ℕ

-- a value is a list of keys, each with what is held under it
abbrev pub the_former : Former {0} → Former {0}
the_former held = list (pair (const Key) held)

abbrev pub the_weighed : {held : Former {0}} → Weighed held → Weighed (the_former held)
the_weighed weight = w_list (w_pair (w_const Key) weight)

abbrev pub the_empty : List (Key × ⊥)
the_empty = []

-- what is held, in the order of the keys
abbrev pub the_items : (X : Type 0) → List (Key × X) → List X
the_items X pairs = values_of pairs

pub the_items_listed : (X : Type 0) (pairs : List (Key × X)) → listed _ (children (the_former this) X pairs) ≡ the_items X pairs
the_items_listed X [] = refl
the_items_listed X (p ∷ pairs) = ap (λ values. p.1 ∷ values) (the_items_listed X pairs)

-- the one field is a vector of pairs
abbrev fields : Former {0}
fields = via (vec.the_former (pair (const Key) this) Global) Inside (λ X a. a.pairs) (λ X v. record { pairs = v }) (λ X a. refl) (λ X v. refl)

abbrev on_value : {X Y : Type 0} → (X → Y) → Key × X → Key × Y
on_value h p = (p.0, h p.1)

keys_on_values : {X Y : Type 0} (h : X → Y) (pairs : List (Key × X)) → keys_of (map (on_value h) pairs) ≡ keys_of pairs
keys_on_values h [] = refl
keys_on_values h (p ∷ pairs) = ap (λ keys. p.0 ∷ keys) (keys_on_values h pairs)

abbrev Sorted : List Key → Type 0
Sorted = IsStrictlySortedBy (slice_cmp nat_cmp)

-- the pairs of a key and a value of R
abbrev pair_of : RattleType → List RattleType
pair_of R = text.the_row ∷ R ∷ []

module _ (R S : RattleType) (h : R.Denot → S.Denot) where
  pair_places : Alike R S h → Alike (Tuple (pair_of R)) (Tuple (pair_of S)) (on_value h)
  pair_places alike = struct_places (tuple_type (pair_of R)) (tuple_type (pair_of S)) ((λ k. k), (h, tt)) (on_value h) (λ d. refl) refl
      (stays text.the_row, (laid _ _ _ alike, tt))

  pub the_places : Alike R S h → Alike (row.the_row R) (row.the_row S) ((the_former this).map R.Denot S.Denot h)
  the_places alike = view_places fields (the_former this) view (λ X Y k u. refl) (λ X u. refl) R.Denot S.Denot h (row.the_row R).coded (row.the_row S).coded
      (invariant R.Denot) (invariant S.Denot) (λ u. IsStrictlySortedBy-prop (slice_cmp nat_cmp) _) (λ u. IsStrictlySortedBy-prop (slice_cmp nat_cmp) _)
      (λ u s. subst Sorted (sym (keys_on_values h u.pairs.items)) s) (λ u s. subst Sorted (keys_on_values h u.pairs.items) s)
      (over (inside.the_row R)) (over (inside.the_row S))
      (struct_places (inside.the_type R) (inside.the_type S) (vec.mapped (on_value h), tt) _ (λ d. refl) refl
      (laid _ _ _ (vec.the_places heap.the_row ghosts (Tuple (pair_of R)) (Tuple (pair_of S)) (on_value h) (pair_places alike)), tt))

  pub the_codes_placed : Recodes R S h → Recodes (row.the_row R) (row.the_row S) ((the_former this).map R.Denot S.Denot h)
  the_codes_placed recodes pairs =
      sym (code_map (coded× text.the_row.coded R.coded).code (coded× text.the_row.coded S.coded).code (on_value h) (λ p i. gcons (text.the_row.coded.code p.0) (sym (recodes p.1) i)) pairs)
