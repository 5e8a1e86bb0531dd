-- What two puts do, and what is found after a put.
use Rattle.std.proofs.Common.{◌≡◌, ◌≢◌, ℕ, Bool, true, false, cond, List, [], ◌∷◌, Some, bytes_eq, refl, sym, ap, ◌∙◌}
use Rattle.std.specs.declared.cmp.Ordering.{Ordering}
use Rattle.std.specs.declared.cmp.Ordering.TheVariants.{Less, Equal, Greater}
use Rattle.std.specs.Ordering.{match_ordering, is_eq}
use Rattle.std.proofs.lemmas.Cmp.{nat_list_cmp_total, tied_itself}
use Rattle.std.proofs.lemmas.Map.Text.{is_eq-slice_cmp}
use Rattle.std.proofs.lemmas.Slice.Eq.{bytes_eq-Decides}
use Rattle.xs_model.proofs.RisingLemmas.{same_key, differs, same_bytes}
use Rattle.xs_model.specs.Laws.{LastPutWins}
use Rattle.xs_model.specs.Rising.{key_cmp, put, get}

other_key : (k l : List ℕ) → k ≢ l → bytes_eq k l ≡ false
other_key k l other = decided (bytes_eq k l) refl
  where
    decided : (t : Bool) → bytes_eq k l ≡ t → t ≡ false
    decided true e = absurd (other ((bytes_eq-Decides k l).0 e))
    decided false e = refl

abbrev Pairs : Type 0 → Type 0
Pairs X = List (List ℕ × X)

module _ {X : Type 0} where
  -- the pairs after a put, where p is the first and the order of the two keys is this
  abbrev placed : Ordering → List ℕ → X → List ℕ × X → Pairs X → Pairs X → Pairs X
  placed order key x p pairs rest = match_ordering order ((key, x) ∷ p ∷ pairs) ((p.0, x) ∷ pairs) (p ∷ rest)

  twice : (pairs : Pairs X) (key : List ℕ) (x y : X) → put (put pairs key x) key y ≡ put pairs key y
  twice [] key x y = rw (tied_itself nat_list_cmp_total key) refl
  twice (p ∷ pairs) key x y = cases (twice pairs key x y) (key_cmp key p.0) refl
    where
      cases : put (put pairs key x) key y ≡ put pairs key y → (o : Ordering) → key_cmp key p.0 ≡ o
          → put (placed o key x p pairs (put pairs key x)) key y ≡ placed o key y p pairs (put pairs key y)
      cases after Less e = rw (tied_itself nat_list_cmp_total key) refl
      cases after Equal e = rw e refl
      cases after Greater e = rw e (ap (λ rest. p ∷ rest) after)

  found : (pairs : Pairs X) (key : List ℕ) (x : X) → get key (put pairs key x) ≡ Some x
  found [] key x = rw (same_bytes key) refl
  found (p ∷ pairs) key x = cases (found pairs key x) (key_cmp key p.0) refl
    where
      cases : get key (put pairs key x) ≡ Some x → (o : Ordering) → key_cmp key p.0 ≡ o → get key (placed o key x p pairs (put pairs key x)) ≡ Some x
      cases after Less e = rw (same_bytes key) refl
      cases after Equal e = let same : bytes_eq key p.0 ≡ true = sym (is_eq-slice_cmp key p.0) ∙ ap is_eq e in rw same refl
      cases after Greater e = let other : bytes_eq key p.0 ≡ false = differs key p.0 Greater e refl in rw other after

  unchanged : (pairs : Pairs X) (key other : List ℕ) (x : X) → other ≢ key → get other (put pairs key x) ≡ get other pairs
  unchanged [] key other x apart = rw (other_key other key apart) refl
  unchanged (p ∷ pairs) key other x apart = cases (unchanged pairs key other x apart) (key_cmp key p.0) refl
    where
      cases : get other (put pairs key x) ≡ get other pairs → (o : Ordering) → key_cmp key p.0 ≡ o → get other (placed o key x p pairs (put pairs key x)) ≡ get other (p ∷ pairs)
      cases after Less e = rw (other_key other key apart) refl
      cases after Equal e = let not_p : bytes_eq other p.0 ≡ false = other_key other p.0 (λ same. apart (same ∙ sym (same_key key p.0 e))) in rw not_p refl
      cases after Greater e = ap (λ rest. cond (bytes_eq other p.0) (Some p.1) rest) after

pub last_put_wins : (X : Type 0) → LastPutWins X
last_put_wins X = record {
  last = twice;
  held = found;
  others = unchanged;
}
