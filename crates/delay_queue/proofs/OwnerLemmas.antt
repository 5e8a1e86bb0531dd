-- What a search by owner finds among numbers that are sorted by owner and id.
use Rattle.std.proofs.Common.{add-one, ◌≡◌, ℕ, suc, ◌<◌, ◌≤◌, false, List, [], ◌∷◌, length, get_or, nat_eq, Option, Some, None, refl, sym, ap, ◌∙◌, inl, inr, arith}
use Rattle.std.specs.declared.cmp.Ordering.{Ordering}
use Rattle.std.specs.declared.cmp.Ordering.TheVariants.{Less, Equal, Greater}
use Rattle.std.specs.Ordering.{is_lt, nat_cmp}
use Rattle.std.specs.Option.{option_map_or}
use Rattle.std.specs.List.{find}
use Rattle.std.specs.List.Sorted.{IsSortedBy}
use Rattle.std.proofs.lemmas.Bool.{cases_lt}
use Rattle.std.proofs.lemmas.Cmp.{nat_cmp_total, nat_list_cmp_total, ranked, tied_itself}
use Rattle.xs_model.specs.Rising.{key_cmp}
use Rattle.office_types.specs.declared.office.Timer.{Timer}
use Rattle.office_books.specs.KeyIndex.{IsIn}
use Rattle.office_books.proofs.KeyIndexLemmas.{not_both}
use Rattle.office_books.proofs.SortedLemmas.{adjacent}
use Rattle.delay_queue.specs.TimerKeys.{NoneIsOf, owner_in, owner_key, owner_key_in, owner_key_of, OwnerKeysRise}
use Rattle.delay_queue.proofs.TimerLemmas.{key_found}

abbrev head_of : List ℕ → ℕ
head_of [] = 0
head_of (x ∷ xs) = x

low_head : (a b : List ℕ) → nat_cmp (head_of a) (head_of b) ≡ Less → key_cmp a b ≡ Less
low_head [] [] e = absurd (cc)
low_head [] (y ∷ ys) e = refl
low_head (x ∷ xs) [] e = let low : x < 0 = ranked x 0 Less (sym e) in absurd (omega arith)
low_head (x ∷ xs) (y ∷ ys) e = rw e refl

not_low : (a b : List ℕ) → is_lt (key_cmp a b) ≡ false → is_lt (nat_cmp (head_of a) (head_of b)) ≡ false
not_low a b above = cases (nat_cmp (head_of a) (head_of b)) refl
  where
    cases : (o : Ordering) → nat_cmp (head_of a) (head_of b) ≡ o → is_lt o ≡ false
    cases Less e = absurd (not_both (ap is_lt (low_head a b e)) above)
    cases Equal e = refl
    cases Greater e = refl

head_of_owner : (timer : Timer) (id : Option (List ℕ)) → timer.owner ≡ head_of (owner_key timer.owner id timer.order)
head_of_owner timer None = refl
head_of_owner timer (Some id) = refl

owner_is_head : (timers : List Timer) (number : ℕ) → owner_in timers number ≡ head_of (owner_key_in timers number)
owner_is_head timers number = cases (find (λ (t : Timer). nat_eq t.order number) timers) ∙ sym (ap head_of (key_found owner_key_of timers number))
  where
    cases : (o : Option Timer) → option_map_or (λ (t : Timer). t.owner) o 0 ≡ head_of (option_map_or owner_key_of o [])
    cases None = refl
    cases (Some t) = head_of_owner t t.id

pub owners_sorted : (timers : List Timer) (numbers : List ℕ) → OwnerKeysRise timers numbers → IsSortedBy (λ a b. is_lt (nat_cmp (owner_in timers a) (owner_in timers b))) numbers
owners_sorted timers numbers rises = λ k d low high.
    rw (add-one, owner_is_head timers (get_or numbers (suc k) d), owner_is_head timers (get_or numbers k d))
    (not_low (owner_key_in timers (get_or numbers (suc k) d)) (owner_key_in timers (get_or numbers k d)) (adjacent nat_list_cmp_total (owner_key_in timers) numbers rises k d (omega (arith, high))))

in_index : (numbers : List ℕ) (number : ℕ) → IsIn number numbers → (i : ℕ) × (i < length numbers) × ((d : ℕ) → get_or numbers i d ≡ number)
in_index [] number is_in = absurd is_in
in_index (first ∷ numbers) number (inl e) = (0, omega arith, λ d. e)
in_index (first ∷ numbers) number (inr later) = let rest = in_index numbers number later in (suc rest.0, omega (arith, rest.1), rest.2)

pub nobody : (timers : List Timer) (numbers : List ℕ) (owner place : ℕ) → ((j d : ℕ) → 0 ≤ j → j < place → nat_cmp (owner_in timers (get_or numbers j d)) owner ≡ Less)
    → ((j d : ℕ) → place ≤ j → j < length numbers → nat_cmp (owner_in timers (get_or numbers j d)) owner ≡ Greater) → NoneIsOf owner timers numbers
nobody timers numbers owner place less greater = λ number is_in same.
    let at = in_index numbers number is_in in
    let this : owner_in timers (get_or numbers at.0 0) ≡ owner = ap (owner_in timers) (at.2 0) ∙ same in
    let equal : nat_cmp (owner_in timers (get_or numbers at.0 0)) owner ≡ Equal = ap (λ (n : ℕ). nat_cmp n owner) this ∙ tied_itself nat_cmp_total owner in
    elim (cases_lt at.0 place) [
      | inl before ↦ let low = less at.0 0 (omega arith) before in absurd (cc (equal, low))
      | inr after ↦ let high = greater at.0 0 after at.1 in absurd (cc (equal, high))
    ]
