-- What it says of names and numbers that no two keys are equal in order.
use Rattle.std.proofs.Common.{◌≡◌, ◌≢◌, ◌↔◌, ℕ, ◌<◌, ◌+◌, Bool, true, false, List, [], ◌∷◌, ◌++◌, length, get_or, take, map, Option, None, Some, IsTrue, refl, sym, ap, ◌∙◌, subst, arith}
use Rattle.std.specs.Prelude.{AllPairs}
use Rattle.std.specs.declared.cmp.Ordering.{Ordering}
use Rattle.std.specs.declared.cmp.Ordering.TheVariants.{Less, Equal, Greater}
use Rattle.std.specs.Cmp.Lexicographic.{slice_cmp}
use Rattle.std.specs.List.{AllByRecursion, cons_option, filter_map}
use Rattle.std.specs.Option.{option_map, option_map_or}
use Rattle.std.specs.Ordering.{is_eq, nat_cmp, ordering_then}
use Rattle.std.specs.Str.{bytes_eq}
use Rattle.std.proofs.lemmas.Cmp.{nat_cmp_total, nat_list_cmp_total, ranked, tied_itself}
use Rattle.std.proofs.lemmas.List.{append-nil, map-append, map-id, take_more}
use Rattle.std.proofs.lemmas.List.Elements.{filter_map-append}
use Rattle.std.proofs.lemmas.Map.Text.{is_eq-slice_cmp}
use Rattle.xs_model.proofs.RisingLemmas.{same_key}
use Rattle.office_types.specs.declared.office.Timer.{Timer}
use Rattle.office_types.specs.ValidOffice.{AreOfOneId}
use Rattle.snapshot_text.specs.Validity.{timer_key}
use Rattle.snapshot_text.proofs.ListLemmas.{EachPair, all_from_pairs, pairs_along, pairs_from, pairs_map, pairs_of_map, pairs_weaker}

same_number : (a b : ℕ) → nat_cmp a b ≡ Equal → a ≡ b
same_number a b is = grind (arith, ranked a b Equal (sym is))

tied_number : (a b : ℕ) → a ≡ b → nat_cmp a b ≡ Equal
tied_number a b same = ap (nat_cmp a) (sym same) ∙ tied_itself nat_cmp_total a

tied_text : (a b : List ℕ) → a ≡ b → slice_cmp nat_cmp a b ≡ Equal
tied_text a b same = ap (slice_cmp nat_cmp a) (sym same) ∙ tied_itself nat_list_cmp_total a

-- ---- numbers

pub numbers_apart : {Y : Type 0} (g : Y → ℕ) (xs : List ℕ) (ys : List Y) → xs ≡ map g ys → AllPairs (λ a b. nat_cmp a b ≢ Equal) xs → AllPairs (λ a b. g a ≢ g b) ys
numbers_apart g xs ys same =
    pairs_along (λ a b. nat_cmp a b ≢ Equal) (λ a b. g a ≢ g b) (λ (a b : ℕ). a ≢ b) (λ (n : ℕ). n) g xs ys (map-id xs ∙ same) (λ a b apart e. apart (tied_number a b e)) (λ a b apart. apart)

pub apart_numbers : {Y : Type 0} (g : Y → ℕ) (xs : List ℕ) (ys : List Y) → xs ≡ map g ys → AllPairs (λ a b. g a ≢ g b) ys → AllPairs (λ a b. nat_cmp a b ≢ Equal) xs
apart_numbers g xs ys same =
    pairs_along (λ a b. g a ≢ g b) (λ a b. nat_cmp a b ≢ Equal) (λ (a b : ℕ). a ≢ b) g (λ (n : ℕ). n) ys xs (sym (map-id xs ∙ same)) (λ a b apart. apart) (λ a b apart e. apart (same_number a b e))

-- ---- texts

pub texts_apart : {X Y : Type 0} (f : X → List ℕ) (g : Y → List ℕ) (xs : List X) (ys : List Y) → map f xs ≡ map g ys → AllPairs (λ a b. slice_cmp nat_cmp (f a) (f b) ≢ Equal) xs → AllPairs (λ a b. g a ≢ g b) ys
texts_apart f g xs ys same =
    pairs_along (λ a b. slice_cmp nat_cmp (f a) (f b) ≢ Equal) (λ a b. g a ≢ g b) (λ (a b : List ℕ). a ≢ b) f g xs ys same (λ a b apart e. apart (tied_text (f a) (f b) e)) (λ a b apart. apart)

pub apart_texts : {X Y : Type 0} (f : X → List ℕ) (g : Y → List ℕ) (xs : List X) (ys : List Y) → map f xs ≡ map g ys → AllPairs (λ a b. g a ≢ g b) ys → AllPairs (λ a b. slice_cmp nat_cmp (f a) (f b) ≢ Equal) xs
apart_texts f g xs ys same =
    pairs_along (λ a b. g a ≢ g b) (λ a b. slice_cmp nat_cmp (f a) (f b) ≢ Equal) (λ (a b : List ℕ). a ≢ b) g f ys xs (sym same) (λ a b apart. apart) (λ a b apart e. apart (same_key (f a) (f b) e))

-- ---- owners with ids

abbrev pub Key : Type 0
Key = ℕ × List ℕ

abbrev pub key_order : Key → Key → Ordering
key_order a b = ordering_then (nat_cmp a.0 b.0) (slice_cmp nat_cmp a.1 b.1)

both_equal : (o p : Ordering) → ordering_then o p ≡ Equal → (o ≡ Equal) × (p ≡ Equal)
both_equal Less p is = absurd cc
both_equal Equal p is = (refl, is)
both_equal Greater p is = absurd cc

same_keys : (a b : Key) → key_order a b ≡ Equal → a ≡ b
same_keys a b is =
    let parts = both_equal (nat_cmp a.0 b.0) (slice_cmp nat_cmp a.1 b.1) is in
    let one = same_number a.0 b.0 parts.0 in
    let other = same_key a.1 b.1 parts.1 in
    ap (λ (n : ℕ). (n, a.1)) one ∙ ap (λ (id : List ℕ). (b.0, id)) other

tied_keys : (a b : Key) → a ≡ b → key_order a b ≡ Equal
tied_keys a b same =
    ap (key_order a) (sym same) ∙ ap (λ (o : Ordering). ordering_then o (slice_cmp nat_cmp a.1 a.1)) (tied_itself nat_cmp_total a.0) ∙ tied_itself nat_list_cmp_total a.1

-- an item before those of a list that is filtered
apart_from : (k : Key) (timers : List Timer) (t : Timer) (id : List ℕ) → t.id ≡ Some id → k ≡ (t.owner, id) → AllByRecursion (λ l. k ≢ l) (filter_map timer_key timers) → AllByRecursion (λ u. AreOfOneId t u → ⊥) timers
apart_from k [] t id is own all = tt
apart_from k (u ∷ timers) t id is own all = by_id (apart_from k timers t id is own) u.id refl all where
  by_id : (AllByRecursion (λ l. k ≢ l) (filter_map timer_key timers) → AllByRecursion (λ u. AreOfOneId t u → ⊥) timers) → (o : Option (List ℕ)) → u.id ≡ o → AllByRecursion (λ l. k ≢ l) (cons_option (option_map (λ (id : List ℕ). (u.owner, id)) o) (filter_map timer_key timers)) → AllByRecursion (λ u. AreOfOneId t u → ⊥) (u ∷ timers)
  by_id rest None none all = ((λ (other, owner, one, two). absurd cc), rest all)
  by_id rest (Some other) some all = (
    (λ (shared, owner, one, two). all.0 (
        let e : id ≡ shared = cc in let f : other ≡ shared = cc in own ∙ ap (λ (n : ℕ). (n, id)) owner ∙ ap (λ (i : List ℕ). (u.owner, i)) (e ∙ sym f))),
    rest all.1,
  )

none_of : (t : Timer) (us : List Timer) → t.id ≡ None → AllByRecursion (λ u. AreOfOneId t u → ⊥) us
none_of t [] none = tt
none_of t (u ∷ us) none = ((λ (other, owner, one, two). absurd cc), none_of t us none)

ids_once : (timers : List Timer) → EachPair (λ (a b : Key). a ≢ b) (filter_map timer_key timers) → EachPair (λ a b. AreOfOneId a b → ⊥) timers
ids_once [] pairs = tt
ids_once (t ∷ timers) pairs = by_id (ids_once timers) t.id refl pairs where
  by_id : (EachPair (λ (a b : Key). a ≢ b) (filter_map timer_key timers) → EachPair (λ a b. AreOfOneId a b → ⊥) timers) → (o : Option (List ℕ)) → t.id ≡ o → EachPair (λ (a b : Key). a ≢ b) (cons_option (option_map (λ (id : List ℕ). (t.owner, id)) o) (filter_map timer_key timers)) → EachPair (λ a b. AreOfOneId a b → ⊥) (t ∷ timers)
  by_id rest None none pairs = (none_of t timers none, rest pairs)
  by_id rest (Some id) some pairs = (apart_from (t.owner, id) timers t id some refl pairs.0, rest pairs.1)

apart_keys : (t : Timer) (id : List ℕ) (timers : List Timer) → t.id ≡ Some id → AllByRecursion (λ u. AreOfOneId t u → ⊥) timers → AllByRecursion (λ (l : Key). (t.owner, id) ≢ l) (filter_map timer_key timers)
apart_keys t id [] is all = tt
apart_keys t id (u ∷ timers) is all = by_id (apart_keys t id timers is all.1) u.id refl where
  by_id : AllByRecursion (λ (l : Key). (t.owner, id) ≢ l) (filter_map timer_key timers) → (o : Option (List ℕ)) → u.id ≡ o → AllByRecursion (λ (l : Key). (t.owner, id) ≢ l) (cons_option (option_map (λ (id : List ℕ). (u.owner, id)) o) (filter_map timer_key timers))
  by_id rest None none = rest
  by_id rest (Some other) some = ((λ same. all.0 (id, ap (λ (k : Key). k.0) same, is, some ∙ ap (λ (k : Key). Some k.1) (sym same))), rest)

keys_once : (timers : List Timer) → EachPair (λ a b. AreOfOneId a b → ⊥) timers → EachPair (λ (a b : Key). a ≢ b) (filter_map timer_key timers)
keys_once [] pairs = tt
keys_once (t ∷ timers) pairs = by_id (keys_once timers pairs.1) t.id refl where
  by_id : EachPair (λ (a b : Key). a ≢ b) (filter_map timer_key timers) → (o : Option (List ℕ)) → t.id ≡ o → EachPair (λ (a b : Key). a ≢ b) (cons_option (option_map (λ (id : List ℕ). (t.owner, id)) o) (filter_map timer_key timers))
  by_id rest None none = rest
  by_id rest (Some id) some = (apart_keys t id timers some pairs.0, rest)

pub ids_apart : {X : Type 0} (f : X → Key) (xs : List X) (timers : List Timer) → map f xs ≡ filter_map timer_key timers → AllPairs (λ a b. key_order (f a) (f b) ≢ Equal) xs → AllPairs (λ a b. AreOfOneId a b → ⊥) timers
ids_apart f xs timers same pairs =
    let P : List Key → Type 0 = λ keys. AllPairs (λ (a b : Key). a ≢ b) keys in
    let keys : P (filter_map timer_key timers) =
    subst P same (pairs_map (λ (a b : Key). a ≢ b) f xs (pairs_weaker (λ a b. key_order (f a) (f b) ≢ Equal) (λ a b. f a ≢ f b) xs (λ a b apart e. apart (tied_keys (f a) (f b) e)) pairs)) in
    all_from_pairs (λ a b. AreOfOneId a b → ⊥) timers (ids_once timers (pairs_from (λ (a b : Key). a ≢ b) (filter_map timer_key timers) keys))

pub apart_ids : {X : Type 0} (f : X → Key) (xs : List X) (timers : List Timer) → map f xs ≡ filter_map timer_key timers → AllPairs (λ a b. AreOfOneId a b → ⊥) timers → AllPairs (λ a b. key_order (f a) (f b) ≢ Equal) xs
apart_ids f xs timers same pairs =
    let P : List Key → Type 0 = λ keys. AllPairs (λ (a b : Key). a ≢ b) keys in
    let keys : P (filter_map timer_key timers) = all_from_pairs (λ (a b : Key). a ≢ b) (filter_map timer_key timers) (keys_once timers (pairs_from (λ a b. AreOfOneId a b → ⊥) timers pairs)) in
    pairs_weaker (λ a b. f a ≢ f b) (λ a b. key_order (f a) (f b) ≢ Equal) xs (λ a b apart e. apart (same_keys (f a) (f b) e)) (pairs_of_map (λ (a b : Key). a ≢ b) f xs (subst P (sym same) keys))

-- ---- the type that begins an actor

pub bytes_eq_same : (a b : List ℕ) → a ≡ b → bytes_eq a b ≡ true
bytes_eq_same a b same = sym (is_eq-slice_cmp a b) ∙ ap is_eq (tied_text a b same)

pub bytes_eq_is : (a b : List ℕ) → bytes_eq a b ≡ true → a ≡ b
bytes_eq_is a b is = by_order (slice_cmp nat_cmp a b) refl where
  by_order : (o : Ordering) → slice_cmp nat_cmp a b ≡ o → a ≡ b
  by_order Less e = absurd (let no : bytes_eq a b ≡ false = sym (is_eq-slice_cmp a b) ∙ ap is_eq e in cc)
  by_order Equal e = same_key a b e
  by_order Greater e = absurd (let no : bytes_eq a b ≡ false = sym (is_eq-slice_cmp a b) ∙ ap is_eq e in cc)

-- a test for one text is that for it as bytes
pub tests_text : (text : List ℕ) (found : Option (List ℕ)) (b : Bool) → IsTrue b ↔ (found ≡ Some text) → b ≡ option_map_or (bytes_eq text) found false
tests_text text None true tells = absurd (let e = tells.0 refl in cc)
tests_text text None false tells = refl
tests_text text (Some other) true tells = let e : other ≡ text = (let f = tells.0 refl in cc) in sym (bytes_eq_same text other (sym e))
tests_text text (Some other) false tells = by_bytes (bytes_eq text other) refl where
  by_bytes : (t : Bool) → bytes_eq text other ≡ t → false ≡ bytes_eq text other
  by_bytes true is = absurd (let yes = tells.1 (ap Some (sym (bytes_eq_is text other is))) in cc)
  by_bytes false is = sym is

-- ---- a walk over timers

key_more : (timers : List Timer) (i : ℕ) (timer : Timer) → i < length timers → timer ≡ get_or timers i timer → filter_map timer_key (take (i + 1) timers) ≡ filter_map timer_key (take i timers) ++ cons_option (timer_key timer) []
key_more timers i timer inside is =
    ap (filter_map timer_key) (take_more timers i timer inside)
    ∙ filter_map-append timer_key (take i timers) (get_or timers i timer ∷ [])
    ∙ ap (λ (t : Timer). filter_map timer_key (take i timers) ++ cons_option (timer_key t) []) (sym is)

pub keys_skip : {X : Type 0} (f : X → Key) (keys : List X) (timers : List Timer) (i : ℕ) (timer : Timer) → i < length timers → timer ≡ get_or timers i timer → timer.id ≡ None
    → map f keys ≡ filter_map timer_key (take i timers) → map f keys ≡ filter_map timer_key (take (i + 1) timers)
keys_skip f keys timers i timer inside is none same =
    same
    ∙ sym (append-nil (filter_map timer_key (take i timers)))
    ∙ ap (λ (o : Option (List ℕ)). filter_map timer_key (take i timers) ++ cons_option (option_map (λ (id : List ℕ). (timer.owner, id)) o) []) (sym none)
    ∙ sym (key_more timers i timer inside is)

pub keys_push : {X : Type 0} (f : X → Key) (keys new : List X) (k : X) (timers : List Timer) (i : ℕ) (timer : Timer) (id : List ℕ) → i < length timers → timer ≡ get_or timers i timer → timer.id ≡ Some id
    → new ≡ keys ++ k ∷ [] → f k ≡ (timer.owner, id) → map f keys ≡ filter_map timer_key (take i timers) → map f new ≡ filter_map timer_key (take (i + 1) timers)
keys_push f keys new k timers i timer id inside is some pushed own same =
    ap (map f) pushed
    ∙ map-append f keys (k ∷ [])
    ∙ ap (λ (l : List Key). l ++ f k ∷ []) same
    ∙ ap (λ (key : Key). filter_map timer_key (take i timers) ++ key ∷ []) own
    ∙ ap (λ (o : Option (List ℕ)). filter_map timer_key (take i timers) ++ cons_option (option_map (λ (id : List ℕ). (timer.owner, id)) o) []) (sym some)
    ∙ sym (key_more timers i timer inside is)
