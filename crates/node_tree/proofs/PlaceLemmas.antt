-- The first place in a list at which a test passes, as the list grows.
use Rattle.std.proofs.Common.{sym, ◌≡◌, ◌<◌, ◌≤◌, ◌+◌, ℕ, suc, Bool, true, false, cond, List, [], ◌∷◌, ◌++◌, length, take, get_or, ◌&&◌, refl, ◌∙◌, ap, arith}
use Rattle.std.specs.Prelude.{Option, Some, None, IfSome, is_none, nat_lt}
use Rattle.std.specs.List.{position, position_from, position_or_len}
use Rattle.std.proofs.lemmas.Iterator.Adapters.{position_from-zero}
use Rattle.std.proofs.lemmas.List.{take_more, length-take-le}
use Rattle.std.proofs.lemmas.List.Sums.{fails_before_first}
use borrow.Author.Tests.{ltb-false, ltb-true}

push_step : (b c : Bool) (i j k : ℕ) (later found : Option ℕ) → later ≡ cond (is_none found && c) (Some j) found → j ≡ k → cond b (Some i) later ≡ cond (is_none (cond b (Some i) found) && c) (Some k) (cond b (Some i) found)
push_step true c i j k later found is same = refl
push_step false c i j k later found is same = is ∙ ap (λ n. cond (is_none found && c) (Some n) found) same

-- from a place on
position_from_push : {X : Type 0} (p : X → Bool) (i : ℕ) (xs : List X) (x : X) → position_from p i (xs ++ x ∷ []) ≡ cond (is_none (position_from p i xs) && p x) (Some (i + length xs)) (position_from p i xs)
position_from_push p i [] x = ap (λ n. cond (p x) (Some n) None) (omega arith)
position_from_push p i (y ∷ xs) x = push_step (p y) (p x) i (i + 1 + length xs) (i + suc (length xs)) (position_from p (i + 1) (xs ++ x ∷ [])) (position_from p (i + 1) xs) (position_from_push p (i + 1) xs x) (omega arith)

pub position_push : {X : Type 0} (p : X → Bool) (xs : List X) (x : X) → position p (xs ++ x ∷ []) ≡ cond (is_none (position p xs) && p x) (Some (length xs)) (position p xs)
position_push p xs x = rw (position_from-zero p (xs ++ x ∷ []), position_from-zero p xs) (position_from_push p 0 xs x ∙ ap (λ n. cond (is_none (position_from p 0 xs) && p x) (Some n) (position_from p 0 xs)) (omega arith))

-- one more row
pub position_more : {X : Type 0} (p : X → Bool) (xs : List X) (i : ℕ) (d : X) → i < length xs → position p (take (i + 1) xs) ≡ cond (is_none (position p (take i xs)) && p (get_or xs i d)) (Some i) (position p (take i xs))
position_more p xs i d inside =
    ap (position p) (take_more xs i d inside) ∙ position_push p (take i xs) (get_or xs i d)
    ∙ ap (λ n. cond (is_none (position p (take i xs)) && p (get_or xs i d)) (Some n) (position p (take i xs))) (length-take-le i xs (omega arith))

none_from : (b : Bool) (x : ℕ) → cond b (Some x) None ≡ None → b ≡ false
none_from true x h = cc
none_from false x h = refl

some_from : (b : Bool) (x i : ℕ) → cond b (Some x) None ≡ Some i → (b ≡ true) × (x ≡ i)
some_from true x i h = (refl, cc)
some_from false x i h = cc

-- what is found is in the list
pub position_inside : {X : Type 0} (p : X → Bool) (xs : List X) (i : ℕ) → position p xs ≡ Some i → i < length xs
position_inside p xs i h =
    let at = some_from (nat_lt (position_or_len p xs) (length xs)) (position_or_len p xs) i h in
    let less = ltb-true _ _ at.0 in
    omega (arith, at.1)

-- where nothing is found, nothing passes
pub position_none : {X : Type 0} (p : X → Bool) (xs : List X) → position p xs ≡ None → (k : ℕ) (d : X) → k < length xs → p (get_or xs k d) ≡ false
position_none p xs h k d inside =
    let past : length xs ≤ position_or_len p xs = ltb-false _ _ (none_from (nat_lt (position_or_len p xs) (length xs)) (position_or_len p xs) h) in
    fails_before_first p xs k d (omega arith)

-- what is found, as a clause says it
pub found_inside : {X : Type 0} (p : X → Bool) (xs : List X) (o : Option ℕ) → o ≡ position p xs → IfSome o (λ n. n < length xs)
found_inside p xs None is = tt
found_inside p xs (Some n) is = position_inside p xs n (sym is)
