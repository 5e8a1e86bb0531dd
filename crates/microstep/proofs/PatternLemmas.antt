-- Texts that are compared part by part, and the descriptors of a type one after another.
use Rattle.std.proofs.Common.{◌≡◌, ℕ, suc, Bool, true, false, not, cond, ◌&&◌, List, [], ◌∷◌, ◌++◌, length, take, drop, map, filter, nat_eq, refl, append_assoc}
use Rattle.std.specs.Prelude.{codes}
use Rattle.std.specs.Str.{bytes_eq}
use Rattle.microstep.specs.Candidates.{countdown, ends_part}

-- a text that is joined is equal exactly if its front is and what follows is
pub joined_split : (text part tail : List ℕ) → bytes_eq text (part ++ tail) ≡ (bytes_eq (take (length part) text) part && bytes_eq (drop (length part) text) tail)
joined_split text [] tail = refl
joined_split [] (y ∷ part) tail = refl
joined_split (x ∷ text) (y ∷ part) tail = by_first (joined_split text part tail) (nat_eq x y) where
  by_first : bytes_eq text (part ++ tail) ≡ (bytes_eq (take (length part) text) part && bytes_eq (drop (length part) text) tail) → (b : Bool) → (b && bytes_eq text (part ++ tail)) ≡ ((b && bytes_eq (take (length part) text) part) && bytes_eq (drop (length part) text) tail)
  by_first rest true = rest
  by_first rest false = refl

-- the partial wildcard behind so many bytes
abbrev pub wildcard : List ℕ → ℕ → List ℕ
wildcard type count = take count type ++ codes ".*"

abbrev pub is_other : List ℕ → List ℕ → Bool
is_other type descriptor = not (bytes_eq type descriptor)

-- the partial wildcards behind fewer bytes than so many, but for the type itself
abbrev pub wildcards_below : List ℕ → ℕ → List (List ℕ)
wildcards_below type count = filter (is_other type) (map (wildcard type) (filter (ends_part type) (countdown count)))

pub wildcards-more : (type : List ℕ) (count : ℕ) → wildcards_below type (suc count) ≡ cond (ends_part type count && is_other type (wildcard type count)) (wildcard type count ∷ wildcards_below type count) (wildcards_below type count)
wildcards-more type count = by_end (ends_part type count) where
  by_end : (b : Bool) → filter (is_other type) (map (wildcard type) (cond b (count ∷ filter (ends_part type) (countdown count)) (filter (ends_part type) (countdown count)))) ≡ cond (b && is_other type (wildcard type count)) (wildcard type count ∷ wildcards_below type count) (wildcards_below type count)
  by_end true = refl
  by_end false = refl

-- a text that begins with the front is equal exactly if what follows is
pub joined-more : (text part tail rest : List ℕ) (b : Bool) → bytes_eq (take (length part) text) part ≡ true → rest ≡ drop (length part) text → b ≡ bytes_eq rest tail → b ≡ bytes_eq text (part ++ tail)
joined-more text part tail rest b front back same = rw (joined_split text part tail, front, ← back) same

pub joined-none : (text part tail : List ℕ) → bytes_eq (take (length part) text) part ≡ false → false ≡ bytes_eq text (part ++ tail)
joined-none text part tail front = rw (joined_split text part tail, front) refl

-- one more partial wildcard, as a loop adds it
pub wildcards-push : (type : List ℕ) (front : List (List ℕ)) (upper count : ℕ) (all : List (List ℕ)) → upper ≡ suc count → ends_part type count ≡ true → bytes_eq type (wildcard type count) ≡ false
    → front ++ wildcards_below type upper ≡ all → (front ++ wildcard type count ∷ []) ++ wildcards_below type count ≡ all
wildcards-push type front upper count all next ends other was =
    let step : wildcards_below type (suc count) ≡ wildcard type count ∷ wildcards_below type count = rw (wildcards-more type count, ends, other) refl in
    let before = rw (next, step) at was in
    rw append_assoc before

-- or leaves out
pub wildcards-skip : (type : List ℕ) (front : List (List ℕ)) (upper count : ℕ) (all : List (List ℕ)) → upper ≡ suc count → (ends_part type count && is_other type (wildcard type count)) ≡ false
    → front ++ wildcards_below type upper ≡ all → front ++ wildcards_below type count ≡ all
wildcards-skip type front upper count all next out was =
    let step : wildcards_below type (suc count) ≡ wildcards_below type count = rw (wildcards-more type count, out) refl in
    rw (next, step) at was

pub not-both : (a b : Bool) → a ≡ false → (a && b) ≡ false
not-both a b e = rw e refl

pub not-second : (a b : Bool) → b ≡ true → (a && not b) ≡ false
not-second true b e = rw e refl
not-second false b e = refl
