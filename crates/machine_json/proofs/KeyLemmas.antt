-- The number that digits spell never falls as more digits follow.
use Rattle.std.proofs.Common.{◌≡◌, ℕ, ◌+◌, ◌*◌, ◌-◌, ◌<◌, ◌≤◌, List, [], ◌∷◌, ◌++◌, take, drop, length, get_or, refl, ap, sym, arith}
use Rattle.std.specs.Prelude.{fold, false, nat_le}
use Rattle.std.proofs.lemmas.Bool.{lt-leb}
use Rattle.std.proofs.lemmas.List.{take-append-drop, take_more}
use Rattle.ordered_json.specs.Meaning.{magnitude}

-- the number after one digit more
abbrev pub with_digit : ℕ → ℕ → ℕ
with_digit n b = n * 10 + (b - 48)

pub fold-append : (n : ℕ) (xs ys : List ℕ) → fold with_digit n (xs ++ ys) ≡ fold with_digit (fold with_digit n xs) ys
fold-append n [] ys = refl
fold-append n (x ∷ xs) ys = fold-append (with_digit n x) xs ys

pub grows : (n : ℕ) (xs : List ℕ) → n ≤ fold with_digit n xs
grows n [] = omega arith
grows n (x ∷ xs) = let rest : with_digit n x ≤ fold with_digit (with_digit n x) xs = grows (with_digit n x) xs in omega arith

pub magnitude_more : (digits : List ℕ) (k : ℕ) → k < length digits → magnitude (take (k + 1) digits) ≡ magnitude (take k digits) * 10 + (get_or digits k 0 - 48)
magnitude_more digits k within = rw (take_more digits k 0 within) (fold-append 0 (take k digits) (get_or digits k 0 ∷ []))

-- the number of some first digits is at most that of all
pub front_le : (digits : List ℕ) (k : ℕ) → magnitude (take k digits) ≤ magnitude digits
front_le digits k =
    let whole : take k digits ++ drop k digits ≡ digits = take-append-drop k digits in
    let more : magnitude (take k digits) ≤ fold with_digit (magnitude (take k digits)) (drop k digits) = grows (magnitude (take k digits)) (drop k digits) in
    let joined : magnitude (take k digits ++ drop k digits) ≡ fold with_digit (magnitude (take k digits)) (drop k digits) = fold-append 0 (take k digits) (drop k digits) in
    let same : magnitude (take k digits ++ drop k digits) ≡ magnitude digits = ap magnitude whole in
    omega (arith, more, joined, same)

-- digits whose number passes a bound after one more make a number past it
pub past : (digits : List ℕ) (k so_far bound : ℕ) → so_far ≡ magnitude (take k digits) → k < length digits
    → bound < so_far * 10 + (get_or digits k 0 - 48) → false ≡ nat_le (magnitude digits) bound
past digits k so_far bound is within above =
    let here = magnitude_more digits k within in
    let all = front_le digits (k + 1) in
    let greater : bound < magnitude digits = omega (arith, here, all, is, above) in
    sym (lt-leb (magnitude digits) bound greater)
