-- What a station's output held at a moment.
use Rattle.std.proofs.Common.{◌≡◌, ℕ, suc, ◌+◌, ◌≤◌, ◌<◌, leb, List, [], ◌∷◌, length, take, refl, ◌∙◌, ap, arith}
use Rattle.std.proofs.lemmas.Bool.Decides.{nat_tests}
use Rattle.std.proofs.lemmas.List.Sums.{sum_by-cons, sum_by-append, count_by-le-length}
use Rattle.std.proofs.lemmas.List.{take_all, take-append-le}
use Rattle.std.specs.Prelude.{Some, None, IfSome, cond, false}
use Rattle.std.proofs.lemmas.Bool.{le-leb}
use Rattle.std.specs.Option.{option_map}
use Rattle.std.specs.List.{All, count_by}
use Rattle.std.specs.Io.KnownBytes.{append_known}
use Rattle.std.specs.declared.option.Option.{Option}
use Rattle.xs_outside.specs.Beside.{Beside, output_at, Stamped, HasMoments}

-- how many bytes had been written by a moment
abbrev by_then : ℕ → List ℕ → ℕ
by_then moment moments = count_by (λ m. leb m moment) moments

tail_all : (P : ℕ → Type 0) (first : ℕ) (rest : List ℕ) → All P (first ∷ rest) → All P rest
tail_all P first rest all k d lt = all (suc k) d (omega (arith, lt))

all_by_then : (moment : ℕ) (moments : List ℕ) → All (λ m. m ≤ moment) moments → by_then moment moments ≡ length moments
all_by_then moment [] all = refl
all_by_then moment (first ∷ rest) all =
    let le : first ≤ moment = all 0 first (omega arith) in
    let more = all_by_then moment rest (tail_all (λ m. m ≤ moment) first rest all) in
    sum_by-cons (λ m. cond (leb m moment) 1 0) first rest ∙ ap (λ b. cond b 1 0 + by_then moment rest) (le-leb first moment le) ∙ omega (arith, more)

none_by_then : (moment then now : ℕ) (added : List ℕ) → moment ≤ then → All (λ m. (then < m) × (m ≤ now)) added → by_then moment added ≡ 0
none_by_then moment then now [] le all = refl
none_by_then moment then now (first ∷ rest) le all =
    let lt : then < first = (all 0 first (omega arith)).0 in
    let no : leb first moment ≡ false = grind (arith, nat_tests) in
    let more = none_by_then moment then now rest le (tail_all (λ m. (then < m) × (m ≤ now)) first rest all) in
    sum_by-cons (λ m. cond (leb m moment) 1 0) first rest ∙ ap (λ b. cond b 1 0 + by_then moment rest) no ∙ omega (arith, more)

-- the output of now is the whole output
pub output_at_now : (now : ℕ) (beside : Beside) → HasMoments now beside → output_at now beside ≡ beside.output
output_at_now now beside has = go beside.output beside.moments has.each (all_by_then now beside.moments has.past)
  where
    go : (output : Option (List ℕ)) (moments : List ℕ) → IfSome output (λ bytes. length bytes ≡ length moments) → by_then now moments ≡ length moments → option_map (λ bytes. take (by_then now moments) bytes) output ≡ output
    go None moments each all = refl
    go (Some bytes) moments each all = ap (λ l. Some l) (take_all (by_then now moments) bytes (omega (arith, each, all)))

-- what is written later leaves the output of a moment as it was
pub output_at_kept : (moment then now : ℕ) (old new : Beside) (bytes : List ℕ) → HasMoments then old → Stamped then now old.moments new.moments → new.output ≡ append_known old.output bytes → moment ≤ then
    → output_at moment new ≡ output_at moment old
output_at_kept moment then now old new bytes has stamped grown le =
    let none = none_by_then moment then now stamped.0 le stamped.2 in
    let same : by_then moment new.moments ≡ by_then moment old.moments =
    ap (λ l. by_then moment l) stamped.1 ∙ sum_by-append (λ m. cond (leb m moment) 1 0) old.moments stamped.0 ∙ omega (arith, none) in
    ap (λ o. option_map (λ output. take (by_then moment new.moments) output) o) grown
    ∙ ap (λ k. option_map (λ output. take k output) (append_known old.output bytes)) same
    ∙ go old.output old.moments has.each (count_by-le-length (λ m. leb m moment) old.moments)
  where
    go : (output : Option (List ℕ)) (moments : List ℕ) → IfSome output (λ o. length o ≡ length moments) → by_then moment moments ≤ length moments
        → option_map (λ o. take (by_then moment moments) o) (append_known output bytes) ≡ option_map (λ o. take (by_then moment moments) o) output
    go None moments each le = refl
    go (Some o) moments each le = ap (λ l. Some l) (take-append-le (by_then moment moments) o bytes (omega (arith, each, le)))
