-- The ways in which a crash ends are among the images that it may leave.
use Rattle.std.proofs.Common.{◌≡◌, inl, inr, ℕ, ◌+◌, ◌≤◌, max, List, [], ◌∷◌, ◌++◌, length, take, drop, replicate, refl, sym, ◌∙◌, ap, subst, arith, append_assoc, length-append, length-take, length-drop}
use Rattle.std.specs.Prelude.{IsTrue, leb}
use Rattle.std.proofs.lemmas.Bool.{cases_lt, leb-true, and_parts}
use Rattle.std.proofs.lemmas.List.{length-replicate, take-take, take_at, take_all, drop_all}
use Rattle.xs_outside.specs.declared.memory.crash.Fate.{Fate}
use Rattle.xs_outside.specs.declared.memory.crash.Fate.TheVariants.{LeftOut, Done, Filled, FilledAndGrown}
use Rattle.xs_outside.specs.declared.memory.history.SideChange.{SideChange}
use Rattle.xs_outside.specs.declared.memory.history.SideChange.TheVariants.{Write, Sync}
use Rattle.xs_outside.specs.Disk.{Torn}
use Rattle.xs_outside.specs.Crash.{side_after_fate, side_after_crash}
use Rattle.xs_outside.specs.History.{CrashLeaves, side_after_write, content_of, in_place}
use Rattle.xs_outside.specs.ReadsAnImage.{done_torn, left_content}

-- a write whose bytes hold a fill stays as long
length-side_after_write : (at : ℕ) (bytes side : List ℕ) → at ≤ length side → length (side_after_write at bytes side) ≡ max (length side) (at + length bytes)
length-side_after_write at bytes side le =
    omega (arith, length-append (take at side ++ bytes) (drop (at + length bytes) side), length-append (take at side) bytes, length-take at side, length-drop (at + length bytes) side)

-- as many bytes give as long a side
same_length : (at : ℕ) (bytes others side other : List ℕ) → length bytes ≡ length others → length side ≡ length other → at ≤ length side → length (side_after_write at bytes side) ≡ length (side_after_write at others other)
same_length at bytes others side other same long le =
    let le_other : at ≤ length other = omega (arith, le, long) in
    omega (arith, length-side_after_write at bytes side le, length-side_after_write at others other le_other)

grown : (byte : ℕ) (start : List ℕ) (history : List SideChange) → IsTrue (in_place start history) → length (side_after_crash (FilledAndGrown byte) start history) ≡ length (content_of start history)
grown byte start [] fits = refl
grown byte start (Sync moment ∷ earlier) fits = refl
grown byte start (Write moment at bytes ∷ earlier) fits =
    let parts = and_parts (leb at (length (content_of start earlier))) (in_place start earlier) fits in
    let same = grown byte start earlier parts.1 in
    let le : at ≤ length (side_after_crash (FilledAndGrown byte) start earlier) = omega (arith, same, leb-true at (length (content_of start earlier)) parts.0) in
    same_length at (replicate (length bytes) byte) bytes (side_after_crash (FilledAndGrown byte) start earlier) (content_of start earlier) (length-replicate (length bytes) byte) same le

done : (start : List ℕ) (history : List SideChange) → side_after_crash Done start history ≡ content_of start history
done start [] = refl
done start (Sync moment ∷ earlier) = refl
done start (Write moment at bytes ∷ earlier) = ap (λ (l : List ℕ). side_after_write at bytes l) (done start earlier)

-- what isn't written is torn too
untouched : (at n : ℕ) (side : List ℕ) → Torn at n side side
untouched at n side = record { before = refl; after = refl; no_shorter = omega arith; no_longer = omega arith }

-- a fill that doesn't let the side grow
filled : (at n : ℕ) (bytes side : List ℕ) → length bytes ≡ n → Torn at n side (take (length side) (side_after_write at bytes side))
filled at n bytes side is =
    let all = side_after_write at bytes side in
    let rest : List ℕ = bytes ++ drop (at + length bytes) side in
    let split : all ≡ take at side ++ rest = append_assoc (take at side) bytes (drop (at + length bytes) side) in
    let size : length (take (length side) all) ≡ length side =
    omega (arith, length-take (length side) all, length-append (take at side ++ bytes) (drop (at + length bytes) side), length-append (take at side) bytes, length-take at side, length-drop (at + length bytes) side) in
    record { before = front at side rest all split size; after = back at n bytes side is size; no_shorter = omega (arith, size); no_longer = omega (arith, size) }
  where
    front : (at : ℕ) (side rest all : List ℕ) → all ≡ take at side ++ rest → length (take (length side) all) ≡ length side → take at (take (length side) all) ≡ take at side
    front at side rest all split size = elim (cases_lt (length side) at) [
      | inl short ↦
          let whole : take at side ≡ side = take_all at side (omega (arith, short)) in
          take_all at (take (length side) all) (omega (arith, size, short))
          ∙ ap (λ (l : List ℕ). take (length side) l) (split ∙ ap (λ (l : List ℕ). l ++ rest) whole)
          ∙ take_at side rest (length side) refl
          ∙ sym whole
      | inr long ↦
          take-take at (length side) all long
          ∙ ap (λ (l : List ℕ). take at l) split
          ∙ take_at (take at side) rest at (omega (arith, length-take at side, long))
    ]

    back : (at n : ℕ) (bytes side : List ℕ) → length bytes ≡ n → length (take (length side) (side_after_write at bytes side)) ≡ length side → drop (at + n) (take (length side) (side_after_write at bytes side)) ≡ drop (at + n) side
    back at n bytes side is size = elim (cases_lt (length side) (at + n)) [
      | inl short ↦ drop_all (at + n) (take (length side) (side_after_write at bytes side)) (omega (arith, size, short)) ∙ sym (drop_all (at + n) side (omega (arith, short)))
      | inr long ↦
          let le : at ≤ length side = omega (arith, long) in
          let same : length (side_after_write at bytes side) ≡ length side = omega (arith, length-side_after_write at bytes side le, is, long) in
          ap (λ (l : List ℕ). drop (at + n) l) (take_all (length side) (side_after_write at bytes side) (omega (arith, same)))
          ∙ ap (λ m. drop (at + m) (side_after_write at bytes side)) (sym is)
          ∙ (done_torn at bytes side le).after
          ∙ ap (λ m. drop (at + m) side) is
    ]

fill_torn : (at n byte : ℕ) (side : List ℕ) → at ≤ length side → Torn at n side (side_after_write at (replicate n byte) side)
fill_torn at n byte side le = subst (λ m. Torn at m side (side_after_write at (replicate n byte) side)) (length-replicate n byte) (done_torn at (replicate n byte) side le)

pub treated_left : (fate : Fate) (start : List ℕ) (history : List SideChange) → IsTrue (in_place start history) → CrashLeaves start history (side_after_crash fate start history)
treated_left fate start [] fits = refl
treated_left fate start (Sync moment ∷ earlier) fits = (left_content start earlier fits, refl)
treated_left fate start (Write moment at bytes ∷ earlier) fits =
    let parts = and_parts (leb at (length (content_of start earlier))) (in_place start earlier) fits in
    let le = leb-true at (length (content_of start earlier)) parts.0 in
    let torn : Torn at (length bytes) (side_after_crash fate start earlier) (side_after_fate fate at bytes (side_after_crash fate start earlier)) = by_fate fate start earlier at bytes parts.1 le in
    (side_after_crash fate start earlier, treated_left fate start earlier parts.1, torn)
  where
    by_fate : (fate : Fate) (start : List ℕ) (earlier : List SideChange) (at : ℕ) (bytes : List ℕ) → IsTrue (in_place start earlier) → at ≤ length (content_of start earlier)
        → Torn at (length bytes) (side_after_crash fate start earlier) (side_after_fate fate at bytes (side_after_crash fate start earlier))
    by_fate LeftOut start earlier at bytes fits le = untouched at (length bytes) (side_after_crash LeftOut start earlier)
    by_fate Done start earlier at bytes fits le = done_torn at bytes (side_after_crash Done start earlier) (omega (arith, le, ap length (done start earlier)))
    by_fate (Filled byte) start earlier at bytes fits le = filled at (length bytes) (replicate (length bytes) byte) (side_after_crash (Filled byte) start earlier) (length-replicate (length bytes) byte)
    by_fate (FilledAndGrown byte) start earlier at bytes fits le = fill_torn at (length bytes) byte (side_after_crash (FilledAndGrown byte) start earlier) (omega (arith, le, grown byte start earlier fits))
