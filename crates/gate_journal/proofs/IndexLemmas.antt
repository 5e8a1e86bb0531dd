-- As many places as records.
use Rattle.std.proofs.Common.{◌≡◌, ℕ, suc, ◌+◌, List, [], ◌∷◌, length, refl, ap, arith, length-append}
use Rattle.gate_journal.specs.Layout.{places_from, record_text}
use Rattle.gate_journal.specs.Reading.{Adds}

pub length-places_from : (place : ℕ) (records : List (List ℕ)) → length (places_from place records) ≡ length records
length-places_from place [] = refl
length-places_from place (x ∷ xs) = ap suc (length-places_from (place + length (record_text x)) xs)

-- records that were put behind as many as there were places leave as many
pub adds_indexed : (place : ℕ) (text : List ℕ) (added records after : List (List ℕ)) (places places_after : List ℕ) → Adds place text added records after places places_after → length places ≡ length records → length places_after ≡ length after
adds_indexed place text added records after places places_after adds many =
    omega (arith, ap length adds.behind, ap length adds.their_places, length-append records added, length-append places (places_from place added), length-places_from place added, many)
