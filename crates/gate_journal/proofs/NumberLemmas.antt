-- Numbers in bytes, big end first.
use Rattle.std.proofs.Common.{◌≡◌, ℕ, ◌^◌, ◌<◌, length, refl, sym, ◌∙◌, ap}
use Rattle.std.proofs.lemmas.Nat.{from_be_bytes-to_be_bytes_4, from_be_bytes-to_be_bytes_8}
use Rattle.std.specs.Int.{w32, w64, from_be_bytes}
use Rattle.gate_journal.specs.Layout.{length_bytes, eight_bytes}

pub length-length_bytes : (n : ℕ) → length (length_bytes n) ≡ 4
unfolding length_bytes
length-length_bytes n = refl

pub length-eight_bytes : (n : ℕ) → length (eight_bytes n) ≡ 8
unfolding eight_bytes
length-eight_bytes n = refl

-- four bytes tell the number
pub same_four : (m n : ℕ) → m < 2 ^ 32 → n < 2 ^ 32 → length_bytes m ≡ length_bytes n → m ≡ n
unfolding length_bytes
same_four m n small_m small_n same =
    sym (from_be_bytes-to_be_bytes_4 m small_m) ∙ ap (λ l. from_be_bytes w32 l) same ∙ from_be_bytes-to_be_bytes_4 n small_n

-- and so do eight
pub same_eight : (m n : ℕ) → m < 2 ^ 64 → n < 2 ^ 64 → eight_bytes m ≡ eight_bytes n → m ≡ n
unfolding eight_bytes
same_eight m n small_m small_n same =
    sym (from_be_bytes-to_be_bytes_8 m small_m) ∙ ap (λ l. from_be_bytes w64 l) same ∙ from_be_bytes-to_be_bytes_8 n small_n
