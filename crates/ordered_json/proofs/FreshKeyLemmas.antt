-- A key that an object does not have: one that is longer than all its keys.
use Rattle.std.proofs.Common.{◌≡◌, [], ◌∷◌, ◌++◌, ℕ, suc, zero, ◌+◌, ◌<◌, max, Bool, true, false, ◌||◌, List, length, refl, ap, sym, ◌∙◌, arith, append_assoc, length-append}
use Rattle.std.specs.Prelude.{encode_utf8}
use Rattle.std.specs.Str.{bytes_eq}
use Rattle.std.proofs.lemmas.Slice.Eq.{bytes_eq-Decides}
use Rattle.ordered_json.specs.Grammar.{Char, plain, AreChars, print_char, print_chars}
use Rattle.ordered_json.specs.Meaning.{string_content, char_value, has_key}
use Rattle.ordered_json.proofs.StringLemmas.{encode_one}

longest : List (List ℕ) → ℕ
longest [] = 0
longest (k ∷ ks) = max (length k) (longest ks)

other : (key k : List ℕ) → length k < length key → bytes_eq key k ≡ false
other key k h = by (bytes_eq key k) refl
  where
    by : (x : Bool) → bytes_eq key k ≡ x → bytes_eq key k ≡ false
    by false e = e
    by true e = absurd (let same : length key ≡ length k = ap length ((bytes_eq-Decides key k).0 e) in let no : ⊥ = omega arith in no)

or_both : (x y : Bool) → x ≡ false → y ≡ false → (x || y) ≡ false
or_both x y e f = rw (e, f) refl

longer : (key : List ℕ) (keys : List (List ℕ)) → longest keys < length key → has_key key keys ≡ false
unfolding longest
longer key [] h = refl
longer key (k ∷ ks) h = or_both (bytes_eq key k) (has_key key ks) (other key k (omega arith)) (longer key ks (omega arith))

letters : ℕ → List Char
letters zero = []
letters (suc n) = plain 97 ∷ letters n

letters-are : (n : ℕ) → AreChars (letters n)
unfolding letters
letters-are zero = tt
letters-are (suc n) = ((refl, omega arith, refl, refl), letters-are n)

letters-length : (n : ℕ) → length (string_content (letters n)) ≡ n
unfolding letters
letters-length zero = refl
letters-length (suc n) =
    let one : length (encode_utf8 97) ≡ 1 = ap length (encode_one 97 refl) in
    omega (arith, length-append (encode_utf8 97) (string_content (letters n)), letters-length n)

pub string_content-append : (cs ds : List Char) → string_content (cs ++ ds) ≡ string_content cs ++ string_content ds
string_content-append [] ds = refl
string_content-append (c ∷ cs) ds = ap (λ w. encode_utf8 (char_value c) ++ w) (string_content-append cs ds) ∙ sym (append_assoc (encode_utf8 (char_value c)) (string_content cs) (string_content ds))

pub print_chars-append : (cs ds : List Char) → print_chars (cs ++ ds) ≡ print_chars cs ++ print_chars ds
print_chars-append [] ds = refl
print_chars-append (c ∷ cs) ds = ap (λ w. print_char c ++ w) (print_chars-append cs ds) ∙ sym (append_assoc (print_char c) (print_chars cs) (print_chars ds))

pub are-append : (cs ds : List Char) → AreChars cs → AreChars ds → AreChars (cs ++ ds)
are-append [] ds h k = k
are-append (c ∷ cs) ds h k = (h.0, are-append cs ds h.1 k)

-- characters that make a key another one than all these
pub record Fresh (cs : List Char) (keys : List (List ℕ)) : Type 0 where
  pub more : List Char
  pub are : AreChars more
  pub fresh : has_key (string_content (cs ++ more)) keys ≡ false

pub fresh_after : (cs : List Char) (keys : List (List ℕ)) → Fresh cs keys
fresh_after cs keys =
    let ds = letters (suc (longest keys)) in
    let grown : length (string_content (cs ++ letters (suc (longest keys)))) ≡ length (string_content cs) + suc (longest keys) = ap length (string_content-append cs ds) ∙ (length-append (string_content cs) (string_content ds) ∙ ap (λ n. length (string_content cs) + n) (letters-length (suc (longest keys)))) in
    record { more = ds; are = letters-are (suc (longest keys)); fresh = longer (string_content (cs ++ ds)) keys (omega arith) }
