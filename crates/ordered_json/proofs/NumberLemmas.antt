-- The reader goes over numbers.
use Rattle.std.proofs.Common.{◌≡◌, [], ◌∷◌, ◌++◌, ℕ, ◌+◌, ◌-◌, ◌*◌, ◌^◌, min, Bool, true, false, ◌||◌, ◌==◌, inl, inr, List, length, Option, Ok, Err, refl, ap, sym, ◌∙◌, arith, fold, subst}
use Rattle.std.proofs.lemmas.Bool.Decides.{nat_tests}
use Rattle.ordered_json.specs.declared.fault.JsonFault.TheVariants.{Fraction, Range}
use Rattle.ordered_json.specs.declared.json.OrderedJson.{OrderedJson, Int}
use Rattle.ordered_json.specs.declared.level.Level.{Level}
use Rattle.ordered_json.specs.declared.mode.Mode.{Mode}
use Rattle.ordered_json.specs.declared.mode.Mode.TheVariants as mode
use Rattle.ordered_json.specs.Grammar.{is_decimal, AreDigits, IsWhole, with_minus}
use Rattle.ordered_json.specs.Meaning.{magnitude, int_value, fits}
use Rattle.ordered_json.specs.Faults.{is_mark, EndsNumber}
use Rattle.ordered_json.specs.Steps.{between, begin_value, take_byte, settle, end_number, after_digits, in_digits, after_minus, answer_from, answer_of, and_then, open_number}
use Rattle.ordered_json.proofs.RunLemmas.{Answers, by_step, by_place, by_fault}
use Rattle.ordered_json.proofs.StateLemmas.{state, Ready, finished, complete_ready, awaiting}
use Rattle.ordered_json.proofs.LiteralLemmas.{Answer}

-- a number as the reader keeps it
abbrev pub sat : ℕ → ℕ
sat n = min n (2 ^ 64 - 1)

abbrev pub grow : ℕ → ℕ → ℕ
grow n b = n * 10 + (b - 48)

pub sat-grow : (n d : ℕ) → min (min (sat n * 10) (2 ^ 64 - 1) + d) (2 ^ 64 - 1) ≡ sat (n * 10 + d)
sat-grow n d = omega arith

fits-sat : (minus : Bool) (n : ℕ) → fits minus (sat n) ≡ fits minus n
fits-sat true n = grind (arith, nat_tests)
fits-sat false n = grind (arith, nat_tests)

sat-fits : (minus : Bool) (n : ℕ) → fits minus n ≡ true → sat n ≡ n
sat-fits true n h = grind (arith, nat_tests)
sat-fits false n h = grind (arith, nat_tests)

-- the mode after the digits of a number
pub record IsNumberMode (m : Mode) (first : ℕ) (minus : Bool) (n : ℕ) : Type 0 where
  pub at_end : (place : ℕ) (ls : List Level) (o : Option OrderedJson) → settle place (state m ls o) ≡ end_number place (open_number first minus (sat n)) (state m ls o)
  pub at_byte : (place b : ℕ) (ls : List Level) (o : Option OrderedJson) → is_decimal b ≡ false → take_byte place b (state m ls o) ≡ after_digits place (open_number first minus (sat n)) b (state m ls o)

pub zero_mode : (first : ℕ) (minus : Bool) → IsNumberMode (mode.Zero (open_number first minus 0)) first minus 0
unfolding settle take_byte
zero_mode first minus = record { at_end = λ place ls o. refl; at_byte = λ place b ls o h. refl }

pub digits_mode : (first : ℕ) (minus : Bool) (n : ℕ) → IsNumberMode (mode.Digits (open_number first minus (sat n))) first minus n
unfolding settle take_byte in_digits
digits_mode first minus n = record { at_end = λ place ls o. refl; at_byte = λ place b ls o h. rw h refl }

-- one digit more
pub digit_step : (place first b : ℕ) (minus : Bool) (n : ℕ) (ls : List Level) (o : Option OrderedJson) → is_decimal b ≡ true → take_byte place b (state (mode.Digits (open_number first minus (sat n))) ls o) ≡ Ok (state (mode.Digits (open_number first minus (sat (grow n b)))) ls o)
unfolding take_byte in_digits
digit_step place first b minus n ls o h = rw h (ap (λ k. Ok (state (mode.Digits (open_number first minus k)) ls o)) (sat-grow n (b - 48)))

digits_read : (ds : List ℕ) (n : ℕ) {p first : ℕ} {minus : Bool} {rest : List ℕ} {ls : List Level} {o : Option OrderedJson} {x : Answer} → AreDigits ds → Answers (p + length ds) rest (Ok (state (mode.Digits (open_number first minus (sat (fold grow n ds)))) ls o)) x → Answers p (ds ++ rest) (Ok (state (mode.Digits (open_number first minus (sat n))) ls o)) x
digits_read [] n {p = p} h a = by_place {q = p + 0} (omega arith) a
digits_read (b ∷ ds) n {p} {first} {minus} {ls = ls} {o = o} h a = by_step (digit_step p first b minus n ls o h.0) (digits_read ds (grow n b) h.1 (by_place {q = p + length (b ∷ ds)} (omega arith) a))

pub small_digit : (b : ℕ) → is_decimal b ≡ true → sat (grow 0 b) ≡ b - 48
small_digit b h = grind (arith, nat_tests)

no_digit : (b c : ℕ) → is_decimal b ≡ true → is_decimal c ≡ false → b == c ≡ false
no_digit b c h n = grind (arith, nat_tests)

-- the first digit
first_step : (f : Bool) (p b : ℕ) (ls : List Level) (o : Option OrderedJson) → b == 48 ≡ false → is_decimal b ≡ true → take_byte p b (state (awaiting f) ls o) ≡ Ok (state (mode.Digits (open_number p false (sat (grow 0 b)))) ls o)
unfolding take_byte between begin_value
first_step true p b ls o n h =
    rw (no_digit b 32 h refl, no_digit b 9 h refl, no_digit b 10 h refl, no_digit b 13 h refl, no_digit b 93 h refl, no_digit b 34 h refl, no_digit b 91 h refl, no_digit b 123 h refl, no_digit b 110 h refl, no_digit b 116 h refl, no_digit b 102 h refl, no_digit b 45 h refl, n, h)
    (ap (λ k. Ok (state (mode.Digits (open_number p false k)) ls o)) (sym (small_digit b h)))
first_step false p b ls o n h =
    rw (no_digit b 32 h refl, no_digit b 9 h refl, no_digit b 10 h refl, no_digit b 13 h refl, no_digit b 34 h refl, no_digit b 91 h refl, no_digit b 123 h refl, no_digit b 110 h refl, no_digit b 116 h refl, no_digit b 102 h refl, no_digit b 45 h refl, n, h)
    (ap (λ k. Ok (state (mode.Digits (open_number p false k)) ls o)) (sym (small_digit b h)))

first_minus : (p q b : ℕ) (ls : List Level) (o : Option OrderedJson) → b == 48 ≡ false → is_decimal b ≡ true → take_byte p b (state (mode.Minus q) ls o) ≡ Ok (state (mode.Digits (open_number q true (sat (grow 0 b)))) ls o)
unfolding take_byte after_minus
first_minus p q b ls o n h = rw n (rw h (ap (λ k. Ok (state (mode.Digits (open_number q true k)) ls o)) (sym (small_digit b h))))

minus_step : (f : Bool) (p : ℕ) (ls : List Level) (o : Option OrderedJson) → take_byte p 45 (state (awaiting f) ls o) ≡ Ok (state (mode.Minus p) ls o)
unfolding take_byte between begin_value
minus_step true p ls o = refl
minus_step false p ls o = refl

zero_step : (f : Bool) (p : ℕ) (ls : List Level) (o : Option OrderedJson) → take_byte p 48 (state (awaiting f) ls o) ≡ Ok (state (mode.Zero (open_number p false 0)) ls o)
unfolding take_byte between begin_value
zero_step true p ls o = refl
zero_step false p ls o = refl

zero_minus : (p q : ℕ) (ls : List Level) (o : Option OrderedJson) → take_byte p 48 (state (mode.Minus q) ls o) ≡ Ok (state (mode.Zero (open_number q true 0)) ls o)
unfolding take_byte after_minus
zero_minus p q ls o = refl

-- what follows the digits, in whatever mode they leave the reader
abbrev Follows : ℕ → Bool → List ℕ → List ℕ → List Level → Option OrderedJson → Answer → Type 0
Follows p minus ds rest ls o x = (m : Mode) → IsNumberMode m p minus (magnitude ds) → Answers (p + length (with_minus minus ds)) rest (Ok (state m ls o)) x

zero_read : (f minus : Bool) (p : ℕ) (rest : List ℕ) (ls : List Level) (o : Option OrderedJson) (x : Answer) → Follows p minus (48 ∷ []) rest ls o x → Answers p (with_minus minus (48 ∷ []) ++ rest) (Ok (state (awaiting f) ls o)) x
zero_read f true p rest ls o x k = by_step (minus_step f p ls o) (by_step (zero_minus (p + 1) p ls o) (by_place {q = p + 2} (omega arith) (k (mode.Zero (open_number p true 0)) (zero_mode p true))))
zero_read f false p rest ls o x k = by_step (zero_step f p ls o) (k (mode.Zero (open_number p false 0)) (zero_mode p false))

-- the sign and digits that do not begin with 0
pub nonzero_read : (f minus : Bool) (b : ℕ) (bs : List ℕ) {p : ℕ} {rest : List ℕ} {ls : List Level} {o : Option OrderedJson} {x : Answer} → b == 48 ≡ false → AreDigits (b ∷ bs) → Answers (p + length (with_minus minus (b ∷ bs))) rest (Ok (state (mode.Digits (open_number p minus (sat (magnitude (b ∷ bs))))) ls o)) x → Answers p (with_minus minus (b ∷ bs) ++ rest) (Ok (state (awaiting f) ls o)) x
nonzero_read f true b bs {p} {ls = ls} {o = o} n h a =
    by_step (minus_step f p ls o) (by_step (first_minus (p + 1) p b ls o n h.0) (digits_read bs (grow 0 b) h.1 (by_place {q = p + length (45 ∷ b ∷ bs)} (omega arith) a)))
nonzero_read f false b bs {p} {ls = ls} {o = o} n h a = by_step (first_step f p b ls o n h.0) (digits_read bs (grow 0 b) h.1 (by_place {q = p + length (b ∷ bs)} (omega arith) a))

-- the sign and the digits
pub number_read : (f minus : Bool) (ds : List ℕ) {p : ℕ} {rest : List ℕ} {ls : List Level} {o : Option OrderedJson} {x : Answer} → IsWhole ds
    → ((m : Mode) → IsNumberMode m p minus (magnitude ds) → Answers (p + length (with_minus minus ds)) rest (Ok (state m ls o)) x)
    → Answers p (with_minus minus ds ++ rest) (Ok (state (awaiting f) ls o)) x
number_read f minus [] h k = absurd h
number_read f minus (b ∷ bs) {p} {rest} {ls} {o} {x} (inl e) k =
    let same : 48 ∷ [] ≡ b ∷ bs = cc in
    subst (λ ds. Follows p minus ds rest ls o x → Answers p (with_minus minus ds ++ rest) (Ok (state (awaiting f) ls o)) x) same (zero_read f minus p rest ls o x) k
number_read f minus (b ∷ bs) {p} {ls = ls} {o = o} (inr e) k = nonzero_read f minus b bs e.0 e.1 (k (mode.Digits (open_number p minus (sat (magnitude (b ∷ bs))))) (digits_mode p minus (magnitude (b ∷ bs))))

-- the end of a number that fits
pub number_taken : (place first : ℕ) (minus : Bool) (n : ℕ) (m : Mode) (ls : List Level) (o : Option OrderedJson) → Ready ls → fits minus n ≡ true → end_number place (open_number first minus (sat n)) (state m ls o) ≡ Ok (finished (Int first (int_value minus n)) ls o)
unfolding end_number
number_taken place first minus n m ls o r h = rw (sat-fits minus n h) (rw h (complete_ready place (Int first (int_value minus n)) m ls o r))

pub number_refused : (place first : ℕ) (minus : Bool) (n : ℕ) (m : Mode) (ls : List Level) (o : Option OrderedJson) → fits minus n ≡ false → end_number place (open_number first minus (sat n)) (state m ls o) ≡ Err (Range first)
unfolding end_number
number_refused place first minus n m ls o h = rw (fits-sat minus n) (rw h refl)

pub or_false : (x y : Bool) → (x || y) ≡ false → (x ≡ false) × (y ≡ false)
or_false true y e = cc
or_false false true e = cc
or_false false false e = (refl, refl)

ended_step : (place first b : ℕ) (minus : Bool) (n : ℕ) (m : Mode) (ls : List Level) (o : Option OrderedJson) → IsNumberMode m first minus n → is_decimal b || is_mark b ≡ false → take_byte place b (state m ls o) ≡ and_then (end_number place (open_number first minus (sat n)) (state m ls o)) (between place b)
unfolding after_digits
ended_step place first b minus n m ls o is h =
    let apart = or_false (is_decimal b) (is_mark b) h in
    is.at_byte place b ls o apart.0 ∙ rw apart.1 refl

pub number_ends : {m : Mode} {first : ℕ} {minus : Bool} {n : ℕ} {p : ℕ} (rest : List ℕ) {ls : List Level} {o : Option OrderedJson} {x : Answer} → IsNumberMode m first minus n → Ready ls → fits minus n ≡ true → EndsNumber rest → Answers p rest (Ok (finished (Int first (int_value minus n)) ls o)) x → Answers p rest (Ok (state m ls o)) x
unfolding settle take_byte
number_ends {m} {first} {minus} {n} {p} [] {ls} {o} is r h e a = record { is = ap (answer_of p) (is.at_end p ls o ∙ number_taken p first minus n m ls o r h) ∙ a.is }
number_ends {m} {first} {minus} {n} {p} (b ∷ bs) {ls} {o} is r h e a = record { is = ap (answer_from (p + 1) bs) (ended_step p first b minus n m ls o is e ∙ ap (λ u. and_then u (between p b)) (number_taken p first minus n m ls o r h)) ∙ a.is }

pub number_too_large : {m : Mode} {first : ℕ} {minus : Bool} {n : ℕ} {p : ℕ} (rest : List ℕ) {ls : List Level} {o : Option OrderedJson} → IsNumberMode m first minus n → fits minus n ≡ false → EndsNumber rest → Answers p rest (Ok (state m ls o)) (Err (Range first))
number_too_large {m} {first} {minus} {n} {p} [] {ls} {o} is h e = record { is = ap (answer_of p) (is.at_end p ls o ∙ number_refused p first minus n m ls o h) }
number_too_large {m} {first} {minus} {n} {p} (b ∷ bs) {ls} {o} is h e = by_step (ended_step p first b minus n m ls o is e ∙ ap (λ u. and_then u (between p b)) (number_refused p first minus n m ls o h)) (by_fault refl)

mark_no_digit : (b : ℕ) → is_mark b ≡ true → is_decimal b ≡ false
mark_no_digit b h = grind (arith, nat_tests)

pub number_marked : {m : Mode} {first : ℕ} {minus : Bool} {n : ℕ} {p b : ℕ} {bs : List ℕ} {ls : List Level} {o : Option OrderedJson} → IsNumberMode m first minus n → is_mark b ≡ true → Answers p (b ∷ bs) (Ok (state m ls o)) (Err (Fraction first))
unfolding after_digits
number_marked {m} {first} {minus} {n} {p} {b} {ls = ls} {o = o} is h = by_step (is.at_byte p b ls o (mark_no_digit b h) ∙ rw h refl) (by_fault refl)
