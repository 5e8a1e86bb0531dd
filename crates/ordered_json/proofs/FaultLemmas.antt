-- A text has at most one first fault, and none where it has a value: the reader answers it.
use Rattle.std.proofs.Common.{◌≡◌, ◌≢◌, [], ◌∷◌, ◌++◌, ℕ, ◌+◌, ◌<◌, ◌≤◌, Bool, true, false, ◌==◌, ◌⊎◌, inl, inr, List, length, take, drop, None, Ok, Err, refl, ap, sym, ◌∙◌, arith, subst, append_assoc, append-nil, length-append}
use Rattle.std.proofs.Math.Seq.{take-append_seam, take-append-add}
use Rattle.std.proofs.lemmas.List.{take-append-drop, length-take-le, take-append-le}
use Rattle.std.proofs.lemmas.Bool.Decides.{nat_tests}
use Rattle.ordered_json.specs.declared.TheConstants.{MAX_TEXT}
use Rattle.ordered_json.specs.declared.fault.JsonFault.{JsonFault}
use Rattle.ordered_json.specs.declared.fault.JsonFault.TheVariants.{Syntax, DoubleKey, Fraction, Range, TooDeep, TooLong, Memory}
use Rattle.ordered_json.specs.declared.json.OrderedJson.{OrderedJson}
use Rattle.ordered_json.specs.declared.level.Level.{Level}
use Rattle.ordered_json.specs.declared.mode.Mode.TheVariants as mode
use Rattle.ordered_json.specs.Grammar.{is_decimal, IsWhole, with_minus, print_string, number, print, IsJson}
use Rattle.ordered_json.specs.Meaning.{magnitude, fits, HasValue, Means}
use Rattle.ordered_json.specs.Faults.{Begins, BeginsFaultless, HasSyntaxFault, HasDoubleKey, is_mark, BeginsWithMark, HasFraction, IsOutOfRange, IsTooDeep, HasFault}
use Rattle.ordered_json.specs.Steps.{reader_answer, answer_from, between, after_digits, take_byte, and_then, open_number}
use Rattle.ordered_json.proofs.RunLemmas.{by_step, by_fault}
use Rattle.ordered_json.proofs.StateLemmas.{state}
use Rattle.ordered_json.proofs.LiteralLemmas.{Answer}
use Rattle.ordered_json.proofs.NumberLemmas.{sat, grow, digits_mode, digit_step, number_read, nonzero_read, number_too_large, number_marked, number_refused}
use Rattle.ordered_json.proofs.PrefixLemmas.{faultless-front, plug_json, plug_key}
use Rattle.ordered_json.proofs.AnswerLemmas.{reader_answer-value, Says, answer_says}
use Rattle.ordered_json.proofs.AwaitLemmas.{ValueAwaited, value_awaited, key_awaited, at_place, split_at, other_value, bracket_tree, never, fraction_answer, range_answer, too_deep_answer, double_key_answer}

-- ---- a fault of the syntax
begins-front : (front back : List ℕ) → Begins (front ++ back) → Begins front
begins-front front back h = (back ++ h.0, subst IsJson (append_assoc front back h.0) h.1)

faultless-begins : (text : List ℕ) → BeginsFaultless text → Begins text
faultless-begins text h = (h.0, (h.2.0, h.2.1, h.2.2, h.2.3))

take-take : (n m : ℕ) (text : List ℕ) → n ≤ m → m ≤ length text → take n (take m text) ≡ take n text
take-take n m text l h =
    sym (ap (take n) (sym (take-append-drop m text)) ∙ take-append-le n (take m text) (drop m text) (let same = length-take-le m text h in omega arith))

front-of : (n m : ℕ) (text : List ℕ) → n ≤ m → m ≤ length text → take n text ++ drop n (take m text) ≡ take m text
front-of n m text l h = ap (λ w. w ++ drop n (take m text)) (sym (take-take n m text l h)) ∙ take-append-drop n (take m text)

begins-take : (n m : ℕ) (text : List ℕ) → n ≤ m → m ≤ length text → Begins (take m text) → Begins (take n text)
begins-take n m text l h b = begins-front (take n text) (drop n (take m text)) (subst Begins (sym (front-of n m text l h)) b)

faultless-take : (n m : ℕ) (text : List ℕ) → n ≤ m → m ≤ length text → BeginsFaultless (take m text) → BeginsFaultless (take n text)
faultless-take n m text l h b = faultless-front (take n text) (drop n (take m text)) (subst BeginsFaultless (sym (front-of n m text l h)) b)

fault_place : (text : List ℕ) (p : ℕ) → HasSyntaxFault text p → p ≤ length text
fault_place text p h = by h.fault
  where
    by : ((p ≡ length text) × (IsJson text → ⊥)) ⊎ ((p < length text) × (Begins (take (p + 1) text) → ⊥)) → p ≤ length text
    by (inl e) = let same : p ≡ length text = e.0 in omega arith
    by (inr l) = let short : p < length text = l.0 in omega arith

-- no fault of the syntax stands where the bytes up to n begin a JSON text, and none without a fault
refusal_clash : (text : List ℕ) (p n : ℕ) → HasSyntaxFault text p → n ≤ length text → Begins (take n text) → (BeginsFaultless (take n text) → ⊥) → ⊥
refusal_clash text p n h l begins refused = by h.fault (order p n)
  where
    order : (a b : ℕ) → (b ≤ a) ⊎ (a + 1 ≤ b)
    order a b = grind arith

    by : ((p ≡ length text) × (IsJson text → ⊥)) ⊎ ((p < length text) × (Begins (take (p + 1) text) → ⊥)) → (n ≤ p) ⊎ (p + 1 ≤ n) → ⊥
    by fault (inl o) = refused (faultless-take n p text o (fault_place text p h) h.faultless)
    by (inl e) (inr o) = refused (faultless-take n p text (let same : p ≡ length text = e.0 in omega arith) (fault_place text p h) h.faultless)
    by (inr s) (inr o) = s.1 (begins-take (p + 1) n text o l begins)

syntax_places : (text : List ℕ) (p q : ℕ) → HasSyntaxFault text p → HasSyntaxFault text q → p < q → ⊥
syntax_places text p q h k l = by h.fault
  where
    by : ((p ≡ length text) × (IsJson text → ⊥)) ⊎ ((p < length text) × (Begins (take (p + 1) text) → ⊥)) → ⊥
    by (inl e) = let same : p ≡ length text = e.0 in let short : q ≤ length text = fault_place text q k in omega arith
    by (inr s) = s.1 (begins-take (p + 1) q text (omega arith) (fault_place text q k) (faultless-begins (take q text) k.faultless))

same_place : (p q : ℕ) → (p < q → ⊥) → (q < p → ⊥) → p ≡ q
same_place p q h k = by (order p q)
  where
    order : (a b : ℕ) → (a < b) ⊎ ((b < a) ⊎ (a ≡ b))
    order a b = grind arith

    by : (p < q) ⊎ ((q < p) ⊎ (p ≡ q)) → p ≡ q
    by (inl l) = absurd (h l)
    by (inr (inl l)) = absurd (k l)
    by (inr (inr e)) = e

-- the bytes up to a part that stands at a place
through : (text part rest : List ℕ) (p : ℕ) → p ≤ length text → drop p text ≡ part ++ rest → take (p + length part) text ≡ take p text ++ part
through text part rest p l stands =
    ap (take (p + length part)) (sym (split_at text (part ++ rest) p stands))
    ∙ (ap (λ n. take (n + length part) (take p text ++ (part ++ rest))) (sym (at_place text p l))
    ∙ (take-append-add (take p text) (part ++ rest) (length part) ∙ ap (λ w. take p text ++ w) (take-append_seam part rest)))

within : (text part rest : List ℕ) (p : ℕ) → p ≤ length text → drop p text ≡ part ++ rest → p + length part ≤ length text
within text part rest p l stands =
    omega (arith, at_place text p l, ap length (split_at text (part ++ rest) p stands), length-append (take p text) (part ++ rest), length-append part rest)

part_clash : (text part rest : List ℕ) (p q : ℕ) → HasSyntaxFault text p → q ≤ length text → drop q text ≡ part ++ rest → Begins (take q text ++ part) → (BeginsFaultless (take q text ++ part) → ⊥) → ⊥
part_clash text part rest p q h l stands begins refused =
    refusal_clash text p (q + length part) h (within text part rest q l stands)
    (subst Begins (sym (through text part rest q l stands)) begins) (λ f. refused (subst BeginsFaultless (through text part rest q l stands) f))

too_deep_clash : (text : List ℕ) (p q : ℕ) → HasSyntaxFault text p → IsTooDeep text q → ⊥
too_deep_clash text p q h k =
    let v = value_awaited (take q text) k.awaited in
    let t = bracket_tree k.bracket k.opens in
    let whole : take q text ++ print t.0 ≡ (take q text ++ k.bracket ∷ []) ++ t.1 ∷ [] = ap (λ w. take q text ++ w) t.2 ∙ sym (append_assoc (take q text) (k.bracket ∷ []) (t.1 ∷ [])) in
    part_clash text (k.bracket ∷ []) k.rest p q h k.within k.stands
    (begins-front (take q text ++ k.bracket ∷ []) (t.1 ∷ []) (subst Begins whole (plug_json v.ls (take q text) v.awaited t.0 t.3))) k.too_deep

double_key_clash : (text : List ℕ) (p q : ℕ) → HasSyntaxFault text p → HasDoubleKey text q → ⊥
double_key_clash text p q h k =
    let a = key_awaited (take q text) k.awaited in
    part_clash text (print_string k.key) k.rest p q h k.within k.stands (plug_key a.ls a.q a.members (take q text) a.awaited k.key k.well_formed) k.double

-- the text of a number, up to its mark
number_begins : (text : List ℕ) (v : ValueAwaited text) (minus : Bool) (ds : List ℕ) (b : ℕ) → IsWhole ds → is_mark b ≡ true → Begins (text ++ (with_minus minus ds ++ b ∷ []))
number_begins text v minus ds b whole marked = by (b == 46) refl
  where
    is : (a c : ℕ) → a == c ≡ true → a ≡ c
    is a c e = grind (arith, nat_tests)

    other : (a : ℕ) → a == 46 ≡ false → is_mark a ≡ true → (a ≡ 101) ⊎ (a ≡ 69)
    other a n m = grind (arith, nat_tests)

    by : (x : Bool) → b == 46 ≡ x → Begins (text ++ (with_minus minus ds ++ b ∷ []))
    by true e =
        begins-front (text ++ (with_minus minus ds ++ b ∷ [])) (48 ∷ []) (subst Begins (ap (λ w. text ++ w) (ap (λ w. with_minus minus ds ++ b ∷ w) refl ∙ sym (append_assoc (with_minus minus ds) (b ∷ []) (48 ∷ []))) ∙ sym (append_assoc text (with_minus minus ds ++ b ∷ []) (48 ∷ [])))
        (plug_json v.ls text v.awaited (number minus ds (b ∷ 48 ∷ []) []) (whole, (is b 46 e, (refl, tt)), tt)))
    by false e =
        begins-front (text ++ (with_minus minus ds ++ b ∷ [])) (48 ∷ []) (subst Begins (ap (λ w. text ++ w) (sym (append_assoc (with_minus minus ds) (b ∷ []) (48 ∷ []))) ∙ sym (append_assoc text (with_minus minus ds ++ b ∷ []) (48 ∷ [])))
        (plug_json v.ls text v.awaited (number minus ds [] (b ∷ 48 ∷ [])) (whole, tt, (other b e marked, inl (refl, tt)))))

fraction_clash : (text : List ℕ) (p q : ℕ) → HasSyntaxFault text p → HasFraction text q → ⊥
fraction_clash text p q h k = by k.0.rest k.0.stands k.1
  where
    v : ValueAwaited (take q text)
    v = value_awaited (take q text) k.0.awaited

    by : (rest : List ℕ) → drop q text ≡ with_minus k.0.minus k.0.digits ++ rest → BeginsWithMark rest → ⊥
    by [] stands marked = marked
    by (b ∷ bs) stands marked =
        part_clash text (with_minus k.0.minus k.0.digits ++ b ∷ []) bs p q h k.0.within (stands ∙ sym (append_assoc (with_minus k.0.minus k.0.digits) (b ∷ []) bs))
        (number_begins (take q text) v k.0.minus k.0.digits b k.0.whole marked)
        (λ f. refused f)
      where
        refused : BeginsFaultless (take q text ++ (with_minus k.0.minus k.0.digits ++ b ∷ [])) → ⊥
        refused f =
            let bytes : (take q text ++ (with_minus k.0.minus k.0.digits ++ b ∷ [])) ++ f.0 ≡ take q text ++ (with_minus k.0.minus k.0.digits ++ b ∷ f.0) = append_assoc (take q text) (with_minus k.0.minus k.0.digits ++ b ∷ []) f.0 ∙ ap (λ w. take q text ++ w) (append_assoc (with_minus k.0.minus k.0.digits) (b ∷ []) f.0) in
            let a = number_read v.f k.0.minus k.0.digits {p = length (take q text)} {rest = b ∷ f.0} {ls = v.ls} {o = None} {x = Err (Fraction (length (take q text)))} k.0.whole (λ m is. number_marked is marked) in
            other_value (take q text ++ (with_minus k.0.minus k.0.digits ++ b ∷ f.0)) f.1 (Fraction (length (take q text))) (ap reader_answer (sym bytes) ∙ reader_answer-value ((take q text ++ (with_minus k.0.minus k.0.digits ++ b ∷ [])) ++ f.0) f.1 f.2) (v.follows (with_minus k.0.minus k.0.digits ++ b ∷ f.0) ∙ a.is)

-- a number that is too large stays so
still_large : (minus : Bool) (n b : ℕ) → fits minus n ≡ false → fits minus (grow n b) ≡ false
still_large true n b h = grind (arith, nat_tests)
still_large false n b h = grind (arith, nat_tests)

large_step : (q : ℕ) (minus : Bool) (n : ℕ) (ls : List Level) (p b : ℕ) → fits minus n ≡ false → is_decimal b ≡ false → (fault : JsonFault) × (take_byte p b (state (mode.Digits (open_number q minus (sat n))) ls None) ≡ Err fault)
unfolding after_digits
large_step q minus n ls p b h d = by (is_mark b) refl
  where
    by : (x : Bool) → is_mark b ≡ x → (fault : JsonFault) × (take_byte p b (state (mode.Digits (open_number q minus (sat n))) ls None) ≡ Err fault)
    by true e = (Fraction q, (digits_mode q minus n).at_byte p b ls None d ∙ rw e refl)
    by false e = (Range q, (digits_mode q minus n).at_byte p b ls None d ∙ rw e (ap (λ o. and_then o (between p b)) (number_refused p q minus n (mode.Digits (open_number q minus (sat n))) ls None h)))

over_range : (tail : List ℕ) (p q : ℕ) (minus : Bool) (n : ℕ) (ls : List Level) (json : OrderedJson) → fits minus n ≡ false → answer_from p tail (Ok (state (mode.Digits (open_number q minus (sat n))) ls None)) ≡ Ok json → ⊥
over_range [] p q minus n ls json h e = never p [] (state (mode.Digits (open_number q minus (sat n))) ls None) e (number_too_large [] (digits_mode q minus n) h tt)
over_range (b ∷ tail) p q minus n ls json h e = by (is_decimal b) refl (λ f. over_range tail (p + 1) q minus (grow n b) ls json (still_large minus n b h) f)
  where
    by : (x : Bool) → is_decimal b ≡ x → (answer_from (p + 1) tail (Ok (state (mode.Digits (open_number q minus (sat (grow n b)))) ls None)) ≡ Ok json → ⊥) → ⊥
    by true d on = on (ap (answer_from (p + 1) tail) (sym (digit_step p q b minus n ls None d)) ∙ e)
    by false d on = let s = large_step q minus n ls p b h d in never p (b ∷ tail) (state (mode.Digits (open_number q minus (sat n))) ls None) e (by_step s.1 (by_fault refl))

range_refused : (text : List ℕ) (v : ValueAwaited text) (minus : Bool) (ds : List ℕ) → IsWhole ds → fits minus (magnitude ds) ≡ false → BeginsFaultless (text ++ with_minus minus ds) → ⊥
range_refused text v minus [] whole large f = whole
range_refused text v minus (d ∷ ds) (inl e) large f = let zero_fits : fits minus (magnitude (d ∷ ds)) ≡ true = (let same : 48 ∷ [] ≡ d ∷ ds = cc in subst (λ w. fits minus (magnitude w) ≡ true) same (both minus)) in let clash : true ≡ false = sym zero_fits ∙ large in cc
  where
    both : (m : Bool) → fits m 0 ≡ true
    both true = refl
    both false = refl
range_refused text v minus (d ∷ ds) (inr e) large f =
    let p = length text + length (with_minus minus (d ∷ ds)) in
    let s = state (mode.Digits (open_number (length text) minus (sat (magnitude (d ∷ ds))))) v.ls None in
    let a = nonzero_read v.f minus d ds {p = length text} {rest = f.0} {ls = v.ls} {o = None} {x = answer_from p f.0 (Ok s)} e.0 e.1 (record { is = refl }) in
    over_range f.0 p (length text) minus (magnitude (d ∷ ds)) v.ls f.1 large
    (sym (v.follows (with_minus minus (d ∷ ds) ++ f.0) ∙ a.is) ∙ (ap reader_answer (sym (append_assoc text (with_minus minus (d ∷ ds)) f.0)) ∙ reader_answer-value ((text ++ with_minus minus (d ∷ ds)) ++ f.0) f.1 f.2))

range_clash : (text : List ℕ) (p q : ℕ) → HasSyntaxFault text p → IsOutOfRange text q → ⊥
range_clash text p q h k =
    let v = value_awaited (take q text) k.0.awaited in
    part_clash text (with_minus k.0.minus k.0.digits) k.0.rest p q h k.0.within k.0.stands
    (subst Begins (ap (λ w. take q text ++ w) (append-nil (with_minus k.0.minus k.0.digits))) (plug_json v.ls (take q text) v.awaited (number k.0.minus k.0.digits [] []) (k.0.whole, tt, tt)))
    (range_refused (take q text) v k.0.minus k.0.digits k.0.whole k.2)

syntax_answer : (text : List ℕ) (p : ℕ) → HasSyntaxFault text p → reader_answer text ≡ Err (Syntax p)
syntax_answer text p h = by (reader_answer text) refl (answer_says text)
  where
    is_json : (json : OrderedJson) → HasValue text json → IsJson text
    is_json json k = (k.0, k.1, k.2, k.3)

    value : (json : OrderedJson) → HasValue text json → ((p ≡ length text) × (IsJson text → ⊥)) ⊎ ((p < length text) × (Begins (take (p + 1) text) → ⊥)) → ⊥
    value json k (inl e) = e.1 (is_json json k)
    value json k (inr s) = s.1 (drop (p + 1) text, subst IsJson (sym (take-append-drop (p + 1) text)) (is_json json k))

    by : (x : Answer) → reader_answer text ≡ x → Says text x → reader_answer text ≡ Err (Syntax p)
    by (Ok json) e k = absurd (value json k h.fault)
    by (Err (Syntax q)) e k = e ∙ ap (λ n. Err (Syntax n)) (same_place q p (syntax_places text q p k h) (syntax_places text p q h k))
    by (Err (DoubleKey q)) e k = absurd (double_key_clash text p q h k)
    by (Err (Fraction q)) e k = absurd (fraction_clash text p q h k)
    by (Err (Range q)) e k = absurd (range_clash text p q h k)
    by (Err (TooDeep q)) e k = absurd (too_deep_clash text p q h k)
    by (Err TooLong) e k = absurd k
    by (Err Memory) e k = absurd k

-- ---- the laws
-- the fault of a text that is short enough is its answer
pub fault_answer : (text : List ℕ) (fault : JsonFault) → fault ≢ Memory → length text ≤ MAX_TEXT → HasFault text fault → reader_answer text ≡ Err fault
fault_answer text (Syntax p) n l h = syntax_answer text p h.1
fault_answer text (DoubleKey p) n l h = double_key_answer text p h.1
fault_answer text (Fraction p) n l h = fraction_answer text p h.1
fault_answer text (Range p) n l h = range_answer text p h.1
fault_answer text (TooDeep p) n l h = too_deep_answer text p h.1
fault_answer text TooLong n l h = let long : MAX_TEXT < length text = h in absurd (omega arith)
fault_answer text Memory n l h = absurd (n refl)

pub no_fault : (text : List ℕ) (json : OrderedJson) (fault : JsonFault) → fault ≢ Memory → Means text json → HasFault text fault → ⊥
no_fault text json fault n m h = other_value text json fault (reader_answer-value text json m.1) (fault_answer text fault n m.0 h)

short_or_long : (text : List ℕ) → (length text ≤ MAX_TEXT) ⊎ (MAX_TEXT < length text)
short_or_long text = order (length text)
  where
    order : (k : ℕ) → (k ≤ 1048576) ⊎ (1048576 < k)
    order k = grind arith

-- a text that is too long has no other fault
long_fault : (text : List ℕ) (fault : JsonFault) → fault ≢ Memory → MAX_TEXT < length text → HasFault text fault → fault ≡ TooLong
long_fault text (Syntax p) n l h = let short : length text ≤ MAX_TEXT = h.0 in absurd (omega arith)
long_fault text (DoubleKey p) n l h = let short : length text ≤ MAX_TEXT = h.0 in absurd (omega arith)
long_fault text (Fraction p) n l h = let short : length text ≤ MAX_TEXT = h.0 in absurd (omega arith)
long_fault text (Range p) n l h = let short : length text ≤ MAX_TEXT = h.0 in absurd (omega arith)
long_fault text (TooDeep p) n l h = let short : length text ≤ MAX_TEXT = h.0 in absurd (omega arith)
long_fault text TooLong n l h = refl
long_fault text Memory n l h = absurd (n refl)

pub one_fault : (text : List ℕ) (a b : JsonFault) → a ≢ Memory → b ≢ Memory → HasFault text a → HasFault text b → a ≡ b
one_fault text a b n m h k = by (short_or_long text)
  where
    by : (length text ≤ MAX_TEXT) ⊎ (MAX_TEXT < length text) → a ≡ b
    by (inl l) = let same : ◌≡◌ {A = Answer} (Err a) (Err b) = sym (fault_answer text a n l h) ∙ fault_answer text b m l k in cc
    by (inr l) = long_fault text a n l h ∙ sym (long_fault text b m l k)
