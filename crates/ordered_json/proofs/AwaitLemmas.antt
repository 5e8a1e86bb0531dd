-- Where a value or a key may begin, and what the reader answers to a fault that stands there.
use Rattle.std.proofs.Common.{◌≡◌, [], ◌∷◌, ◌++◌, ℕ, suc, zero, ◌+◌, ◌<◌, ◌≤◌, Bool, true, false, cond, ◌&&◌, ◌==◌, ◌⊎◌, inl, inr, List, length, take, drop, map, Option, Some, None, Ok, Err, refl, ap, sym, ◌∙◌, arith, subst, append_assoc, append-nil, length-append}
use Rattle.std.specs.Prelude.{nat_lt}
use Rattle.std.proofs.lemmas.List.{take-append-drop, length-take-le}
use Rattle.std.proofs.lemmas.Bool.Decides.{nat_tests}
use Rattle.ordered_json.specs.declared.TheConstants.{MAX_LEVELS}
use Rattle.ordered_json.specs.declared.fault.JsonFault.{JsonFault}
use Rattle.ordered_json.specs.declared.fault.JsonFault.TheVariants.{Syntax, DoubleKey, Fraction, Range, TooDeep}
use Rattle.ordered_json.specs.declared.json.Member.{Member}
use Rattle.ordered_json.specs.declared.json.OrderedJson.{OrderedJson, Text, Int}
use Rattle.ordered_json.specs.declared.level.Level.{Level}
use Rattle.ordered_json.specs.declared.level.Level.TheVariants as level
use Rattle.ordered_json.specs.declared.mode.Mode.{Mode}
use Rattle.ordered_json.specs.declared.mode.Mode.TheVariants as mode
use Rattle.ordered_json.specs.declared.mode.Spelled.TheVariants as spelled
use Rattle.ordered_json.specs.declared.mode.Spelling.{Spelling}
use Rattle.ordered_json.specs.declared.mode.Spelling.TheVariants as at
use Rattle.ordered_json.specs.declared.mode.LiteralName.{LiteralName}
use Rattle.ordered_json.specs.declared.mode.LiteralName.TheVariants as literal
use Rattle.ordered_json.specs.declared.reader.Reader.{Reader}
use Rattle.ordered_json.specs.Words.{key_of}
use Rattle.ordered_json.specs.Grammar.{Char, AreChars, with_minus, print_chars, print_string, array, object, no_elements, no_members, Tree, IsTree, print}
use Rattle.ordered_json.specs.Meaning.{magnitude, int_value, fits, string_content, has_key, IsTaken, HasValue}
use Rattle.ordered_json.specs.Faults.{BeginsFaultless, AwaitsValue, AwaitsKey, HasDoubleKey, BeginsWithMark, HasFraction, IsOutOfRange, IsTooDeep}
use Rattle.ordered_json.specs.Steps.{Reading, after_minus, complete, literal_value, to_mode, reader_answer, answer_from, between, take_byte, in_name, in_text, letter_at, literal_letters, start, open_name, open_number}
use Rattle.ordered_json.specs.Spell.{is_second, spell}
use Rattle.ordered_json.proofs.RunLemmas.{Answers, by_step, by_bytes, by_fault}
use Rattle.ordered_json.proofs.StateLemmas.{state, Ready, finished, levels_with, root_with, awaiting}
use Rattle.ordered_json.proofs.LiteralLemmas.{Answer}
use Rattle.ordered_json.proofs.NumberLemmas.{sat, IsNumberMode, zero_mode, digits_mode, number_read, number_ends, number_too_large, number_marked}
use Rattle.ordered_json.proofs.StringLemmas.{text_state, below}
use Rattle.ordered_json.proofs.TokenLemmas.{string_read, key_mode, key_refused, list_too_deep, object_too_deep}
use Rattle.ordered_json.proofs.PrefixLemmas.{Awaits, KeyAwaits, awaits-ready, faultless-front, plug}
use Rattle.ordered_json.proofs.ValueLemmas.{after_all, after_item, after_entry, named_faultless}
use Rattle.ordered_json.proofs.ByteLemmas.{Reached, r_value, r_first_item, r_first_key, r_key, r_colon, r_after, r_name, r_minus, r_zero, r_digits, r_text, r_key_text, Judges, first_awaits, first_key_awaits}
use Rattle.ordered_json.proofs.StepLemmas.{reached_step}
use Rattle.ordered_json.proofs.AnswerLemmas.{reader_answer-value, Follows, stops}

-- ---- the reader after the beginning of a text with a value
record Live (text tail : List ℕ) (json : OrderedJson) : Type 0 where
  r : Reader
  reached : Reached text r
  follows : Follows text r
  goes : answer_from (length text) tail (Ok r) ≡ Ok json

follows-snoc : (text : List ℕ) (b : ℕ) (r s : Reader) → Follows text r → take_byte (length text) b r ≡ Ok s → Follows (text ++ b ∷ []) s
follows-snoc text b r s f e = λ more. ap reader_answer (append_assoc text (b ∷ []) more) ∙ (f (b ∷ more) ∙ (ap (answer_from (length text + 1) more) e ∙ ap (λ n. answer_from n more (Ok s)) (sym (length-append text (b ∷ [])))))

live-on : (text : List ℕ) (b : ℕ) (front tail : List ℕ) (json : OrderedJson) (r : Reader) (o : Reading) → Follows text r → Reached text r → take_byte (length text) b r ≡ o → reader_answer (text ++ b ∷ (front ++ tail)) ≡ Ok json
    → ((s : Reader) → Reached (text ++ b ∷ []) s → Follows (text ++ b ∷ []) s → reader_answer ((text ++ b ∷ []) ++ (front ++ tail)) ≡ Ok json → Live ((text ++ b ∷ []) ++ front) tail json) → Live (text ++ b ∷ front) tail json
live-on text b front tail json r (Err fault) f h e a next = let clash : ◌≡◌ {A = Answer} (Ok json) (Err fault) = sym a ∙ stops text b r fault f e (front ++ tail) in absurd (let no : ⊥ = cc in no)
live-on text b front tail json r (Ok s) f h e a next =
    subst (λ w. Live w tail json) (append_assoc text (b ∷ []) front)
    (next s (let P = reached_step text b r h in subst (λ o. Judges text b o) e P) (follows-snoc text b r s f e) (ap reader_answer (append_assoc text (b ∷ []) (front ++ tail)) ∙ a))

live : (front text tail : List ℕ) (json : OrderedJson) (r : Reader) → Reached text r → Follows text r → reader_answer (text ++ (front ++ tail)) ≡ Ok json → Live (text ++ front) tail json
live [] text tail json r h f a = subst (λ w. Live w tail json) (sym (append-nil text)) (record { r = r; reached = h; follows = f; goes = sym (f tail) ∙ a })
live (b ∷ front) text tail json r h f a = live-on text b front tail json r (take_byte (length text) b r) f h refl a (λ s g k e. live front (text ++ b ∷ []) tail json s g k e)

live_of : (text tail : List ℕ) (json : OrderedJson) → HasValue (text ++ tail) json → Live text tail json
live_of text tail json h = live text [] tail json start (r_value tt) (λ rest. refl) (reader_answer-value (text ++ tail) json h)

pub never : (p : ℕ) (bytes : List ℕ) (r : Reader) {json : OrderedJson} {fault : JsonFault} → answer_from p bytes (Ok r) ≡ Ok json → Answers p bytes (Ok r) (Err fault) → ⊥
never p bytes r {json} {fault} e a = let clash : ◌≡◌ {A = Answer} (Ok json) (Err fault) = sym e ∙ a.is in cc

-- ---- a line feed stands only between tokens
no_letter : (w : LiteralName) (n : ℕ) → 10 == letter_at w n ≡ false
no_letter literal.Null zero = refl
no_letter literal.Null (suc zero) = refl
no_letter literal.Null (suc (suc zero)) = refl
no_letter literal.Null (suc (suc (suc zero))) = refl
no_letter literal.Null (suc (suc (suc (suc n)))) = refl
no_letter literal.True zero = refl
no_letter literal.True (suc zero) = refl
no_letter literal.True (suc (suc zero)) = refl
no_letter literal.True (suc (suc (suc zero))) = refl
no_letter literal.True (suc (suc (suc (suc n)))) = refl
no_letter literal.False zero = refl
no_letter literal.False (suc zero) = refl
no_letter literal.False (suc (suc zero)) = refl
no_letter literal.False (suc (suc (suc zero))) = refl
no_letter literal.False (suc (suc (suc (suc zero)))) = refl
no_letter literal.False (suc (suc (suc (suc (suc n))))) = refl

no_second : (a : ℕ) → is_second a 10 ≡ false
no_second a = grind (arith, nat_tests)

no_feed : (s : Spelling) → spell s 10 ≡ spelled.Bad
no_feed at.Between = refl
no_feed at.Backslash = refl
no_feed at.Hex0 = refl
no_feed (at.Hex1 a) = refl
no_feed (at.Hex2 a b) = refl
no_feed (at.Hex3 a b c) = refl
no_feed (at.High u) = refl
no_feed (at.HighBackslash u) = refl
no_feed (at.Low0 u) = refl
no_feed (at.Low1 u a) = refl
no_feed (at.Low2 u a b) = refl
no_feed (at.Low3 u a b c) = refl
no_feed (at.Lead1 a) = rw (no_second a) refl
no_feed (at.Lead2 a b) = refl
no_feed (at.Lead3 a b c) = refl

text_stops : (place p : ℕ) (k : Bool) (s : Spelling) (ls : List Level) (o : Option OrderedJson) (c : List ℕ) → take_byte place 10 (text_state p k s ls o c) ≡ Err (Syntax place)
unfolding take_byte in_text
text_stops place p k s ls o c = rw (no_feed s) refl

word_stops : (place p : ℕ) (w : LiteralName) (n : ℕ) (ls : List Level) (o : Option OrderedJson) → take_byte place 10 (state (mode.Name (open_name p w n)) ls o) ≡ Err (Syntax place)
unfolding take_byte in_name
word_stops place p w n ls o = rw (no_letter w n) (by (nat_lt n (length (literal_letters w))))
  where
    by : (x : Bool) → cond (x && false) (cond (n + 1 == length (literal_letters w)) (complete place (literal_value p w) (state (mode.Name (open_name p w n)) ls o)) (to_mode (mode.Name (open_name p w (n + 1))) (state (mode.Name (open_name p w n)) ls o))) (Err (Syntax place)) ≡ Err (Syntax place)
    by true = refl
    by false = refl

-- the same after a number's digits
number_stops : (p c : ℕ) (rest : List ℕ) (m : Mode) (ls : List Level) (q : ℕ) (minus : Bool) (n : ℕ) → IsNumberMode m q minus n → Ready ls → (take_byte (p + 1) c (finished (Int q (int_value minus n)) ls None) ≡ Err (Syntax (p + 1))) → (fault : JsonFault) × Answers p (10 ∷ c ∷ rest) (Ok (state m ls None)) (Err fault)
unfolding take_byte between
number_stops p c rest m ls q minus n is ready e = by (fits minus n) refl
  where
    by : (x : Bool) → fits minus n ≡ x → (fault : JsonFault) × Answers p (10 ∷ c ∷ rest) (Ok (state m ls None)) (Err fault)
    by true f = (Syntax (p + 1), number_ends (10 ∷ c ∷ rest) is ready f refl (by_step refl (by_step e (by_fault refl))))
    by false f = (Range q, number_too_large (10 ∷ c ∷ rest) is f refl)

-- what may stand before a line feed and a byte that begins a token
data Before (text : List ℕ) : Reader → Type 0 where
  before_value : (f : Bool) {ls : List Level} → Awaits ls text → Before text (state (awaiting f) ls None)
  before_key : (f : Bool) {ls : List Level} {q : ℕ} {members : List Member} → KeyAwaits (Awaits ls) (length ls) q members text → Before text (state (key_mode f) (level.Object q members ∷ ls) None)

-- a byte that goes on after neither a value nor a key
record IsOpening (c : ℕ) : Type 0 where
  after_colon : (p : ℕ) (ls : List Level) → take_byte p c (state mode.Colon ls None) ≡ Err (Syntax p)
  after_value : (p : ℕ) (ls : List Level) (o : Option OrderedJson) → take_byte p c (state mode.After ls o) ≡ Err (Syntax p)

n_opens : IsOpening 110
unfolding take_byte between
n_opens = record { after_colon = λ p ls. refl; after_value = λ p ls o. refl }

quote_opens : IsOpening 34
unfolding take_byte between
quote_opens = record { after_colon = λ p ls. refl; after_value = λ p ls o. refl }

is_before : (text : List ℕ) (c : ℕ) (rest : List ℕ) (json : OrderedJson) (r : Reader) → IsOpening c → Reached text r → answer_from (length text) (10 ∷ c ∷ rest) (Ok r) ≡ Ok json → Before text r
unfolding take_byte between after_minus
is_before text c rest json r opens (r_value a) e = before_value false a
is_before text c rest json r opens (r_first_item {ls} {p} f) e = before_value true {ls = level.List p [] ∷ ls} (first_awaits ls p text f)
is_before text c rest json r opens (r_first_key {ls} {p} f) e = before_key true (first_key_awaits ls p text f)
is_before text c rest json r opens (r_key k) e = before_key false k
is_before text c rest json r opens (r_colon {ls} {p} {members} {key} {key_at} a) e = absurd (never (length text) (10 ∷ c ∷ rest) r e (by_step refl (by_step (opens.after_colon (length text + 1) (level.Member p members key key_at ∷ ls)) (by_fault refl))))
is_before text c rest json r opens (r_after (after_all {json = j} h)) e = absurd (never (length text) (10 ∷ c ∷ rest) r e (by_step refl (by_step (opens.after_value (length text + 1) [] (Some j)) (by_fault refl))))
is_before text c rest json r opens (r_after (after_item {ls} {p} {items} a)) e = absurd (never (length text) (10 ∷ c ∷ rest) r e (by_step refl (by_step (opens.after_value (length text + 1) (level.List p items ∷ ls) None) (by_fault refl))))
is_before text c rest json r opens (r_after (after_entry {ls} {p} {members} a)) e = absurd (never (length text) (10 ∷ c ∷ rest) r e (by_step refl (by_step (opens.after_value (length text + 1) (level.Object p members ∷ ls) None) (by_fault refl))))
is_before text c rest json r opens (r_name {ls} {p} {w} {n} h) e = absurd (never (length text) (10 ∷ c ∷ rest) r e (by_step (word_stops (length text) p w n ls None) (by_fault refl)))
is_before text c rest json r opens (r_minus h) e = absurd (never (length text) (10 ∷ c ∷ rest) r e (by_step refl (by_fault refl)))
is_before text c rest json r opens (r_zero {ls} {p} {minus} h) e =
    let s = number_stops (length text) c rest (mode.Zero (open_number p minus 0)) ls p minus 0 (zero_mode p minus) (awaits-ready ls h.before h.stands) (opens.after_value (length text + 1) (levels_with (Int p (int_value minus 0)) ls) (root_with (Int p (int_value minus 0)) ls None)) in
    absurd (never (length text) (10 ∷ c ∷ rest) r e s.1)
is_before text c rest json r opens (r_digits {ls} {p} {minus} d ds h n are) e =
    let k = magnitude (d ∷ ds) in
    let s = number_stops (length text) c rest (mode.Digits (open_number p minus (sat k))) ls p minus k (digits_mode p minus k) (awaits-ready ls h.before h.stands) (opens.after_value (length text + 1) (levels_with (Int p (int_value minus k)) ls) (root_with (Int p (int_value minus k)) ls None)) in
    absurd (never (length text) (10 ∷ c ∷ rest) r e s.1)
is_before text c rest json r opens (r_text {ls} {p} {s} {c = d} h) e = absurd (never (length text) (10 ∷ c ∷ rest) r e (by_step (text_stops (length text) p false s ls None d) (by_fault refl)))
is_before text c rest json r opens (r_key_text {ls} {q} {members} {p} {s} {c = d} h) e = absurd (never (length text) (10 ∷ c ∷ rest) r e (by_step (text_stops (length text) p true s (level.Object q members ∷ ls) None d) (by_fault refl)))

-- ---- a key where a value is, and a value where a key is
no_value : (f : Bool) (p : ℕ) (rest : List ℕ) (ls : List Level) → Answers p (10 ∷ 110 ∷ rest) (Ok (state (key_mode f) ls None)) (Err (Syntax (p + 1)))
unfolding take_byte between
no_value true p rest ls = by_step refl (by_step refl (by_fault refl))
no_value false p rest ls = by_step refl (by_step refl (by_fault refl))

blank_first : (f : Bool) (p : ℕ) (ls : List Level) → take_byte p 10 (state (awaiting f) ls None) ≡ Ok (state (awaiting f) ls None)
unfolding take_byte between
blank_first true p ls = refl
blank_first false p ls = refl

colon_stops : (p : ℕ) (ls : List Level) (o : Option OrderedJson) → take_byte p 58 (state mode.After ls o) ≡ Err (Syntax p)
unfolding take_byte between
colon_stops p ls o = refl

no_colon : (f : Bool) (p : ℕ) (cs : List Char) (rest : List ℕ) (ls : List Level) → AreChars cs → Ready ls → Answers p (10 ∷ ((print_string cs ++ 58 ∷ []) ++ rest)) (Ok (state (awaiting f) ls None)) (Err (Syntax (p + 1 + length (print_string cs))))
no_colon f p cs rest ls h r =
    by_step (blank_first f p ls) (by_bytes (append_assoc (print_string cs) (58 ∷ []) rest)
    (string_read f cs h r (by_step (colon_stops (p + 1 + length (print_string cs)) (levels_with (Text (p + 1) (string_content cs)) ls) (root_with (Text (p + 1) (string_content cs)) ls None)) (by_fault refl))))

-- ---- where a value and where a key may begin
regroup : (text front rest : List ℕ) (json : OrderedJson) → HasValue ((text ++ front) ++ rest) json → HasValue (text ++ (front ++ rest)) json
regroup text front rest json h = subst (λ w. HasValue w json) (append_assoc text front rest) h

pub record ValueAwaited (text : List ℕ) : Type 0 where
  pub f : Bool
  pub ls : List Level
  pub awaited : Awaits ls text
  pub follows : Follows text (state (awaiting f) ls None)

pub value_awaited : (text : List ℕ) → AwaitsValue text → ValueAwaited text
value_awaited text h = by (live_of text (10 ∷ 110 ∷ 117 ∷ 108 ∷ 108 ∷ h.0) h.1 (regroup text (10 ∷ 110 ∷ 117 ∷ 108 ∷ 108 ∷ []) h.0 h.1 h.2))
  where
    chosen : (r : Reader) → Follows text r → answer_from (length text) (10 ∷ 110 ∷ 117 ∷ 108 ∷ 108 ∷ h.0) (Ok r) ≡ Ok h.1 → Before text r → ValueAwaited text
    chosen r g e (before_value f {ls} a) = record { f = f; ls = ls; awaited = a; follows = g }
    chosen r g e (before_key f {ls} {q} {members} k) = absurd (never (length text) (10 ∷ 110 ∷ 117 ∷ 108 ∷ 108 ∷ h.0) r e (no_value f (length text) (117 ∷ 108 ∷ 108 ∷ h.0) (level.Object q members ∷ ls)))

    by : Live text (10 ∷ 110 ∷ 117 ∷ 108 ∷ 108 ∷ h.0) h.1 → ValueAwaited text
    by l = chosen l.r l.follows l.goes (is_before text 110 (117 ∷ 108 ∷ 108 ∷ h.0) h.1 l.r n_opens l.reached l.goes)

pub record KeyAwaited (text : List ℕ) : Type 0 where
  pub f : Bool
  pub ls : List Level
  pub q : ℕ
  pub members : List Member
  pub awaited : KeyAwaits (Awaits ls) (length ls) q members text
  pub follows : Follows text (state (key_mode f) (level.Object q members ∷ ls) None)

pub key_awaited : (text : List ℕ) → AwaitsKey text → KeyAwaited text
key_awaited text h = by (live_of text (10 ∷ ((print_string h.0 ++ 58 ∷ []) ++ h.2.0)) h.2.1 (regroup text (10 ∷ (print_string h.0 ++ 58 ∷ [])) h.2.0 h.2.1 h.2.2))
  where
    chosen : (r : Reader) → Follows text r → answer_from (length text) (10 ∷ ((print_string h.0 ++ 58 ∷ []) ++ h.2.0)) (Ok r) ≡ Ok h.2.1 → Before text r → KeyAwaited text
    chosen r g e (before_key f {ls} {q} {members} k) = record { f = f; ls = ls; q = q; members = members; awaited = k; follows = g }
    chosen r g e (before_value f {ls} a) = absurd (never (length text) (10 ∷ ((print_string h.0 ++ 58 ∷ []) ++ h.2.0)) r e (no_colon f (length text) h.0 h.2.0 ls h.1 (awaits-ready ls text a)))

    by : Live text (10 ∷ ((print_string h.0 ++ 58 ∷ []) ++ h.2.0)) h.2.1 → KeyAwaited text
    by l = chosen l.r l.follows l.goes (is_before text 34 (((print_chars h.0 ++ 34 ∷ []) ++ 58 ∷ []) ++ h.2.0) h.2.1 l.r quote_opens l.reached l.goes)

-- ---- the answer where a value or a key may begin
pub at_place : (text : List ℕ) (p : ℕ) → p ≤ length text → length (take p text) ≡ p
at_place text p h = length-take-le p text h

pub split_at : (text rest : List ℕ) (p : ℕ) → drop p text ≡ rest → take p text ++ rest ≡ text
split_at text rest p e = ap (λ w. take p text ++ w) (sym e) ∙ take-append-drop p text

-- two outcomes of one text
pub other_value : (text : List ℕ) (json : OrderedJson) (fault : JsonFault) → reader_answer text ≡ Ok json → reader_answer text ≡ Err fault → ⊥
other_value text json fault a b = let clash : ◌≡◌ {A = Answer} (Ok json) (Err fault) = sym a ∙ b in cc

answers_at : (text rest : List ℕ) (p : ℕ) (r : Reader) (fault : ℕ → JsonFault) → p ≤ length text → drop p text ≡ rest → Follows (take p text) r → Answers (length (take p text)) rest (Ok r) (Err (fault (length (take p text)))) → reader_answer text ≡ Err (fault p)
answers_at text rest p r fault within stands g a =
    ap reader_answer (sym (split_at text rest p stands)) ∙ (g rest ∙ (a.is ∙ ap (λ n. Err (fault n)) (at_place text p within)))

pub fraction_answer : (text : List ℕ) (p : ℕ) → HasFraction text p → reader_answer text ≡ Err (Fraction p)
fraction_answer text p h = by (value_awaited (take p text) h.0.awaited) h.0.rest h.0.stands h.1
  where
    by : ValueAwaited (take p text) → (rest : List ℕ) → drop p text ≡ with_minus h.0.minus h.0.digits ++ rest → BeginsWithMark rest → reader_answer text ≡ Err (Fraction p)
    by v [] stands marked = absurd marked
    by v (b ∷ bs) stands marked = answers_at text (with_minus h.0.minus h.0.digits ++ b ∷ bs) p (state (awaiting v.f) v.ls None) Fraction h.0.within stands v.follows (number_read v.f h.0.minus h.0.digits h.0.whole (λ m is. number_marked is marked))

pub range_answer : (text : List ℕ) (p : ℕ) → IsOutOfRange text p → reader_answer text ≡ Err (Range p)
range_answer text p h =
    let v = value_awaited (take p text) h.0.awaited in
    answers_at text (with_minus h.0.minus h.0.digits ++ h.0.rest) p (state (awaiting v.f) v.ls None) Range h.0.within h.0.stands v.follows (number_read v.f h.0.minus h.0.digits h.0.whole (λ m is. number_too_large h.0.rest is h.2 h.1))

pub bracket_tree : (bracket : ℕ) → (bracket ≡ 91) ⊎ (bracket ≡ 123) → (t : Tree) × (close : ℕ) × (print t ≡ bracket ∷ close ∷ []) × IsTree t × ((depth : ℕ) → depth < MAX_LEVELS → IsTaken depth t)
bracket_tree bracket (inl e) = (array (no_elements []), 93, ap (λ n. n ∷ 93 ∷ []) (sym e), tt, λ depth l. (l, tt))
bracket_tree bracket (inr e) = (object (no_members []), 125, ap (λ n. n ∷ 125 ∷ []) (sym e), tt, λ depth l. (l, tt))

deep_step : (f : Bool) (p bracket : ℕ) (ls : List Level) → (bracket ≡ 91) ⊎ (bracket ≡ 123) → nat_lt (length ls) MAX_LEVELS ≡ false → take_byte p bracket (state (awaiting f) ls None) ≡ Err (TooDeep p)
deep_step f p bracket ls (inl e) h = ap (λ b. take_byte p b (state (awaiting f) ls None)) e ∙ list_too_deep f p ls None h
deep_step f p bracket ls (inr e) h = ap (λ b. take_byte p b (state (awaiting f) ls None)) e ∙ object_too_deep f p ls None h

pub too_deep_answer : (text : List ℕ) (p : ℕ) → IsTooDeep text p → reader_answer text ≡ Err (TooDeep p)
too_deep_answer text p h = by (value_awaited (take p text) h.awaited)
  where
    by : ValueAwaited (take p text) → reader_answer text ≡ Err (TooDeep p)
    by v = room (nat_lt (length v.ls) MAX_LEVELS) refl
      where
        room : (x : Bool) → nat_lt (length v.ls) MAX_LEVELS ≡ x → reader_answer text ≡ Err (TooDeep p)
        room false e = answers_at text (h.bracket ∷ h.rest) p (state (awaiting v.f) v.ls None) TooDeep h.within h.stands v.follows (by_step (deep_step v.f (length (take p text)) h.bracket v.ls h.opens e) (by_fault refl))
        room true e =
            let t = bracket_tree h.bracket h.opens in
            let whole : take p text ++ print t.0 ≡ (take p text ++ h.bracket ∷ []) ++ t.1 ∷ [] = ap (λ w. take p text ++ w) t.2 ∙ sym (append_assoc (take p text) (h.bracket ∷ []) (t.1 ∷ [])) in
            absurd (h.too_deep (faultless-front (take p text ++ h.bracket ∷ []) (t.1 ∷ []) (subst BeginsFaultless whole (plug v.ls (take p text) v.awaited t.0 t.3 (t.4 (length v.ls) (below (length v.ls) MAX_LEVELS e))))))

pub double_key_answer : (text : List ℕ) (p : ℕ) → HasDoubleKey text p → reader_answer text ≡ Err (DoubleKey p)
double_key_answer text p h = by (key_awaited (take p text) h.awaited)
  where
    by : KeyAwaited (take p text) → reader_answer text ≡ Err (DoubleKey p)
    by k = known (has_key (string_content h.key) (map key_of k.members)) refl
      where
        known : (x : Bool) → has_key (string_content h.key) (map key_of k.members) ≡ x → reader_answer text ≡ Err (DoubleKey p)
        known true e = answers_at text (print_string h.key ++ h.rest) p (state (key_mode k.f) (level.Object k.q k.members ∷ k.ls) None) DoubleKey h.within h.stands k.follows (key_refused k.f h.key h.rest h.well_formed e)
        known false e = absurd (h.double (faultless-front (take p text ++ print_string h.key) (58 ∷ [])
            (subst BeginsFaultless (sym (append_assoc (take p text) (print_string h.key) (58 ∷ []))) (named_faultless k.ls (take p text) h.key k.awaited h.well_formed e))))
