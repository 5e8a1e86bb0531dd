-- Each byte keeps what the text looks like, or makes a fault that the text has.
use Rattle.ordered_json.specs.declared.TheConstants.{MAX_LEVELS}
use Rattle.ordered_json.specs.declared.json.Member.{Member}
use Rattle.ordered_json.specs.declared.json.OrderedJson.{OrderedJson, List as a_list, Object}
use Rattle.ordered_json.specs.declared.level.Level.{Level}
use Rattle.ordered_json.specs.declared.level.Level.TheVariants as level
use Rattle.ordered_json.specs.declared.mode.Mode.{Mode}
use Rattle.ordered_json.specs.declared.mode.Mode.TheVariants as mode
use Rattle.ordered_json.specs.declared.reader.Reader.{Reader}
use Rattle.ordered_json.specs.Grammar.{is_blank, Char, AreChars, IsSpace, Tree, null, print, IsTree}
use Rattle.ordered_json.specs.Meaning.{string_content, value_at, IsTaken}
use Rattle.ordered_json.proofs.StateLemmas.{state, finished}
use Rattle.ordered_json.proofs.FrontLemmas.{gap_of}
use Rattle.ordered_json.proofs.PrefixLemmas.{KeyAwaits, ColonAwaits, Awaits, space-snoc, snoc-two, awaits-ready, faultless-front, faultless-is, plug}
use Rattle.std.proofs.Common.{◌≡◌, [], ◌∷◌, ◌++◌, ℕ, ◌+◌, ◌-◌, ◌<◌, ◌≤◌, Bool, true, false, cond, ◌||◌, ◌&&◌, ◌==◌, ◌⊎◌, inl, inr, List, length, take, drop, Some, None, Result, Ok, Err, fold, refl, ap, sym, ◌∙◌, arith, subst, append_assoc, append-nil, length-append}
use Rattle.std.specs.Prelude.{nat_lt}
use Rattle.std.proofs.Math.Seq.{take-append_seam, drop-append_seam}
use Rattle.std.proofs.lemmas.List.{take_more, take_all, take-append-drop}
use Rattle.std.proofs.lemmas.Bool.Decides.{nat_tests}
use Rattle.ordered_json.specs.declared.fault.JsonFault.{JsonFault}
use Rattle.ordered_json.specs.declared.fault.JsonFault.TheVariants.{Syntax, DoubleKey, Fraction, Range, TooDeep, TooLong, Memory}
use Rattle.ordered_json.specs.declared.json.OrderedJson.{Int}
use Rattle.ordered_json.specs.declared.mode.Spelling.{Spelling}
use Rattle.ordered_json.specs.declared.mode.LiteralName.{LiteralName}
use Rattle.ordered_json.specs.declared.mode.LiteralName.TheVariants as literal
use Rattle.ordered_json.specs.Grammar.{is_decimal, AreDigits, IsWhole, with_minus, print_chars, boolean, number}
use Rattle.ordered_json.specs.Meaning.{magnitude, int_value, fits}
use Rattle.ordered_json.specs.Faults.{BeginsFaultless, AwaitsValue, HasDoubleKey, HasNumber, HasFraction, IsOutOfRange, IsTooDeep, is_mark}
use Rattle.ordered_json.specs.Steps.{Reading, complete, open_level, close_list, close_object, between, begin_value, begin_key, scalar_mode, to_mode, to_mode_if, in_name, take_comma, end_number, after_digits, after_minus, and_then, literal_letters, literal_value, letter_at, name_mode, number_mode, open_name, open_number, text_mode}
use Rattle.ordered_json.proofs.StateLemmas.{complete_ready}
use Rattle.ordered_json.proofs.NumberLemmas.{sat, grow, small_digit, number_taken, number_refused}
use Rattle.ordered_json.proofs.StringLemmas.{below}
use Rattle.ordered_json.proofs.StringLemmas.{text_state}
use Rattle.ordered_json.proofs.SpellLemmas.{IsSpelling, spelled_bytes, eq_at}
use Rattle.ordered_json.proofs.ValueLemmas.{AfterValue, after_all, after_item, after_entry, finished_after, ClosedList, close_list_text, ClosedObject, close_object_text, closed_list_after, closed_object_after, item_after_closed, entry_after_closed, awaits_faultless, key_awaits_faultless, after_faultless, awaits_value}

-- a bracket that was just opened, and white space
pub record FirstOf (bracket : ℕ) (ls : List Level) (p : ℕ) (text : List ℕ) : Type 0 where
  pub outer : List ℕ
  pub stands : Awaits ls outer
  pub place : p ≡ length outer
  pub room : length ls < MAX_LEVELS
  pub space : List ℕ
  pub white : IsSpace space
  pub printed : text ≡ outer ++ bracket ∷ space

-- the first letters of a name
pub record NameText (ls : List Level) (p : ℕ) (w : LiteralName) (n : ℕ) (text : List ℕ) : Type 0 where
  pub before : List ℕ
  pub stands : Awaits ls before
  pub place : p ≡ length before
  pub short : n < length (literal_letters w)
  pub printed : text ≡ before ++ take n (literal_letters w)

-- the sign and the first digits of a number
pub record NumberText (ls : List Level) (p : ℕ) (minus : Bool) (ds : List ℕ) (text : List ℕ) : Type 0 where
  pub before : List ℕ
  pub stands : Awaits ls before
  pub place : p ≡ length before
  pub printed : text ≡ before ++ with_minus minus ds

-- the opening quote and the first characters of a string; `awaited` says what stands before it
pub record StringText (awaited : List ℕ → Type 0) (p : ℕ) (s : Spelling) (c : List ℕ) (text : List ℕ) : Type 0 where
  pub before : List ℕ
  pub stands : awaited before
  pub place : p ≡ length before
  pub chars : List Char
  pub are : AreChars chars
  pub content_is : c ≡ string_content chars
  pub spelling : IsSpelling s
  pub printed : text ≡ before ++ 34 ∷ (print_chars chars ++ spelled_bytes s)

-- the text is one that leads the reader here
pub data Reached (text : List ℕ) : Reader → Type 0 where
  r_value : {ls : List Level} → Awaits ls text → Reached text (state mode.Value ls None)
  r_first_item : {ls : List Level} {p : ℕ} → FirstOf 91 ls p text → Reached text (state mode.FirstItem (level.List p [] ∷ ls) None)
  r_first_key : {ls : List Level} {p : ℕ} → FirstOf 123 ls p text → Reached text (state mode.FirstKey (level.Object p [] ∷ ls) None)
  r_key : {ls : List Level} {p : ℕ} {members : List Member} → KeyAwaits (Awaits ls) (length ls) p members text → Reached text (state mode.Key (level.Object p members ∷ ls) None)
  r_colon : {ls : List Level} {p : ℕ} {members : List Member} {key : List ℕ} {key_at : ℕ} → ColonAwaits (Awaits ls) (length ls) p members key key_at text → Reached text (state mode.Colon (level.Member p members key key_at ∷ ls) None)
  r_after : {r : Reader} → AfterValue text r → Reached text r
  r_name : {ls : List Level} {p : ℕ} {w : LiteralName} {n : ℕ} → NameText ls p w n text → Reached text (state (mode.Name (open_name p w n)) ls None)
  r_minus : {ls : List Level} {p : ℕ} → NumberText ls p true [] text → Reached text (state (mode.Minus p) ls None)
  r_zero : {ls : List Level} {p : ℕ} {minus : Bool} → NumberText ls p minus (48 ∷ []) text → Reached text (state (mode.Zero (open_number p minus 0)) ls None)
  r_digits : {ls : List Level} {p : ℕ} {minus : Bool} (d : ℕ) (ds : List ℕ) → NumberText ls p minus (d ∷ ds) text → d == 48 ≡ false → AreDigits (d ∷ ds) → Reached text (state (mode.Digits (open_number p minus (sat (magnitude (d ∷ ds))))) ls None)
  r_text : {ls : List Level} {p : ℕ} {s : Spelling} {c : List ℕ} → StringText (Awaits ls) p s c text → Reached text (text_state p false s ls None c)
  r_key_text : {ls : List Level} {q : ℕ} {members : List Member} {p : ℕ} {s : Spelling} {c : List ℕ} → StringText (KeyAwaits (Awaits ls) (length ls) q members) p s c text → Reached text (text_state p true s (level.Object q members ∷ ls) None c)

-- what a fault at the byte after the text shows of it, whatever follows the byte
abbrev pub Shows : List ℕ → ℕ → JsonFault → Type 0
Shows text b (Syntax p) = (p ≡ length text) × BeginsFaultless text
Shows text b (DoubleKey p) = (rest : List ℕ) → (BeginsFaultless (text ++ b ∷ []) → ⊥) → HasDoubleKey (text ++ b ∷ rest) p
Shows text b (Fraction p) = (rest : List ℕ) → HasFraction (text ++ b ∷ rest) p
Shows text b (Range p) = (rest : List ℕ) → IsOutOfRange (text ++ b ∷ rest) p
Shows text b (TooDeep p) = (rest : List ℕ) → (BeginsFaultless (text ++ b ∷ []) → ⊥) → IsTooDeep (text ++ b ∷ rest) p
Shows text b TooLong = ⊥
Shows text b Memory = ⊥

abbrev pub Judges : List ℕ → ℕ → Reading → Type 0
Judges text b (Ok r) = Reached (text ++ b ∷ []) r
Judges text b (Err fault) = Shows text b fault

pub test_judged : (text : List ℕ) (b : ℕ) (x y : Reading) (t : Bool) → (t ≡ true → Judges text b x) → (t ≡ false → Judges text b y) → Judges text b (cond t x y)
test_judged text b x y true h k = h refl
test_judged text b x y false h k = k refl

-- the same outcome
pub judged_as : (text : List ℕ) (b : ℕ) (x y : Reading) → x ≡ y → Judges text b y → Judges text b x
judged_as text b x y e h = subst (Judges text b) (sym e) h

pub syntax_at : (text : List ℕ) (b : ℕ) → BeginsFaultless text → Judges text b (Err (Syntax (length text)))
syntax_at text b h = (refl, h)

pub one_more : (text : List ℕ) (b c : ℕ) → b == c ≡ true → text ++ b ∷ [] ≡ text ++ c ∷ []
one_more text b c e = ap (λ n. text ++ n ∷ []) (eq_at b c e)

-- ---- one more digit
with_minus-snoc : (minus : Bool) (ds : List ℕ) (b : ℕ) → with_minus minus ds ++ b ∷ [] ≡ with_minus minus (ds ++ b ∷ [])
with_minus-snoc true ds b = refl
with_minus-snoc false ds b = refl

pub number_more : {ls : List Level} {p : ℕ} {minus : Bool} {ds : List ℕ} (text : List ℕ) (b : ℕ) → NumberText ls p minus ds text → NumberText ls p minus (ds ++ b ∷ []) (text ++ b ∷ [])
number_more {minus = minus} {ds} text b h = record { before = h.before; stands = h.stands; place = h.place; printed = ap (λ w. w ++ b ∷ []) h.printed ∙ (append_assoc h.before (with_minus minus ds) (b ∷ []) ∙ ap (λ w. h.before ++ w) (with_minus-snoc minus ds b)) }

-- the first digit
number_begun : (m : Mode) (ls : List Level) (p : ℕ) (minus : Bool) (text : List ℕ) (b : ℕ) → NumberText ls p minus [] text → is_decimal b ≡ true → Judges text b (to_mode (number_mode p minus b) (state m ls None))
number_begun m ls p minus text b h decimal = by (b == 48) refl
  where
    by : (x : Bool) → b == 48 ≡ x → Judges text b (to_mode (cond x (mode.Zero (open_number p minus 0)) (mode.Digits (open_number p minus (b - 48)))) (state m ls None))
    by true e = r_zero (subst (λ n. NumberText ls p minus (n ∷ []) (text ++ b ∷ [])) (eq_at b 48 e) (number_more text b h))
    by false e = subst (λ k. Reached (text ++ b ∷ []) (state (mode.Digits (open_number p minus k)) ls None)) (small_digit b decimal) (r_digits b [] (number_more text b h) e (decimal, tt))

-- ---- the first byte of a value
pub too_deep : (ls : List Level) (text : List ℕ) (b : ℕ) → Awaits ls text → (b ≡ 91) ⊎ (b ≡ 123) → (rest : List ℕ) → (BeginsFaultless (text ++ b ∷ []) → ⊥) → IsTooDeep (text ++ b ∷ rest) (length text)
too_deep ls text b a opens rest refused = record {
  bracket = b;
  rest = rest;
  within = omega (arith, length-append text (b ∷ rest));
  opens = opens;
  stands = drop-append_seam text (b ∷ rest);
  awaited = subst AwaitsValue (sym (take-append_seam text (b ∷ rest))) (awaits_value ls text a);
  too_deep = λ h. refused (subst (λ w. BeginsFaultless (w ++ b ∷ [])) (take-append_seam text (b ∷ rest)) h);
}

go_test : (text : List ℕ) (b : ℕ) (r : Reader) (x y : Result Mode JsonFault) (t : Bool) → (t ≡ true → Judges text b (to_mode_if x r)) → (t ≡ false → Judges text b (to_mode_if y r)) → Judges text b (to_mode_if (cond t x y) r)
go_test text b r x y true h k = h refl
go_test text b r x y false h k = k refl

scalar_judged : (m : Mode) (ls : List Level) (text : List ℕ) (b : ℕ) → Awaits ls text → Judges text b (to_mode_if (scalar_mode (length text) b) (state m ls None))
scalar_judged m ls text b a =
    let p = length text in
    let r = state m ls None in
    let from_digit = cond (is_decimal b) (Ok (number_mode p false b)) (Err (Syntax p)) in
    let from_minus = cond (b == 45) (Ok (mode.Minus p)) from_digit in
    let from_false = cond (b == 102) (Ok (name_mode p literal.False)) from_minus in
    let from_true = cond (b == 116) (Ok (name_mode p literal.True)) from_false in
    go_test text b r (Ok (name_mode p literal.Null)) from_true (b == 110)
    (λ e. r_name (record { before = text; stands = a; place = refl; short = omega arith; printed = one_more text b 110 e }))
    (λ n. go_test text b r (Ok (name_mode p literal.True)) from_false (b == 116)
    (λ e. r_name (record { before = text; stands = a; place = refl; short = omega arith; printed = one_more text b 116 e }))
    (λ n. go_test text b r (Ok (name_mode p literal.False)) from_minus (b == 102)
    (λ e. r_name (record { before = text; stands = a; place = refl; short = omega arith; printed = one_more text b 102 e }))
    (λ n. go_test text b r (Ok (mode.Minus p)) from_digit (b == 45)
    (λ e. r_minus (record { before = text; stands = a; place = refl; printed = one_more text b 45 e }))
    (λ n. go_test text b r (Ok (number_mode p false b)) (Err (Syntax p)) (is_decimal b)
    (λ e. number_begun m ls p false text b (record { before = text; stands = a; place = refl; printed = sym (append-nil text) }) e)
    (λ n. syntax_at text b (awaits_faultless ls text a))))))

pub begin_judged : (m : Mode) (ls : List Level) (text : List ℕ) (b : ℕ) → Awaits ls text → Judges text b (begin_value (length text) b (state m ls None))
unfolding begin_value
begin_judged m ls text b a =
    let p = length text in
    let r = state m ls None in
    test_judged text b (to_mode (text_mode p false) r) (cond (b == 91) (open_level p (level.List p []) mode.FirstItem r) (cond (b == 123) (open_level p (level.Object p []) mode.FirstKey r) (to_mode_if (scalar_mode p b) r))) (b == 34)
    (λ e. r_text (record { before = text; stands = a; place = refl; chars = []; are = tt; content_is = refl; spelling = tt; printed = one_more text b 34 e }))
    (λ n. test_judged text b (open_level p (level.List p []) mode.FirstItem r) (cond (b == 123) (open_level p (level.Object p []) mode.FirstKey r) (to_mode_if (scalar_mode p b) r)) (b == 91)
    (λ e. test_judged text b (Ok (record r { levels = level.List p [] ∷ ls; mode = mode.FirstItem })) (Err (TooDeep p)) (nat_lt (length ls) MAX_LEVELS)
    (λ l. r_first_item (record { outer = text; stands = a; place = refl; room = below (length ls) MAX_LEVELS l; space = []; white = tt; printed = one_more text b 91 e }))
    (λ l. too_deep ls text b a (inl (eq_at b 91 e))))
    (λ n. test_judged text b (open_level p (level.Object p []) mode.FirstKey r) (to_mode_if (scalar_mode p b) r) (b == 123)
    (λ e. test_judged text b (Ok (record r { levels = level.Object p [] ∷ ls; mode = mode.FirstKey })) (Err (TooDeep p)) (nat_lt (length ls) MAX_LEVELS)
    (λ l. r_first_key (record { outer = text; stands = a; place = refl; room = below (length ls) MAX_LEVELS l; space = []; white = tt; printed = one_more text b 123 e }))
    (λ l. too_deep ls text b a (inr (eq_at b 123 e))))
    (λ n. scalar_judged m ls text b a)))

-- ---- keys
pub key_judged : (m : Mode) (ls : List Level) (q : ℕ) (members : List Member) (text : List ℕ) (b : ℕ) → KeyAwaits (Awaits ls) (length ls) q members text → Judges text b (begin_key (length text) b (state m (level.Object q members ∷ ls) None))
key_judged m ls q members text b k =
    test_judged text b (to_mode (text_mode (length text) true) (state m (level.Object q members ∷ ls) None)) (Err (Syntax (length text))) (b == 34)
    (λ e. r_key_text (record { before = text; stands = k; place = refl; chars = []; are = tt; content_is = refl; spelling = tt; printed = one_more text b 34 e }))
    (λ n. syntax_at text b (key_awaits_faultless ls text k))

-- ---- a bracket that was just opened
first_printed : (outer space : List ℕ) (bracket : ℕ) → outer ++ bracket ∷ space ≡ (outer ++ bracket ∷ []) ++ (space ++ [])
first_printed outer space bracket = sym (append_assoc outer (bracket ∷ []) (space ++ []) ∙ ap (λ w. outer ++ bracket ∷ w) (append-nil space))

pub first_awaits : (ls : List Level) (p : ℕ) (text : List ℕ) → FirstOf 91 ls p text → Awaits (level.List p [] ∷ ls) text
first_awaits ls p text f = record {
  is = [];
  front = f.outer ++ 91 ∷ [];
  inside = record { outer = f.outer; stands = f.stands; place = f.place; room = f.room; are = tt; values = refl; printed = refl };
  gap = gap_of f.space [];
  white = (f.white, tt);
  printed = f.printed ∙ first_printed f.outer f.space 91;
}

pub first_key_awaits : (ls : List Level) (p : ℕ) (text : List ℕ) → FirstOf 123 ls p text → KeyAwaits (Awaits ls) (length ls) p [] text
first_key_awaits ls p text f = record {
  es = [];
  front = f.outer ++ 123 ∷ [];
  inside = record { outer = f.outer; stands = f.stands; place = f.place; room = f.room; are = tt; values = refl; printed = refl };
  gap = gap_of f.space [];
  white = (f.white, tt);
  printed = f.printed ∙ first_printed f.outer f.space 123;
}

pub first_blank : {bracket : ℕ} {ls : List Level} {p : ℕ} (text : List ℕ) (b : ℕ) → is_blank b ≡ true → FirstOf bracket ls p text → FirstOf bracket ls p (text ++ b ∷ [])
first_blank {bracket} text b e f = record {
  outer = f.outer;
  stands = f.stands;
  place = f.place;
  room = f.room;
  space = f.space ++ b ∷ [];
  white = space-snoc f.space b f.white e;
  printed = ap (λ w. w ++ b ∷ []) f.printed ∙ append_assoc f.outer (bracket ∷ f.space) (b ∷ []);
}

pub first_closed : (ls : List Level) (p : ℕ) (text : List ℕ) → FirstOf 91 ls p text → ClosedList ls p [] text
first_closed ls p text f = close_list_text ls p [] [] (f.outer ++ 91 ∷ []) f.space text (record { outer = f.outer; stands = f.stands; place = f.place; room = f.room; are = tt; values = refl; printed = refl }) f.white (f.printed ∙ sym (append_assoc f.outer (91 ∷ []) f.space))

pub first_closed_object : (ls : List Level) (p : ℕ) (text : List ℕ) → FirstOf 123 ls p text → ClosedObject ls p [] text
first_closed_object ls p text f = close_object_text ls p [] [] (f.outer ++ 123 ∷ []) f.space text (record { outer = f.outer; stands = f.stands; place = f.place; room = f.room; are = tt; values = refl; printed = refl }) f.white (f.printed ∙ sym (append_assoc f.outer (123 ∷ []) f.space))

-- ---- closing brackets
pub list_judged : (m : Mode) (ls : List Level) (p : ℕ) (items : List OrderedJson) (text : List ℕ) (b : ℕ) → b == 93 ≡ true → ClosedList ls p items text → Judges text b (close_list (length text) (state m (level.List p items ∷ ls) None))
unfolding close_list
list_judged m ls p items text b e c =
    judged_as text b (complete (length text) (a_list p items) (state m ls None)) (Ok (finished (a_list p items) ls None)) (complete_ready (length text) (a_list p items) m ls None (awaits-ready ls c.outer c.stands))
    (r_after (subst (λ w. AfterValue w (finished (a_list p items) ls None)) (sym (one_more text b 93 e)) (closed_list_after text c)))

pub object_judged : (m : Mode) (ls : List Level) (p : ℕ) (members : List Member) (text : List ℕ) (b : ℕ) → b == 125 ≡ true → ClosedObject ls p members text → Judges text b (close_object (length text) (state m (level.Object p members ∷ ls) None))
unfolding close_object
object_judged m ls p members text b e c =
    judged_as text b (complete (length text) (Object p members) (state m ls None)) (Ok (finished (Object p members) ls None)) (complete_ready (length text) (Object p members) m ls None (awaits-ready ls c.outer c.stands))
    (r_after (subst (λ w. AfterValue w (finished (Object p members) ls None)) (sym (one_more text b 125 e)) (closed_object_after text c)))

-- ---- after a value
after_blank : (text : List ℕ) (b : ℕ) (r : Reader) → is_blank b ≡ true → AfterValue text r → AfterValue (text ++ b ∷ []) r
after_blank text b r e (after_all {json = json} h) =
    let before = h.0 in let tree = h.1 in let after = h.2 in let p = h.3 in
    after_all (before, tree, after ++ b ∷ [], record { white_before = p.white_before; well_formed = p.well_formed; white_after = space-snoc after b p.white_after e; printed = ap (λ w. w ++ b ∷ []) p.printed ∙ (append_assoc before (print tree ++ after) (b ∷ []) ∙ ap (λ w. before ++ w) (append_assoc (print tree) after (b ∷ []))) }, h.4, h.5)
after_blank text b r e (after_item a) = after_item (record { last = a.last; is = a.is; front = a.front; inside = a.inside; space = a.space ++ b ∷ []; white = space-snoc a.space b a.white e; printed = ap (λ w. w ++ b ∷ []) a.printed ∙ snoc-two a.front a.space b })
after_blank text b r e (after_entry a) = after_entry (record { last = a.last; es = a.es; front = a.front; inside = a.inside; space = a.space ++ b ∷ []; white = space-snoc a.space b a.white e; printed = ap (λ w. w ++ b ∷ []) a.printed ∙ snoc-two a.front a.space b })

pub after_judged : (text : List ℕ) (b : ℕ) (r : Reader) → AfterValue text r → Judges text b (between (length text) b r)
unfolding between take_comma
after_judged text b r (after_all {json = json} h) =
    let s = state mode.After [] (Some json) in
    let no = syntax_at text b (after_faultless text s (after_all h)) in
    test_judged text b (Ok s) (cond (b == 44) (Err (Syntax (length text))) (cond (b == 93) (close_list (length text) s) (cond (b == 125) (close_object (length text) s) (Err (Syntax (length text)))))) (is_blank b)
    (λ e. r_after (after_blank text b s e (after_all h)))
    (λ n. test_judged text b (Err (Syntax (length text))) (cond (b == 93) (close_list (length text) s) (cond (b == 125) (close_object (length text) s) (Err (Syntax (length text))))) (b == 44) (λ e. no)
    (λ n. test_judged text b (close_list (length text) s) (cond (b == 125) (close_object (length text) s) (Err (Syntax (length text)))) (b == 93) (λ e. unfold close_list in no)
    (λ n. test_judged text b (close_object (length text) s) (Err (Syntax (length text))) (b == 125) (λ e. unfold close_object in no) (λ n. no))))
after_judged text b r (after_item {ls} {p} {items} a) =
    let s = state mode.After (level.List p items ∷ ls) None in
    let no = syntax_at text b (after_faultless text s (after_item a)) in
    test_judged text b (Ok s) (cond (b == 44) (to_mode mode.Value s) (cond (b == 93) (close_list (length text) s) (cond (b == 125) (close_object (length text) s) (Err (Syntax (length text)))))) (is_blank b)
    (λ e. r_after (after_blank text b s e (after_item a)))
    (λ n. test_judged text b (to_mode mode.Value s) (cond (b == 93) (close_list (length text) s) (cond (b == 125) (close_object (length text) s) (Err (Syntax (length text))))) (b == 44)
    (λ e. r_value {ls = level.List p items ∷ ls} (record { is = a.last ∷ a.is; front = a.front; inside = a.inside; gap = gap_of a.space []; white = (a.white, tt); printed = one_more text b 44 e ∙ (ap (λ w. w ++ 44 ∷ []) a.printed ∙ append_assoc a.front a.space (44 ∷ [])) }))
    (λ n. test_judged text b (close_list (length text) s) (cond (b == 125) (close_object (length text) s) (Err (Syntax (length text)))) (b == 93) (λ e. list_judged mode.After ls p items text b e (item_after_closed text a))
    (λ n. test_judged text b (close_object (length text) s) (Err (Syntax (length text))) (b == 125) (λ e. unfold close_object in no) (λ n. no))))
after_judged text b r (after_entry {ls} {p} {members} a) =
    let s = state mode.After (level.Object p members ∷ ls) None in
    let no = syntax_at text b (after_faultless text s (after_entry a)) in
    test_judged text b (Ok s) (cond (b == 44) (to_mode mode.Key s) (cond (b == 93) (close_list (length text) s) (cond (b == 125) (close_object (length text) s) (Err (Syntax (length text)))))) (is_blank b)
    (λ e. r_after (after_blank text b s e (after_entry a)))
    (λ n. test_judged text b (to_mode mode.Key s) (cond (b == 93) (close_list (length text) s) (cond (b == 125) (close_object (length text) s) (Err (Syntax (length text))))) (b == 44)
    (λ e. r_key (record { es = a.last ∷ a.es; front = a.front; inside = a.inside; gap = gap_of a.space []; white = (a.white, tt); printed = one_more text b 44 e ∙ (ap (λ w. w ++ 44 ∷ []) a.printed ∙ append_assoc a.front a.space (44 ∷ [])) }))
    (λ n. test_judged text b (close_list (length text) s) (cond (b == 125) (close_object (length text) s) (Err (Syntax (length text)))) (b == 93) (λ e. unfold close_list in no)
    (λ n. test_judged text b (close_object (length text) s) (Err (Syntax (length text))) (b == 125) (λ e. object_judged mode.After ls p members text b e (entry_after_closed text a)) (λ n. no))))

-- ---- names
word_tree : LiteralName → Tree
word_tree literal.Null = null
word_tree literal.True = boolean true
word_tree literal.False = boolean false

word_print : (w : LiteralName) → print (word_tree w) ≡ literal_letters w
unfolding word_tree
word_print literal.Null = refl
word_print literal.True = refl
word_print literal.False = refl

word_is_tree : (w : LiteralName) → IsTree (word_tree w)
unfolding word_tree
word_is_tree literal.Null = tt
word_is_tree literal.True = tt
word_is_tree literal.False = tt

word_taken : (w : LiteralName) (depth : ℕ) → IsTaken depth (word_tree w)
unfolding word_tree
word_taken literal.Null depth = tt
word_taken literal.True depth = tt
word_taken literal.False depth = tt

word_means : (w : LiteralName) (p : ℕ) → value_at p (word_tree w) ≡ literal_value p w
unfolding word_tree
word_means literal.Null p = refl
word_means literal.True p = refl
word_means literal.False p = refl

pub word_faultless : (ls : List Level) (p : ℕ) (w : LiteralName) (n : ℕ) (text : List ℕ) → NameText ls p w n text → BeginsFaultless text
word_faultless ls p w n text h =
    faultless-front text (drop n (literal_letters w)) (faultless-is (h.before ++ print (word_tree w)) (text ++ drop n (literal_letters w))
    (ap (λ x. h.before ++ x) (word_print w ∙ sym (take-append-drop n (literal_letters w))) ∙ (sym (append_assoc h.before (take n (literal_letters w)) (drop n (literal_letters w))) ∙ ap (λ x. x ++ drop n (literal_letters w)) (sym h.printed)))
    (plug ls h.before h.stands (word_tree w) (word_is_tree w) (word_taken w (length ls))))

and_both : (x y : Bool) → (x && y) ≡ true → (x ≡ true) × (y ≡ true)
and_both true y e = (refl, e)
and_both false y e = cc

pub word_judged : (ls : List Level) (p : ℕ) (w : LiteralName) (n : ℕ) (text : List ℕ) (b : ℕ) → NameText ls p w n text → Judges text b (in_name (length text) (open_name p w n) b (state (mode.Name (open_name p w n)) ls None))
unfolding in_name
word_judged ls p w n text b h =
    let r = state (mode.Name (open_name p w n)) ls None in
    let place = length text in
    test_judged text b (cond (n + 1 == length (literal_letters w)) (complete place (literal_value p w) r) (to_mode (mode.Name (open_name p w (n + 1))) r)) (Err (Syntax place)) (nat_lt n (length (literal_letters w)) && (b == letter_at w n))
    (λ e.
    let tests = and_both (nat_lt n (length (literal_letters w))) (b == letter_at w n) e in
    let grown : text ++ b ∷ [] ≡ h.before ++ take (n + 1) (literal_letters w) =
    one_more text b (letter_at w n) tests.1 ∙ (ap (λ x. x ++ letter_at w n ∷ []) h.printed ∙ (append_assoc h.before (take n (literal_letters w)) (letter_at w n ∷ []) ∙ ap (λ x. h.before ++ x) (sym (take_more (literal_letters w) n 0 h.short)))) in
    test_judged text b (complete place (literal_value p w) r) (to_mode (mode.Name (open_name p w (n + 1))) r) (n + 1 == length (literal_letters w))
    (λ f.
    let whole : text ++ b ∷ [] ≡ h.before ++ print (word_tree w) = grown ∙ ap (λ x. h.before ++ x) (take_all (n + 1) (literal_letters w) (let same : n + 1 ≡ length (literal_letters w) = eq_at (n + 1) (length (literal_letters w)) f in omega arith) ∙ sym (word_print w)) in
    judged_as text b (complete place (literal_value p w) r) (Ok (finished (literal_value p w) ls None)) (complete_ready place (literal_value p w) (mode.Name (open_name p w n)) ls None (awaits-ready ls h.before h.stands))
    (r_after (subst (λ x. AfterValue x (finished (literal_value p w) ls None)) (sym whole)
    (subst (λ j. AfterValue (h.before ++ print (word_tree w)) (finished j ls None)) (ap (λ k. value_at k (word_tree w)) (sym h.place) ∙ word_means w p) (finished_after ls h.before h.stands (word_tree w) (word_is_tree w) (word_taken w (length ls)))))))
    (λ f.
    let apart : n + 1 < length (literal_letters w) = short_of n (length (literal_letters w)) h.short f in
    r_name (record { before = h.before; stands = h.stands; place = h.place; short = apart; printed = grown })))
    (λ e. syntax_at text b (word_faultless ls p w n text h))
  where
    short_of : (k m : ℕ) → k < m → k + 1 == m ≡ false → k + 1 < m
    short_of k m l e = grind (arith, nat_tests)

-- ---- numbers
pub fold-snoc : (ds : List ℕ) (n b : ℕ) → fold grow n (ds ++ b ∷ []) ≡ grow (fold grow n ds) b
fold-snoc [] n b = refl
fold-snoc (d ∷ ds) n b = fold-snoc ds (grow n d) b

pub digits-snoc : (ds : List ℕ) (b : ℕ) → AreDigits ds → is_decimal b ≡ true → AreDigits (ds ++ b ∷ [])
digits-snoc [] b h e = (e, tt)
digits-snoc (d ∷ ds) b h e = (h.0, digits-snoc ds b h.1 e)

number_front : (ls : List Level) (p : ℕ) (minus : Bool) (ds : List ℕ) (text rest : List ℕ) (h : NumberText ls p minus ds text) → text ++ rest ≡ h.before ++ (with_minus minus ds ++ rest)
number_front ls p minus ds text rest h = ap (λ w. w ++ rest) h.printed ∙ append_assoc h.before (with_minus minus ds) rest

pub number_within : (ls : List Level) (p : ℕ) (minus : Bool) (ds : List ℕ) (text rest : List ℕ) → NumberText ls p minus ds text → p ≤ length (text ++ rest)
number_within ls p minus ds text rest h =
    omega (arith, h.place, ap length (number_front ls p minus ds text rest h), length-append h.before (with_minus minus ds ++ rest))

pub number_back : (ls : List Level) (p : ℕ) (minus : Bool) (ds : List ℕ) (text rest : List ℕ) → NumberText ls p minus ds text → drop p (text ++ rest) ≡ with_minus minus ds ++ rest
number_back ls p minus ds text rest h =
    ap (λ n. drop n (text ++ rest)) h.place
    ∙ (ap (drop (length h.before)) (number_front ls p minus ds text rest h) ∙ drop-append_seam h.before (with_minus minus ds ++ rest))

pub number_awaited : (ls : List Level) (p : ℕ) (minus : Bool) (ds : List ℕ) (text rest : List ℕ) → NumberText ls p minus ds text → AwaitsValue (take p (text ++ rest))
number_awaited ls p minus ds text rest h =
    subst AwaitsValue
    (sym (ap (λ n. take n (text ++ rest)) h.place
    ∙ (ap (take (length h.before)) (number_front ls p minus ds text rest h) ∙ take-append_seam h.before (with_minus minus ds ++ rest))))
    (awaits_value ls h.before h.stands)

abbrev pub number_stands : (ls : List Level) (p : ℕ) (minus : Bool) (ds : List ℕ) (text rest : List ℕ) → NumberText ls p minus ds text → IsWhole ds → HasNumber (text ++ rest) p
number_stands ls p minus ds text rest h whole = record {
  minus = minus;
  digits = ds;
  rest = rest;
  within = number_within ls p minus ds text rest h;
  whole = whole;
  stands = number_back ls p minus ds text rest h;
  awaited = number_awaited ls p minus ds text rest h;
}

number_bytes : (minus : Bool) (ds : List ℕ) → print (number minus ds [] []) ≡ with_minus minus ds
number_bytes minus ds = append-nil (with_minus minus ds)

pub number_after : (ls : List Level) (p : ℕ) (minus : Bool) (ds : List ℕ) (text : List ℕ) → NumberText ls p minus ds text → IsWhole ds → fits minus (magnitude ds) ≡ true → AfterValue text (finished (Int p (int_value minus (magnitude ds))) ls None)
number_after ls p minus ds text h whole fit =
    subst (λ w. AfterValue w (finished (Int p (int_value minus (magnitude ds))) ls None)) (ap (λ w. h.before ++ w) (number_bytes minus ds) ∙ sym h.printed)
    (subst (λ n. AfterValue (h.before ++ print (number minus ds [] [])) (finished (Int n (int_value minus (magnitude ds))) ls None)) (sym h.place)
    (finished_after ls h.before h.stands (number minus ds [] []) (whole, tt, tt) (refl, refl, fit)))

pub digits_judged : (m : Mode) (ls : List Level) (p : ℕ) (minus : Bool) (ds : List ℕ) (text : List ℕ) (b : ℕ) → NumberText ls p minus ds text → IsWhole ds → (is_decimal b ≡ false) ⊎ (fits minus (magnitude ds) ≡ true) → Judges text b (after_digits (length text) (open_number p minus (sat (magnitude ds))) b (state m ls None))
unfolding after_digits
digits_judged m ls p minus ds text b h whole side =
    test_judged text b (Err (Fraction p)) (and_then (end_number (length text) (open_number p minus (sat (magnitude ds))) (state m ls None)) (between (length text) b)) (is_mark b)
    (λ e rest. (number_stands ls p minus ds text (b ∷ rest) h whole, e))
    (λ unmarked. ended (fits minus (magnitude ds)) refl unmarked)
  where
    ended : (fit : Bool) → fits minus (magnitude ds) ≡ fit → is_mark b ≡ false → Judges text b (and_then (end_number (length text) (open_number p minus (sat (magnitude ds))) (state m ls None)) (between (length text) b))
    ended true e unmarked =
        judged_as text b (and_then (end_number (length text) (open_number p minus (sat (magnitude ds))) (state m ls None)) (between (length text) b)) (between (length text) b (finished (Int p (int_value minus (magnitude ds))) ls None))
        (ap (λ o. and_then o (between (length text) b)) (number_taken (length text) p minus (magnitude ds) m ls None (awaits-ready ls h.before h.stands) e))
        (after_judged text b (finished (Int p (int_value minus (magnitude ds))) ls None) (number_after ls p minus ds text h whole e))
    ended false e unmarked =
        judged_as text b (and_then (end_number (length text) (open_number p minus (sat (magnitude ds))) (state m ls None)) (between (length text) b)) (Err (Range p))
        (ap (λ o. and_then o (between (length text) b)) (number_refused (length text) p minus (magnitude ds) m ls None e))
        (λ rest. (number_stands ls p minus ds text (b ∷ rest) h whole, ends, e))
      where
        ends : is_decimal b || is_mark b ≡ false
        ends = elim side as (λ _. is_decimal b || is_mark b ≡ false) [ inl d ↦ rw (d, unmarked) refl | inr f ↦ absurd (let clash : true ≡ false = sym f ∙ e in cc) ]

pub minus_faultless : (ls : List Level) (p : ℕ) (text : List ℕ) → NumberText ls p true [] text → BeginsFaultless text
minus_faultless ls p text h =
    faultless-front text (48 ∷ []) (faultless-is (h.before ++ print (number true (48 ∷ []) [] [])) (text ++ 48 ∷ [])
    (sym (ap (λ w. w ++ 48 ∷ []) h.printed ∙ append_assoc h.before (45 ∷ []) (48 ∷ [])))
    (plug ls h.before h.stands (number true (48 ∷ []) [] []) (inl (refl, refl), tt, tt) (refl, refl, refl)))

pub minus_judged : (ls : List Level) (p : ℕ) (text : List ℕ) (b : ℕ) → NumberText ls p true [] text → Judges text b (after_minus (length text) p b (state (mode.Minus p) ls None))
unfolding after_minus
minus_judged ls p text b h =
    test_judged text b (to_mode (number_mode p true b) (state (mode.Minus p) ls None)) (Err (Syntax (length text))) (is_decimal b)
    (λ e. number_begun (mode.Minus p) ls p true text b h e) (λ e. syntax_at text b (minus_faultless ls p text h))
