-- The reader's answer to a text is its value, or a fault that the text has.
use Rattle.ordered_json.specs.declared.json.Member.{Member}
use Rattle.ordered_json.specs.declared.level.Level.{Level}
use Rattle.ordered_json.specs.declared.level.Level.TheVariants as level
use Rattle.ordered_json.specs.declared.mode.Mode.TheVariants as mode
use Rattle.ordered_json.specs.declared.reader.Reader.{Reader}
use Rattle.ordered_json.specs.Words.{key_of}
use Rattle.ordered_json.specs.Grammar.{is_blank, Char, AreChars, print_string, print}
use Rattle.ordered_json.specs.Meaning.{string_content, has_key}
use Rattle.ordered_json.proofs.StateLemmas.{state, finished}
use Rattle.ordered_json.proofs.PrefixLemmas.{KeyAwaits, Awaits, awaits-blank, key_awaits-blank, colon_awaits-blank, awaits-ready, faultless-front, faultless-is, plug}
use Rattle.ordered_json.proofs.FreshKeyLemmas.{fresh_after}
use Rattle.std.proofs.Common.{◌≡◌, [], ◌∷◌, ◌++◌, ℕ, ◌-◌, Bool, true, false, cond, ◌==◌, ◌⊎◌, inl, inr, List, length, take, drop, map, None, Ok, Err, refl, ap, sym, ◌∙◌, arith, subst, append_assoc, append-nil, length-append}
use Rattle.std.specs.Prelude.{encode_utf8}
use Rattle.std.proofs.Math.Seq.{take-append_seam, drop-append_seam}
use Rattle.ordered_json.specs.declared.fault.JsonFault.TheVariants.{Syntax, DoubleKey}
use Rattle.ordered_json.specs.declared.json.OrderedJson.{Text}
use Rattle.ordered_json.specs.declared.mode.Spelled.{Spelled}
use Rattle.ordered_json.specs.declared.mode.Spelled.TheVariants as spelled
use Rattle.ordered_json.specs.declared.mode.Spelling.{Spelling}
use Rattle.ordered_json.specs.declared.mode.Spelling.TheVariants as at
use Rattle.ordered_json.specs.Grammar.{is_decimal, print_char, print_chars, string}
use Rattle.ordered_json.specs.Meaning.{magnitude, fits, char_value}
use Rattle.ordered_json.specs.Faults.{BeginsFaultless, AwaitsKey, HasDoubleKey}
use Rattle.ordered_json.specs.Steps.{complete, close_list, close_object, between, begin_value, begin_key, to_mode, take_byte, in_text, spelled_in, end_text, end_key, after_digits, in_digits, open_number, open_text, with_digit}
use Rattle.ordered_json.specs.Spell.{spell}
use Rattle.ordered_json.proofs.StateLemmas.{complete_ready}
use Rattle.ordered_json.proofs.NumberLemmas.{sat, grow, sat-grow}
use Rattle.ordered_json.proofs.StringLemmas.{text_state}
use Rattle.ordered_json.proofs.SpellLemmas.{IsSpelling, IsRight, SpellsChar, CanSpell, spelled_bytes, spell_right, can_spell}
use Rattle.ordered_json.proofs.FreshKeyLemmas.{string_content-append, print_chars-append, are-append}
use Rattle.ordered_json.proofs.ValueLemmas.{AfterValue, after_all, after_item, after_entry, finished_after, named_faultless, colon_awaits_faultless, awaits_key}
use Rattle.ordered_json.proofs.ByteLemmas.{StringText, Reached, r_value, r_first_item, r_first_key, r_key, r_colon, r_after, r_name, r_minus, r_zero, r_digits, r_text, r_key_text, Judges, test_judged, judged_as, syntax_at, one_more, begin_judged, key_judged, first_awaits, first_key_awaits, first_blank, first_closed, first_closed_object, list_judged, object_judged, after_judged, word_judged, fold-snoc, digits-snoc, number_more, digits_judged, minus_judged}

-- ---- strings
-- the characters that are read, the last one made whole
record Whole {awaited : List ℕ → Type 0} {p : ℕ} {s : Spelling} {c text : List ℕ} (h : StringText awaited p s c text) : Type 0 where
  chars : List Char
  are : AreChars chars
  more : List ℕ
  printed : text ++ more ≡ h.before ++ 34 ∷ print_chars chars

whole_string : {awaited : List ℕ → Type 0} {p : ℕ} {c text : List ℕ} (s : Spelling) (h : StringText awaited p s c text) → (s ≡ at.Between) ⊎ CanSpell s → Whole h
whole_string {text = text} s h (inl e) = record {
  chars = h.chars;
  are = h.are;
  more = [];
  printed = append-nil text ∙ (h.printed ∙ ap (λ w. h.before ++ 34 ∷ w) (ap (λ t. print_chars h.chars ++ spelled_bytes t) e ∙ append-nil (print_chars h.chars)));
}
whole_string {text = text} s h (inr g) = record {
  chars = h.chars ++ g.char ∷ [];
  are = are-append h.chars (g.char ∷ []) h.are (g.is_char, tt);
  more = g.more;
  printed = ap (λ w. w ++ g.more) h.printed ∙ (append_assoc h.before (34 ∷ (print_chars h.chars ++ spelled_bytes s)) g.more
      ∙ ap (λ w. h.before ++ 34 ∷ w) (append_assoc (print_chars h.chars) (spelled_bytes s) g.more
      ∙ (ap (λ w. print_chars h.chars ++ w) (sym g.printed ∙ sym (append-nil (print_char g.char))) ∙ sym (print_chars-append h.chars (g.char ∷ [])))));
}

pub text_faultless : (ls : List Level) (p : ℕ) (s : Spelling) (c text : List ℕ) → StringText (Awaits ls) p s c text → BeginsFaultless text
text_faultless ls p s c text h =
    let w = whole_string s h (can_spell s h.spelling) in
    faultless-front text (w.more ++ 34 ∷ []) (faultless-is (h.before ++ print (string w.chars)) (text ++ (w.more ++ 34 ∷ []))
    (sym (sym (append_assoc text w.more (34 ∷ [])) ∙ (ap (λ x. x ++ 34 ∷ []) w.printed ∙ append_assoc h.before (34 ∷ print_chars w.chars) (34 ∷ []))))
    (plug ls h.before h.stands (string w.chars) w.are tt))

pub key_text_faultless : (ls : List Level) (q : ℕ) (members : List Member) (p : ℕ) (s : Spelling) (c text : List ℕ) → StringText (KeyAwaits (Awaits ls) (length ls) q members) p s c text → BeginsFaultless text
key_text_faultless ls q members p s c text h =
    let w = whole_string s h (can_spell s h.spelling) in
    let f = fresh_after w.chars (map key_of members) in
    let cs = w.chars ++ f.more in
    let tail = print_chars f.more ++ (34 ∷ 58 ∷ []) in
    let bytes : text ++ (w.more ++ tail) ≡ h.before ++ (print_string cs ++ 58 ∷ []) =
    sym (append_assoc text w.more tail) ∙ (ap (λ x. x ++ tail) w.printed ∙ (append_assoc h.before (34 ∷ print_chars w.chars) tail
    ∙ ap (λ x. h.before ++ 34 ∷ x) (sym (append_assoc (print_chars w.chars) (print_chars f.more) (34 ∷ 58 ∷ [])) ∙ (ap (λ x. x ++ (34 ∷ 58 ∷ [])) (sym (print_chars-append w.chars f.more)) ∙ sym (append_assoc (print_chars cs) (34 ∷ []) (58 ∷ [])))))) in
    faultless-front text (w.more ++ tail) (faultless-is (h.before ++ (print_string cs ++ 58 ∷ [])) (text ++ (w.more ++ tail)) (sym bytes)
    (named_faultless ls h.before cs h.stands (are-append w.chars f.more w.are f.are) f.fresh))

-- one byte more of a character, and a character more
text_more : {awaited : List ℕ → Type 0} {p : ℕ} {s : Spelling} {c : List ℕ} (text : List ℕ) (b : ℕ) (t : Spelling) → StringText awaited p s c text → IsSpelling t × (spelled_bytes t ≡ spelled_bytes s ++ b ∷ []) → StringText awaited p t c (text ++ b ∷ [])
text_more {s = s} text b t h right = record {
  before = h.before;
  stands = h.stands;
  place = h.place;
  chars = h.chars;
  are = h.are;
  content_is = h.content_is;
  spelling = right.0;
  printed = ap (λ w. w ++ b ∷ []) h.printed ∙ (append_assoc h.before (34 ∷ (print_chars h.chars ++ spelled_bytes s)) (b ∷ []) ∙ ap (λ w. h.before ++ 34 ∷ w) (append_assoc (print_chars h.chars) (spelled_bytes s) (b ∷ []) ∙ ap (λ w. print_chars h.chars ++ w) (sym right.1)));
}

text_char : {awaited : List ℕ → Type 0} {p : ℕ} {s : Spelling} {c : List ℕ} (text : List ℕ) (b v : ℕ) → StringText awaited p s c text → SpellsChar (spelled_bytes s ++ b ∷ []) v → StringText awaited p at.Between (c ++ encode_utf8 v) (text ++ b ∷ [])
text_char {s = s} {c} text b v h right = record {
  before = h.before;
  stands = h.stands;
  place = h.place;
  chars = h.chars ++ right.0 ∷ [];
  are = are-append h.chars (right.0 ∷ []) h.are (right.1, tt);
  content_is = ap (λ d. d ++ encode_utf8 v) h.content_is ∙ (ap (λ n. string_content h.chars ++ encode_utf8 n) (sym right.2) ∙ (ap (λ d. string_content h.chars ++ d) (sym (append-nil (encode_utf8 (char_value right.0)))) ∙ sym (string_content-append h.chars (right.0 ∷ []))));
  spelling = tt;
  printed = ap (λ w. w ++ b ∷ []) h.printed ∙ (append_assoc h.before (34 ∷ (print_chars h.chars ++ spelled_bytes s)) (b ∷ []) ∙ ap (λ w. h.before ++ 34 ∷ w)
      (append_assoc (print_chars h.chars) (spelled_bytes s) (b ∷ []) ∙ (ap (λ w. print_chars h.chars ++ w) (sym right.3 ∙ sym (append-nil (print_char right.0))) ∙ (sym (print_chars-append h.chars (right.0 ∷ [])) ∙ sym (append-nil (print_chars (h.chars ++ right.0 ∷ [])))))));
}

-- the closing quote
text_ends : {awaited : List ℕ → Type 0} {p : ℕ} {s : Spelling} {c : List ℕ} (text : List ℕ) (b : ℕ) (h : StringText awaited p s c text) → (spelled_bytes s ≡ []) × (b ≡ 34) → text ++ b ∷ [] ≡ h.before ++ print_string h.chars
text_ends text b h right =
    ap (λ n. text ++ n ∷ []) right.1
    ∙ (ap (λ w. w ++ 34 ∷ []) (h.printed ∙ ap (λ w. h.before ++ 34 ∷ w) (ap (λ w. print_chars h.chars ++ w) right.0 ∙ append-nil (print_chars h.chars)))
    ∙ append_assoc h.before (34 ∷ print_chars h.chars) (34 ∷ []))

text_judged : (ls : List Level) (p : ℕ) (s : Spelling) (c text : List ℕ) (b : ℕ) (x : Spelled) → StringText (Awaits ls) p s c text → IsRight s b x → Judges text b (spelled_in (length text) (open_text p false s) (text_state p false s ls None c) x)
unfolding end_text
text_judged ls p s c text b (spelled.More t) h right = r_text (text_more text b t h right)
text_judged ls p s c text b (spelled.Char v) h right = r_text (text_char text b v h right)
text_judged ls p s c text b spelled.End h right =
    judged_as text b (complete (length text) (Text p c) (state (mode.Text (open_text p false s)) ls None)) (Ok (finished (Text p c) ls None)) (complete_ready (length text) (Text p c) (mode.Text (open_text p false s)) ls None (awaits-ready ls h.before h.stands))
    (r_after (subst (λ w. AfterValue w (finished (Text p c) ls None)) (sym (text_ends text b h right))
    (subst (λ j. AfterValue (h.before ++ print_string h.chars) (finished j ls None)) (ap (λ n. Text n (string_content h.chars)) (sym h.place) ∙ ap (Text p) (sym h.content_is)) (finished_after ls h.before h.stands (string h.chars) h.are tt))))
text_judged ls p s c text b spelled.Bad h right = syntax_at text b (text_faultless ls p s c text h)

-- the key that stands twice
double_key : (ls : List Level) (q : ℕ) (members : List Member) (p : ℕ) (s : Spelling) (c text : List ℕ) (b : ℕ) (h : StringText (KeyAwaits (Awaits ls) (length ls) q members) p s c text) → (spelled_bytes s ≡ []) × (b ≡ 34) → (rest : List ℕ) → (BeginsFaultless (text ++ b ∷ []) → ⊥) → HasDoubleKey (text ++ b ∷ rest) p
double_key ls q members p s c text b h right rest refused =
    let ends = text_ends text b h right in
    let bytes : text ++ b ∷ rest ≡ h.before ++ (print_string h.chars ++ rest) = sym (append_assoc text (b ∷ []) rest) ∙ (ap (λ w. w ++ rest) ends ∙ append_assoc h.before (print_string h.chars) rest) in
    let front : take p (text ++ b ∷ rest) ≡ h.before = ap (λ n. take n (text ++ b ∷ rest)) h.place ∙ (ap (take (length h.before)) bytes ∙ take-append_seam h.before (print_string h.chars ++ rest)) in
    record {
      key = h.chars;
      rest = rest;
      within = omega (arith, h.place, ap length bytes, length-append h.before (print_string h.chars ++ rest));
      well_formed = h.are;
      stands = ap (λ n. drop n (text ++ b ∷ rest)) h.place ∙ (ap (drop (length h.before)) bytes ∙ drop-append_seam h.before (print_string h.chars ++ rest));
      awaited = subst AwaitsKey (sym front) (awaits_key ls h.before h.stands);
      double = λ f. refused (faultless-is (h.before ++ print_string h.chars) (text ++ b ∷ []) (sym ends) (subst (λ w. BeginsFaultless (w ++ print_string h.chars)) front f));
    }

key_text_judged : (ls : List Level) (q : ℕ) (members : List Member) (p : ℕ) (s : Spelling) (c text : List ℕ) (b : ℕ) (x : Spelled) → StringText (KeyAwaits (Awaits ls) (length ls) q members) p s c text → IsRight s b x → Judges text b (spelled_in (length text) (open_text p true s) (text_state p true s (level.Object q members ∷ ls) None c) x)
unfolding end_text end_key
key_text_judged ls q members p s c text b (spelled.More t) h right = r_key_text (text_more text b t h right)
key_text_judged ls q members p s c text b (spelled.Char v) h right = r_key_text (text_char text b v h right)
key_text_judged ls q members p s c text b spelled.End h right =
    test_judged text b (Err (DoubleKey p)) (Ok (state mode.Colon (level.Member q members c p ∷ ls) None)) (has_key c (map key_of members))
    (λ e rest refused. double_key ls q members p s c text b h right rest refused)
    (λ e. r_colon (record {
      before = h.before;
      awaited = h.stands;
      chars = h.chars;
      gap = [];
      are = h.are;
      fresh = subst (λ k. has_key k (map key_of members) ≡ false) h.content_is e;
      white = tt;
      key_is = h.content_is;
      place = h.place;
      printed = text_ends text b h right ∙ ap (λ w. h.before ++ w) (sym (append-nil (print_string h.chars)));
    }))
key_text_judged ls q members p s c text b spelled.Bad h right = syntax_at text b (key_text_faultless ls q members p s c text h)

-- ---- every byte
pub reached_step : (text : List ℕ) (b : ℕ) (r : Reader) → Reached text r → Judges text b (take_byte (length text) b r)
unfolding take_byte between in_text in_digits
reached_step text b r (r_value {ls} a) =
    let s = state mode.Value ls None in
    test_judged text b (Ok s) (begin_value (length text) b s) (is_blank b) (λ e. r_value (awaits-blank ls text b e a)) (λ e. begin_judged mode.Value ls text b a)
reached_step text b r (r_first_item {ls} {p} f) =
    let s = state mode.FirstItem (level.List p [] ∷ ls) None in
    test_judged text b (Ok s) (cond (b == 93) (close_list (length text) s) (begin_value (length text) b s)) (is_blank b) (λ e. r_first_item (first_blank text b e f))
    (λ n. test_judged text b (close_list (length text) s) (begin_value (length text) b s) (b == 93) (λ e. list_judged mode.FirstItem ls p [] text b e (first_closed ls p text f)) (λ e. begin_judged mode.FirstItem (level.List p [] ∷ ls) text b (first_awaits ls p text f)))
reached_step text b r (r_first_key {ls} {p} f) =
    let s = state mode.FirstKey (level.Object p [] ∷ ls) None in
    test_judged text b (Ok s) (cond (b == 125) (close_object (length text) s) (begin_key (length text) b s)) (is_blank b) (λ e. r_first_key (first_blank text b e f))
    (λ n. test_judged text b (close_object (length text) s) (begin_key (length text) b s) (b == 125) (λ e. object_judged mode.FirstKey ls p [] text b e (first_closed_object ls p text f)) (λ e. key_judged mode.FirstKey ls p [] text b (first_key_awaits ls p text f)))
reached_step text b r (r_key {ls} {p} {members} k) =
    let s = state mode.Key (level.Object p members ∷ ls) None in
    test_judged text b (Ok s) (begin_key (length text) b s) (is_blank b) (λ e. r_key (key_awaits-blank text b e k)) (λ e. key_judged mode.Key ls p members text b k)
reached_step text b r (r_colon {ls} {p} {members} {key} {key_at} c) =
    let s = state mode.Colon (level.Member p members key key_at ∷ ls) None in
    test_judged text b (Ok s) (cond (b == 58) (to_mode mode.Value s) (Err (Syntax (length text)))) (is_blank b) (λ e. r_colon (colon_awaits-blank text b e c))
    (λ n. test_judged text b (to_mode mode.Value s) (Err (Syntax (length text))) (b == 58)
    (λ e. r_value {ls = level.Member p members key key_at ∷ ls} (record { before = text; named = c; gap' = []; white' = tt; printed = one_more text b 58 e }))
    (λ e. syntax_at text b (colon_awaits_faultless ls text c)))
reached_step text b r (r_after (after_all h)) = after_judged text b r (after_all h)
reached_step text b r (r_after (after_item a)) = after_judged text b r (after_item a)
reached_step text b r (r_after (after_entry a)) = after_judged text b r (after_entry a)
reached_step text b r (r_name {ls} {p} {w} {n} h) = word_judged ls p w n text b h
reached_step text b r (r_minus {ls} {p} h) = minus_judged ls p text b h
reached_step text b r (r_zero {ls} {p} {minus} h) = digits_judged (mode.Zero (open_number p minus 0)) ls p minus (48 ∷ []) text b h (inl (refl, refl)) (inr (zero_fits minus))
  where
    zero_fits : (m : Bool) → fits m 0 ≡ true
    zero_fits true = refl
    zero_fits false = refl
reached_step text b r (r_digits {ls} {p} {minus} d ds h n are) =
    let k = magnitude (d ∷ ds) in
    let s = state (mode.Digits (open_number p minus (sat (magnitude (d ∷ ds))))) ls None in
    chosen (is_decimal b) refl
  where
    chosen : (x : Bool) → is_decimal b ≡ x → Judges text b (cond (is_decimal b) (to_mode (mode.Digits (open_number p minus (with_digit (sat (magnitude (d ∷ ds))) b))) (state (mode.Digits (open_number p minus (sat (magnitude (d ∷ ds))))) ls None)) (after_digits (length text) (open_number p minus (sat (magnitude (d ∷ ds)))) b (state (mode.Digits (open_number p minus (sat (magnitude (d ∷ ds))))) ls None)))
    chosen true e = rw e (subst (λ m. Reached (text ++ b ∷ []) (state (mode.Digits (open_number p minus m)) ls None)) (ap sat (fold-snoc ds (grow 0 d) b) ∙ sym (sat-grow (magnitude (d ∷ ds)) (b - 48))) (r_digits d (ds ++ b ∷ []) (number_more text b h) n (digits-snoc (d ∷ ds) b are e)))
    chosen false e = rw e (digits_judged (mode.Digits (open_number p minus (sat (magnitude (d ∷ ds))))) ls p minus (d ∷ ds) text b h (inr (n, are)) (inl e))
reached_step text b r (r_text {ls} {p} {s} {c} h) = text_judged ls p s c text b (spell s b) h (spell_right s b h.spelling)
reached_step text b r (r_key_text {ls} {q} {members} {p} {s} {c} h) = key_text_judged ls q members p s c text b (spell s b) h (spell_right s b h.spelling)
