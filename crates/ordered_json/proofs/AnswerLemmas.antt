-- The reader's answer to a whole text.
use Rattle.std.proofs.Common.{◌≡◌, ◌≢◌, [], ◌∷◌, ◌++◌, ℕ, ◌+◌, ◌≤◌, Bool, true, false, ◌⊎◌, inl, inr, List, length, take, None, Ok, Err, refl, ap, sym, ◌∙◌, arith, subst, append_assoc, append-nil, length-append}
use Rattle.std.specs.Prelude.{IfOk, IfErr}
use Rattle.std.proofs.Math.Seq.{take-append_seam}
use Rattle.std.proofs.lemmas.List.{take_all}
use Rattle.ordered_json.specs.declared.TheConstants.{MAX_TEXT}
use Rattle.ordered_json.specs.declared.fault.JsonFault.{JsonFault}
use Rattle.ordered_json.specs.declared.fault.JsonFault.TheVariants.{Syntax, DoubleKey, Fraction, Range, TooDeep, TooLong, Memory}
use Rattle.ordered_json.specs.declared.json.OrderedJson.{OrderedJson, Int}
use Rattle.ordered_json.specs.declared.level.Level.{Level}
use Rattle.ordered_json.specs.declared.mode.Mode.{Mode}
use Rattle.ordered_json.specs.declared.mode.Mode.TheVariants as mode
use Rattle.ordered_json.specs.declared.reader.Reader.{Reader}
use Rattle.ordered_json.specs.Grammar.{IsJson, IsWhole}
use Rattle.ordered_json.specs.Meaning.{IsMeaningless, magnitude, int_value, fits, value_at, IsTaken, HasValue, Means}
use Rattle.ordered_json.specs.Faults.{Begins, BeginsFaultless, HasSyntaxFault, HasDoubleKey, HasFraction, IsOutOfRange, IsTooDeep, HasFault}
use Rattle.ordered_json.specs.Steps.{Reading, reader_answer, answer_from, answer_of, finish, settle, end_number, take_byte, start, open_number}
use Rattle.ordered_json.proofs.RunLemmas.{answer_from-err}
use Rattle.ordered_json.proofs.StateLemmas.{state, finished}
use Rattle.ordered_json.proofs.LiteralLemmas.{Answer}
use Rattle.ordered_json.proofs.NumberLemmas.{sat, number_taken, number_refused}
use Rattle.ordered_json.proofs.TokenLemmas.{IsRefusal}
use Rattle.ordered_json.proofs.TreeLemmas.{answers_json}
use Rattle.ordered_json.proofs.PrefixLemmas.{awaits-ready}
use Rattle.ordered_json.proofs.ValueLemmas.{AfterValue, after_all, after_item, after_entry, after_faultless, awaits_faultless, key_awaits_faultless, colon_awaits_faultless, closed_list_faultless, closed_object_faultless}
use Rattle.ordered_json.proofs.ByteLemmas.{NumberText, Reached, r_value, r_first_item, r_first_key, r_key, r_colon, r_after, r_name, r_minus, r_zero, r_digits, r_text, r_key_text, Shows, Judges, first_closed, first_closed_object, word_faultless, minus_faultless, number_stands, number_after}
use Rattle.ordered_json.proofs.StepLemmas.{reached_step, text_faultless, key_text_faultless}

-- a text with a value is answered by it
pub reader_answer-value : (text : List ℕ) (json : OrderedJson) → HasValue text json → reader_answer text ≡ Ok json
reader_answer-value text json h = by (answers_json text h.0 h.1 h.2 h.3)
  where
    by : (reader_answer text ≡ Ok (value_at (length h.0) h.1)) ⊎ ((IsTaken 0 h.1 → ⊥) × (fault : JsonFault) × IsRefusal fault × (reader_answer text ≡ Err fault)) → reader_answer text ≡ Ok json
    by (inl e) = e ∙ ap Ok (sym h.5)
    by (inr n) = absurd (n.0 h.4)

-- a JSON text is never answered by a fault of its syntax
pub json-no_syntax : (text : List ℕ) (p : ℕ) → IsJson text → reader_answer text ≡ Err (Syntax p) → ⊥
json-no_syntax text p h e = by (answers_json text h.0 h.1 h.2 h.3)
  where
    refused : (fault : JsonFault) → IsRefusal fault → Syntax p ≡ fault → ⊥
    refused fault r s = subst IsRefusal (sym s) r

    by : (reader_answer text ≡ Ok (value_at (length h.0) h.1)) ⊎ ((IsTaken 0 h.1 → ⊥) × (fault : JsonFault) × IsRefusal fault × (reader_answer text ≡ Err fault)) → ⊥
    by (inl f) = let clash : Err (Syntax p) ≡ Ok (value_at (length h.0) h.1) = sym e ∙ f in cc
    by (inr n) = refused n.1 n.2 (let same : ◌≡◌ {A = Answer} (Err (Syntax p)) (Err n.1) = sym e ∙ n.3 in cc)

-- what an answer says of the text
abbrev pub Finds : List ℕ → JsonFault → Type 0
Finds text (Syntax p) = HasSyntaxFault text p
Finds text (DoubleKey p) = HasDoubleKey text p
Finds text (Fraction p) = HasFraction text p
Finds text (Range p) = IsOutOfRange text p
Finds text (TooDeep p) = IsTooDeep text p
Finds text TooLong = ⊥
Finds text Memory = ⊥

abbrev pub Says : List ℕ → Answer → Type 0
Says text (Ok json) = HasValue text json
Says text (Err fault) = Finds text fault

-- the text leads the reader there
abbrev pub Follows : List ℕ → Reader → Type 0
Follows text r = (rest : List ℕ) → reader_answer (text ++ rest) ≡ answer_from (length text) rest (Ok r)

-- ---- the end of the text
syntax_end : (text : List ℕ) → BeginsFaultless text → reader_answer text ≡ Err (Syntax (length text)) → HasSyntaxFault text (length text)
syntax_end text h e = record {
  faultless = subst BeginsFaultless (sym (take_all (length text) text (omega arith))) h;
  fault = inl (refl, λ j. json-no_syntax text (length text) j e);
}

after_end : (text : List ℕ) (r : Reader) → AfterValue text r → reader_answer text ≡ answer_of (length text) (Ok r) → Says text (answer_of (length text) (Ok r))
after_end text r (after_all h) e = h
after_end text r (after_item a) e = syntax_end text (after_faultless text r (after_item a)) e
after_end text r (after_entry a) e = syntax_end text (after_faultless text r (after_entry a)) e

number_end : (m : Mode) (ls : List Level) (p : ℕ) (minus : Bool) (ds text : List ℕ) → NumberText ls p minus ds text → IsWhole ds → reader_answer text ≡ answer_of (length text) (end_number (length text) (open_number p minus (sat (magnitude ds))) (state m ls None)) → Says text (answer_of (length text) (end_number (length text) (open_number p minus (sat (magnitude ds))) (state m ls None)))
number_end m ls p minus ds text h whole e = by (fits minus (magnitude ds)) refl
  where
    by : (x : Bool) → fits minus (magnitude ds) ≡ x → Says text (answer_of (length text) (end_number (length text) (open_number p minus (sat (magnitude ds))) (state m ls None)))
    by true f =
        let same = ap (answer_of (length text)) (number_taken (length text) p minus (magnitude ds) m ls None (awaits-ready ls h.before h.stands) f) in
        subst (Says text) (sym same) (after_end text (finished (Int p (int_value minus (magnitude ds))) ls None) (number_after ls p minus ds text h whole f) (e ∙ same))
    by false f =
        let same = ap (answer_of (length text)) (number_refused (length text) p minus (magnitude ds) m ls None f) in
        subst (Says text) (sym same) (subst (λ w. IsOutOfRange w p) (append-nil text) (number_stands ls p minus ds text [] h whole, tt, f))

reached_end : (text : List ℕ) (r : Reader) → Reached text r → reader_answer text ≡ finish (length text) (Ok r) → Says text (finish (length text) (Ok r))
unfolding settle
reached_end text r (r_value {ls} a) e = syntax_end text (awaits_faultless ls text a) e
reached_end text r (r_first_item {ls} {p} f) e = syntax_end text (closed_list_faultless text (first_closed ls p text f)) e
reached_end text r (r_first_key {ls} {p} f) e = syntax_end text (closed_object_faultless text (first_closed_object ls p text f)) e
reached_end text r (r_key {ls} k) e = syntax_end text (key_awaits_faultless ls text k) e
reached_end text r (r_colon {ls} c) e = syntax_end text (colon_awaits_faultless ls text c) e
reached_end text r (r_after (after_all h)) e = after_end text r (after_all h) e
reached_end text r (r_after (after_item a)) e = after_end text r (after_item a) e
reached_end text r (r_after (after_entry a)) e = after_end text r (after_entry a) e
reached_end text r (r_name {ls} {p} {w} {n} h) e = syntax_end text (word_faultless ls p w n text h) e
reached_end text r (r_minus {ls} {p} h) e = syntax_end text (minus_faultless ls p text h) e
reached_end text r (r_zero {ls} {p} {minus} h) e = number_end (mode.Zero (open_number p minus 0)) ls p minus (48 ∷ []) text h (inl (refl, refl)) e
reached_end text r (r_digits {ls} {p} {minus} d ds h n are) e = number_end (mode.Digits (open_number p minus (sat (magnitude (d ∷ ds))))) ls p minus (d ∷ ds) text h (inr (n, are)) e
reached_end text r (r_text {ls} {p} {s} {c} h) e = syntax_end text (text_faultless ls p s c text h) e
reached_end text r (r_key_text {ls} {q} {members} {p} {s} {c} h) e = syntax_end text (key_text_faultless ls q members p s c text h) e

-- ---- a fault at a byte
-- whatever follows the byte, the answer is the fault
pub stops : (text : List ℕ) (b : ℕ) (r : Reader) (fault : JsonFault) → Follows text r → take_byte (length text) b r ≡ Err fault → (rest : List ℕ) → reader_answer (text ++ b ∷ rest) ≡ Err fault
stops text b r fault f e rest = f (b ∷ rest) ∙ (ap (answer_from (length text + 1) rest) e ∙ answer_from-err (length text + 1) rest fault)

not_faultless : (text : List ℕ) (b : ℕ) (r : Reader) (fault : JsonFault) → Follows text r → take_byte (length text) b r ≡ Err fault → BeginsFaultless (text ++ b ∷ []) → ⊥
not_faultless text b r fault f e h =
    let value = reader_answer-value ((text ++ b ∷ []) ++ h.0) h.1 h.2 in
    let clash : Ok h.1 ≡ Err fault = sym value ∙ (ap reader_answer (append_assoc text (b ∷ []) h.0) ∙ stops text b r fault f e h.0) in
    cc

take_one : (text rest : List ℕ) (b : ℕ) → take (length text + 1) (text ++ b ∷ rest) ≡ text ++ b ∷ []
take_one text rest b =
    ap (take (length text + 1)) (sym (append_assoc text (b ∷ []) rest))
    ∙ (ap (λ n. take n ((text ++ b ∷ []) ++ rest)) (sym (length-append text (b ∷ []))) ∙ take-append_seam (text ++ b ∷ []) rest)

no_beginning : (text : List ℕ) (b : ℕ) (r : Reader) (rest : List ℕ) (p : ℕ) → Follows text r → take_byte (length text) b r ≡ Err (Syntax p) → Begins (take (length text + 1) (text ++ b ∷ rest)) → ⊥
no_beginning text b r rest p f e h =
    json-no_syntax (take (length text + 1) (text ++ b ∷ rest) ++ h.0) p h.1
    (ap (λ w. reader_answer (w ++ h.0)) (take_one text rest b) ∙ (ap reader_answer (append_assoc text (b ∷ []) h.0) ∙ stops text b r (Syntax p) f e h.0))

syntax_found : (text : List ℕ) (b : ℕ) (r : Reader) (rest : List ℕ) → Follows text r → take_byte (length text) b r ≡ Err (Syntax (length text)) → BeginsFaultless text → HasSyntaxFault (text ++ b ∷ rest) (length text)
syntax_found text b r rest f e h = record {
  faultless = subst BeginsFaultless (sym (take-append_seam text (b ∷ rest))) h;
  fault = inr (omega (arith, length-append text (b ∷ rest)), no_beginning text b r rest (length text) f e);
}

fault_found : (text : List ℕ) (b : ℕ) (r : Reader) (rest : List ℕ) (fault : JsonFault) → Follows text r → take_byte (length text) b r ≡ Err fault → Shows text b fault → Finds (text ++ b ∷ rest) fault
fault_found text b r rest (Syntax p) f e h = subst (HasSyntaxFault (text ++ b ∷ rest)) (sym h.0) (syntax_found text b r rest f (e ∙ ap (λ n. Err (Syntax n)) h.0) h.1)
fault_found text b r rest (DoubleKey p) f e h = h rest (not_faultless text b r (DoubleKey p) f e)
fault_found text b r rest (Fraction p) f e h = h rest
fault_found text b r rest (Range p) f e h = h rest
fault_found text b r rest (TooDeep p) f e h = h rest (not_faultless text b r (TooDeep p) f e)
fault_found text b r rest TooLong f e h = absurd h
fault_found text b r rest Memory f e h = absurd h

-- ---- the whole text
advance : (text : List ℕ) (b : ℕ) (r : Reader) (rest : List ℕ) (o : Reading) → Follows text r → take_byte (length text) b r ≡ o → Judges text b o
    → ((s : Reader) → Reached (text ++ b ∷ []) s → Follows (text ++ b ∷ []) s → Says ((text ++ b ∷ []) ++ rest) (answer_from (length (text ++ b ∷ [])) rest (Ok s)))
    → Says (text ++ b ∷ rest) (answer_from (length text + 1) rest o)
advance text b r rest (Err fault) f e h next = subst (Says (text ++ b ∷ rest)) (sym (answer_from-err (length text + 1) rest fault)) (fault_found text b r rest fault f e h)
advance text b r rest (Ok s) f e h next =
    subst (λ n. Says (text ++ b ∷ rest) (answer_from n rest (Ok s))) (length-append text (b ∷ []))
    (subst (λ w. Says w (answer_from (length (text ++ b ∷ [])) rest (Ok s))) (append_assoc text (b ∷ []) rest)
    (next s h (λ more. ap reader_answer (append_assoc text (b ∷ []) more) ∙ (f (b ∷ more) ∙ (ap (answer_from (length text + 1) more) e ∙ ap (λ n. answer_from n more (Ok s)) (sym (length-append text (b ∷ []))))))))

judge : (rest text : List ℕ) (r : Reader) → Reached text r → Follows text r → Says (text ++ rest) (answer_from (length text) rest (Ok r))
judge [] text r h f = subst (λ w. Says w (finish (length text) (Ok r))) (sym (append-nil text)) (reached_end text r h (ap reader_answer (sym (append-nil text)) ∙ f []))
judge (b ∷ rest) text r h f = advance text b r rest (take_byte (length text) b r) f refl (reached_step text b r h) (λ s g k. judge rest (text ++ b ∷ []) s g k)

-- the answer to a text is its value or a fault that it has
pub answer_says : (text : List ℕ) → Says text (reader_answer text)
answer_says text = judge text [] start (r_value tt) (λ rest. refl)

-- ---- for the contract of `read`
pub means_from : (text : List ℕ) (json : OrderedJson) → length text ≤ MAX_TEXT → reader_answer text ≡ Ok json → Means text json
means_from text json l e = (l, subst (Says text) e (answer_says text))

found : (text : List ℕ) (fault : JsonFault) → length text ≤ MAX_TEXT → Finds text fault → HasFault text fault
found text (Syntax p) l h = (l, h)
found text (DoubleKey p) l h = (l, h)
found text (Fraction p) l h = (l, h)
found text (Range p) l h = (l, h)
found text (TooDeep p) l h = (l, h)
found text TooLong l h = absurd h
found text Memory l h = absurd h

pub fault_from : (text : List ℕ) (fault : JsonFault) → length text ≤ MAX_TEXT → reader_answer text ≡ Err fault → HasFault text fault
fault_from text fault l e = found text fault l (subst (Says text) e (answer_says text))

pub all_mean : (text : List ℕ) (x : Answer) → length text ≤ MAX_TEXT → IfOk x (λ json. reader_answer text ≡ Ok json) → IfOk x (λ json. Means text json)
all_mean text (Ok json) l h = means_from text json l h
all_mean text (Err fault) l h = tt

fault_of : (text : List ℕ) (fault : JsonFault) → length text ≤ MAX_TEXT → (fault ≢ Memory → reader_answer text ≡ Err fault) → HasFault text fault
fault_of text (Syntax p) l h = fault_from text (Syntax p) l (h (λ e. cc))
fault_of text (DoubleKey p) l h = fault_from text (DoubleKey p) l (h (λ e. cc))
fault_of text (Fraction p) l h = fault_from text (Fraction p) l (h (λ e. cc))
fault_of text (Range p) l h = fault_from text (Range p) l (h (λ e. cc))
fault_of text (TooDeep p) l h = fault_from text (TooDeep p) l (h (λ e. cc))
fault_of text TooLong l h = fault_from text TooLong l (h (λ e. cc))
fault_of text Memory l h = tt

pub all_faults : (text : List ℕ) (x : Answer) → length text ≤ MAX_TEXT → IfErr x (λ fault. fault ≢ Memory → reader_answer text ≡ Err fault) → IfErr x (λ fault. HasFault text fault)
all_faults text (Ok json) l h = tt
all_faults text (Err fault) l h = fault_of text fault l h

-- a text that is answered by a fault has no meaning
pub all_refused : (text : List ℕ) (x : Answer) → IfErr x (λ fault. fault ≢ Memory → reader_answer text ≡ Err fault) → IfErr x (λ fault. fault ≢ Memory → IsMeaningless text)
all_refused text (Ok json) h = tt
all_refused text (Err fault) h = λ other json means.
    let same : ◌≡◌ {A = Answer} (Ok json) (Err fault) = sym (reader_answer-value text json means.1) ∙ h other in
    cc
