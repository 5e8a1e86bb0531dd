-- The reader goes over what the grammar prints: it reads the value, or it refuses something.
use Rattle.std.proofs.Common.{◌≡◌, [], ◌∷◌, ◌++◌, ℕ, ◌+◌, Bool, true, false, ◌||◌, ◌⊎◌, List, length, map, Option, Ok, Err, refl, sym, ◌∙◌, arith, subst, append_assoc, length-append}
use Rattle.std.specs.Bool.{⊤}
use Rattle.std.specs.Prelude.{nat_lt}
use Rattle.std.proofs.lemmas.Bool.Decides.{nat_tests}
use Rattle.ordered_json.specs.declared.TheConstants.{MAX_LEVELS}
use Rattle.ordered_json.specs.declared.fault.JsonFault.{JsonFault}
use Rattle.ordered_json.specs.declared.fault.JsonFault.TheVariants.{Syntax, DoubleKey, Fraction, Range, TooDeep, TooLong, Memory}
use Rattle.ordered_json.specs.declared.json.Member.{Member}
use Rattle.ordered_json.specs.declared.json.OrderedJson.{OrderedJson, Text, List as a_list, Object}
use Rattle.ordered_json.specs.declared.level.Level.{Level}
use Rattle.ordered_json.specs.declared.level.Level.TheVariants as level
use Rattle.ordered_json.specs.declared.mode.Mode.{Mode}
use Rattle.ordered_json.specs.declared.mode.Mode.TheVariants as mode
use Rattle.ordered_json.specs.declared.mode.Spelling.TheVariants as at
use Rattle.ordered_json.specs.Words.{key_of}
use Rattle.ordered_json.specs.Grammar.{Char, AreChars, is_blank, is_decimal, IsSpace, print_chars, print_string, Elements, no_elements, element, Members, no_members, member, print, print_elements, print_members, print_separator, print_colon, Gap, IsGap, AreElements, AreMembers}
use Rattle.ordered_json.specs.Meaning.{string_content, has_key}
use Rattle.ordered_json.specs.Faults.{is_mark, EndsNumber}
use Rattle.ordered_json.specs.Steps.{Reading, close_list, close_object, between, begin_value, take_byte, in_text, end_text, end_key, take_comma, text_mode}
use Rattle.ordered_json.proofs.RunLemmas.{Answers, by_step, by_place, by_bytes, by_fault}
use Rattle.ordered_json.proofs.StateLemmas.{state, Ready, finished, complete_ready, awaiting}
use Rattle.ordered_json.proofs.LiteralLemmas.{Answer, Waits, awaiting_waits, spaces}
use Rattle.ordered_json.proofs.StringLemmas.{text_state, chars_read}

-- a fault that a text has by what it says, and not by its syntax
abbrev pub IsRefusal : JsonFault → Type 0
IsRefusal (Syntax p) = ⊥
IsRefusal (DoubleKey p) = ⊤
IsRefusal (Fraction p) = ⊤
IsRefusal (Range p) = ⊤
IsRefusal (TooDeep p) = ⊤
IsRefusal TooLong = ⊥
IsRefusal Memory = ⊥

-- the answer, or a refusal, which comes only where something is not taken
abbrev pub Reads : Type 0 → ℕ → List ℕ → Reading → Answer → Type 0
Reads taken p bytes o x = Answers p bytes o x ⊎ ((taken → ⊥) × (fault : JsonFault) × IsRefusal fault × Answers p bytes o (Err fault))

-- ---- strings
text_opens : (f : Bool) (p : ℕ) (ls : List Level) (o : Option OrderedJson) → take_byte p 34 (state (awaiting f) ls o) ≡ Ok (text_state p false at.Between ls o [])
unfolding take_byte between begin_value
text_opens true p ls o = refl
text_opens false p ls o = refl

text_closes : (place p : ℕ) (ls : List Level) (o : Option OrderedJson) (c : List ℕ) → Ready ls → take_byte place 34 (text_state p false at.Between ls o c) ≡ Ok (finished (Text p c) ls o)
unfolding take_byte in_text end_text
text_closes place p ls o c h = complete_ready place (Text p c) (text_mode p false) ls o h

string_length : (cs : List Char) → length (print_string cs) ≡ length (print_chars cs) + 2
string_length cs = omega (arith, length-append (print_chars cs) (34 ∷ []))

quoted : (cs : List Char) (rest : List ℕ) → (print_chars cs ++ 34 ∷ []) ++ rest ≡ print_chars cs ++ 34 ∷ rest
quoted cs rest = append_assoc (print_chars cs) (34 ∷ []) rest

pub string_read : (f : Bool) (cs : List Char) {p : ℕ} {rest : List ℕ} {ls : List Level} {o : Option OrderedJson} {x : Answer} → AreChars cs → Ready ls → Answers (p + length (print_string cs)) rest (Ok (finished (Text p (string_content cs)) ls o)) x → Answers p (print_string cs ++ rest) (Ok (state (awaiting f) ls o)) x
string_read f cs {p} {rest} {ls} {o} h r a =
    by_step (text_opens f p ls o)
    (by_bytes (quoted cs rest)
    (chars_read cs h
    (by_step (text_closes (p + 1 + length (print_chars cs)) p ls o (string_content cs) r)
    (by_place {q = p + length (print_string cs)} (omega (arith, string_length cs)) a))))

-- a key is awaited, and maybe the bracket of an object with none
abbrev pub key_mode : Bool → Mode
key_mode true = mode.FirstKey
key_mode false = mode.Key

key_waits : (f : Bool) → Waits (key_mode f)
unfolding take_byte
key_waits true = λ place b ls o. refl
key_waits false = λ place b ls o. refl

key_opens : (f : Bool) (p : ℕ) (ls : List Level) (o : Option OrderedJson) → take_byte p 34 (state (key_mode f) ls o) ≡ Ok (text_state p true at.Between ls o [])
unfolding take_byte between
key_opens true p ls o = refl
key_opens false p ls o = refl

key_closes : (place p q : ℕ) (ms : List Member) (ls : List Level) (o : Option OrderedJson) (c : List ℕ) → has_key c (map key_of ms) ≡ false → take_byte place 34 (text_state p true at.Between (level.Object q ms ∷ ls) o c) ≡ Ok (state mode.Colon (level.Member q ms c p ∷ ls) o)
unfolding take_byte in_text end_text end_key
key_closes place p q ms ls o c h = rw h refl

key_doubles : (place p q : ℕ) (ms : List Member) (ls : List Level) (o : Option OrderedJson) (c : List ℕ) → has_key c (map key_of ms) ≡ true → take_byte place 34 (text_state p true at.Between (level.Object q ms ∷ ls) o c) ≡ Err (DoubleKey p)
unfolding take_byte in_text end_text end_key
key_doubles place p q ms ls o c h = rw h refl

pub key_read : (f : Bool) (cs : List Char) {p : ℕ} {rest : List ℕ} {q : ℕ} {ms : List Member} {ls : List Level} {o : Option OrderedJson} {x : Answer} → AreChars cs → has_key (string_content cs) (map key_of ms) ≡ false → Answers (p + length (print_string cs)) rest (Ok (state mode.Colon (level.Member q ms (string_content cs) p ∷ ls) o)) x → Answers p (print_string cs ++ rest) (Ok (state (key_mode f) (level.Object q ms ∷ ls) o)) x
key_read f cs {p} {rest} {q} {ms} {ls} {o} h n a =
    by_step (key_opens f p (level.Object q ms ∷ ls) o)
    (by_bytes (quoted cs rest)
    (chars_read cs h
    (by_step (key_closes (p + 1 + length (print_chars cs)) p q ms ls o (string_content cs) n)
    (by_place {q = p + length (print_string cs)} (omega (arith, string_length cs)) a))))

pub key_refused : (f : Bool) (cs : List Char) (rest : List ℕ) {p : ℕ} {q : ℕ} {ms : List Member} {ls : List Level} {o : Option OrderedJson} → AreChars cs → has_key (string_content cs) (map key_of ms) ≡ true → Answers p (print_string cs ++ rest) (Ok (state (key_mode f) (level.Object q ms ∷ ls) o)) (Err (DoubleKey p))
key_refused f cs rest {p} {q} {ms} {ls} {o} h n =
    by_step (key_opens f p (level.Object q ms ∷ ls) o)
    (by_bytes (quoted cs rest)
    (chars_read cs h
    (by_step (key_doubles (p + 1 + length (print_chars cs)) p q ms ls o (string_content cs) n) (by_fault refl))))

-- ---- what follows a value
-- in an array or an object that is not empty a comma, and else none
abbrev pub comma_of : Bool → List ℕ
comma_of true = []
comma_of false = 44 ∷ []

pub ends_blank : (b : ℕ) → is_blank b ≡ true → is_decimal b || is_mark b ≡ false
ends_blank b h = grind (arith, nat_tests)

pub ends_space : (s : List ℕ) (b : ℕ) (rest : List ℕ) → IsSpace s → is_decimal b || is_mark b ≡ false → EndsNumber (s ++ b ∷ rest)
ends_space [] b rest h e = e
ends_space (c ∷ s) b rest h e = ends_blank c h.0

pub ends_elements : (es : Elements) (rest : List ℕ) → AreElements es → EndsNumber (print_elements (44 ∷ []) es ++ rest)
ends_elements (no_elements s) rest h = subst EndsNumber (sym (append_assoc s (93 ∷ []) rest)) (ends_space s 93 rest h refl)
ends_elements (element g t es) rest h =
    subst EndsNumber (sym (append_assoc (print_separator g (44 ∷ [])) (print t ++ print_elements (44 ∷ []) es) rest ∙ append_assoc g.before (44 ∷ g.after) ((print t ++ print_elements (44 ∷ []) es) ++ rest)))
    (ends_space g.before 44 (g.after ++ ((print t ++ print_elements (44 ∷ []) es) ++ rest)) h.0.0 refl)

pub ends_members : (ms : Members) (rest : List ℕ) → AreMembers ms → EndsNumber (print_members (44 ∷ []) ms ++ rest)
ends_members (no_members s) rest h = subst EndsNumber (sym (append_assoc s (125 ∷ []) rest)) (ends_space s 125 rest h refl)
ends_members (member g k t ms) rest h =
    let after = print_string k.chars ++ (print_colon k.gap ++ (print t ++ print_members (44 ∷ []) ms)) in
    subst EndsNumber (sym (append_assoc (print_separator g (44 ∷ [])) after rest ∙ append_assoc g.before (44 ∷ g.after) (after ++ rest)))
    (ends_space g.before 44 (g.after ++ (after ++ rest)) h.0.0 refl)

-- ---- between the elements of an array and the members of an object
-- the mode before an element: none was read, or one was
abbrev pub list_mode : Bool → Mode
list_mode true = mode.FirstItem
list_mode false = mode.After

pub list_waits : (f : Bool) → Waits (list_mode f)
unfolding take_byte
list_waits true = λ place b ls o. refl
list_waits false = λ place b ls o. refl

abbrev pub object_mode : Bool → Mode
object_mode true = mode.FirstKey
object_mode false = mode.After

pub object_waits : (f : Bool) → Waits (object_mode f)
unfolding take_byte
object_waits true = λ place b ls o. refl
object_waits false = λ place b ls o. refl

pub list_closes : (f : Bool) (place q : ℕ) (items : List OrderedJson) (ls : List Level) (o : Option OrderedJson) → Ready ls → take_byte place 93 (state (list_mode f) (level.List q items ∷ ls) o) ≡ Ok (finished (a_list q items) ls o)
unfolding take_byte between close_list
list_closes true place q items ls o h = complete_ready place (a_list q items) mode.FirstItem ls o h
list_closes false place q items ls o h = complete_ready place (a_list q items) mode.After ls o h

pub object_closes : (f : Bool) (place q : ℕ) (ms : List Member) (ls : List Level) (o : Option OrderedJson) → Ready ls → take_byte place 125 (state (object_mode f) (level.Object q ms ∷ ls) o) ≡ Ok (finished (Object q ms) ls o)
unfolding take_byte between close_object
object_closes true place q ms ls o h = complete_ready place (Object q ms) mode.FirstKey ls o h
object_closes false place q ms ls o h = complete_ready place (Object q ms) mode.After ls o h

list_comma : (place q : ℕ) (items : List OrderedJson) (ls : List Level) (o : Option OrderedJson) → take_byte place 44 (state mode.After (level.List q items ∷ ls) o) ≡ Ok (state mode.Value (level.List q items ∷ ls) o)
unfolding take_byte between take_comma
list_comma place q items ls o = refl

object_comma : (place q : ℕ) (ms : List Member) (ls : List Level) (o : Option OrderedJson) → take_byte place 44 (state mode.After (level.Object q ms ∷ ls) o) ≡ Ok (state mode.Key (level.Object q ms ∷ ls) o)
unfolding take_byte between take_comma
object_comma place q ms ls o = refl

length-print_separator : (g : Gap) (mark : List ℕ) → length (print_separator g mark) ≡ length g.before + length mark + length g.after
length-print_separator g mark = omega (arith, length-append g.before (mark ++ g.after), length-append mark g.after)

pub list_lead : (f : Bool) (g : Gap) {p : ℕ} {rest : List ℕ} {q : ℕ} {items : List OrderedJson} {ls : List Level} {o : Option OrderedJson} {x : Answer} → IsGap g → Answers (p + length (print_separator g (comma_of f))) rest (Ok (state (awaiting f) (level.List q items ∷ ls) o)) x → Answers p (print_separator g (comma_of f) ++ rest) (Ok (state (list_mode f) (level.List q items ∷ ls) o)) x
list_lead true g {p} {rest} h a =
    by_bytes (append_assoc g.before g.after rest)
    (spaces (list_waits true) g.before h.0 (spaces (list_waits true) g.after h.1 (by_place {q = p + length (print_separator g [])} (omega (arith, length-print_separator g [])) a)))
list_lead false g {p} {rest} {q} {items} {ls} {o} h a =
    by_bytes (append_assoc g.before (44 ∷ g.after) rest)
    (spaces (list_waits false) g.before h.0 (by_step (list_comma (p + length g.before) q items ls o)
    (spaces (awaiting_waits false) g.after h.1 (by_place {q = p + length (print_separator g (44 ∷ []))} (omega (arith, length-print_separator g (44 ∷ []))) a))))

pub object_lead : (f : Bool) (g : Gap) {p : ℕ} {rest : List ℕ} {q : ℕ} {ms : List Member} {ls : List Level} {o : Option OrderedJson} {x : Answer} → IsGap g → Answers (p + length (print_separator g (comma_of f))) rest (Ok (state (key_mode f) (level.Object q ms ∷ ls) o)) x → Answers p (print_separator g (comma_of f) ++ rest) (Ok (state (object_mode f) (level.Object q ms ∷ ls) o)) x
object_lead true g {p} {rest} h a =
    by_bytes (append_assoc g.before g.after rest)
    (spaces (object_waits true) g.before h.0 (spaces (object_waits true) g.after h.1 (by_place {q = p + length (print_separator g [])} (omega (arith, length-print_separator g [])) a)))
object_lead false g {p} {rest} {q} {ms} {ls} {o} h a =
    by_bytes (append_assoc g.before (44 ∷ g.after) rest)
    (spaces (object_waits false) g.before h.0 (by_step (object_comma (p + length g.before) q ms ls o)
    (spaces (key_waits false) g.after h.1 (by_place {q = p + length (print_separator g (44 ∷ []))} (omega (arith, length-print_separator g (44 ∷ []))) a))))

colon_waits : Waits mode.Colon
unfolding take_byte
colon_waits = λ place b ls o. refl

colon_step : (place : ℕ) (ls : List Level) (o : Option OrderedJson) → take_byte place 58 (state mode.Colon ls o) ≡ Ok (state mode.Value ls o)
unfolding take_byte between
colon_step place ls o = refl

pub colon_read : (g : Gap) {p : ℕ} {rest : List ℕ} {ls : List Level} {o : Option OrderedJson} {x : Answer} → IsGap g → Answers (p + length (print_colon g)) rest (Ok (state mode.Value ls o)) x → Answers p (print_colon g ++ rest) (Ok (state mode.Colon ls o)) x
colon_read g {p} {rest} {ls} {o} h a =
    by_bytes (append_assoc g.before (58 ∷ g.after) rest)
    (spaces colon_waits g.before h.0 (by_step (colon_step (p + length g.before) ls o)
    (spaces (awaiting_waits false) g.after h.1 (by_place {q = p + length (print_colon g)} (omega (arith, length-append g.before (58 ∷ g.after))) a))))

-- ---- brackets that open
pub list_opens : (f : Bool) (p : ℕ) (ls : List Level) (o : Option OrderedJson) → nat_lt (length ls) MAX_LEVELS ≡ true → take_byte p 91 (state (awaiting f) ls o) ≡ Ok (state mode.FirstItem (level.List p [] ∷ ls) o)
unfolding take_byte between begin_value
list_opens true p ls o h = rw h refl
list_opens false p ls o h = rw h refl

pub object_opens : (f : Bool) (p : ℕ) (ls : List Level) (o : Option OrderedJson) → nat_lt (length ls) MAX_LEVELS ≡ true → take_byte p 123 (state (awaiting f) ls o) ≡ Ok (state mode.FirstKey (level.Object p [] ∷ ls) o)
unfolding take_byte between begin_value
object_opens true p ls o h = rw h refl
object_opens false p ls o h = rw h refl

pub list_too_deep : (f : Bool) (p : ℕ) (ls : List Level) (o : Option OrderedJson) → nat_lt (length ls) MAX_LEVELS ≡ false → take_byte p 91 (state (awaiting f) ls o) ≡ Err (TooDeep p)
unfolding take_byte between begin_value
list_too_deep true p ls o h = rw h refl
list_too_deep false p ls o h = rw h refl

pub object_too_deep : (f : Bool) (p : ℕ) (ls : List Level) (o : Option OrderedJson) → nat_lt (length ls) MAX_LEVELS ≡ false → take_byte p 123 (state (awaiting f) ls o) ≡ Err (TooDeep p)
unfolding take_byte between begin_value
object_too_deep true p ls o h = rw h refl
object_too_deep false p ls o h = rw h refl
