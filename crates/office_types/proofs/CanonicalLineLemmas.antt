-- The canonical line of a request is a line of it, and the text of an entry reads as the entry.
use Rattle.std.proofs.Common.{◌≡◌, ℕ, ◌^◌, ◌<◌, ◌≤◌, true, ◌&&◌, List, [], ◌∷◌, ◌++◌, length, refl, sym, ap, subst, ◌∙◌, arith, length-append}
use Rattle.std.specs.Prelude.{Option, None, Some, IfSome, codes, decimal, nat_le, nat_lt}
use Rattle.std.proofs.lemmas.Bool.Decides.{nat_tests}
use Rattle.std.proofs.lemmas.Fmt.{decimal_injective, length-decimal-le}
use Rattle.xs_model.specs.declared.value.Value.{Value}
use Rattle.xs_model.specs.Compact.{compact_text, nesting}
use Rattle.office_types.specs.declared.entry.Entry.{Entry}
use Rattle.office_types.specs.declared.entry.Entry.TheVariants.{Decided, Step}
use Rattle.xs_model.specs.declared.limits.TheConstants.{MAX_EVENT_TEXT, MAX_NAME, MAX_NESTING}
use Rattle.office_types.specs.declared.limits.TheConstants.{MAX_CALLER, MAX_MOMENT}
use Rattle.office_types.specs.declared.request.Ask.{Ask}
use Rattle.office_types.specs.declared.request.Ask.TheVariants as ask
use Rattle.office_types.specs.Callers.{is_caller, is_caller_byte, is_lowercase}
use Rattle.std.specs.List.{list_all}
use Rattle.office_types.specs.Laws.{CanonicalLinesAreLines, EntriesReadBack, IsEntry}
use Rattle.office_types.specs.Limits.{is_name, is_short}
use Rattle.office_types.specs.RequestLines.{IsEntryText, IsRequestLine, RequestIsUnique, SpellsValue, ask_parts, ask_value, ask_word, canonical_json, canonical_line, entry_text, spaced, system_text}
use Rattle.office_types.specs.Requests.{HasAskForm, IsSystemName}
use Rattle.office_types.proofs.CanonicalLemmas.{compact_text_means}
use Rattle.office_types.proofs.LineLemmas.{and_both}
use Rattle.office_types.proofs.PlainLemmas.{meant_is_plain}

le_from : (a b : ℕ) → nat_le a b ≡ true → a ≤ b
le_from a b h = grind (arith, nat_tests)

decimal_length : (n : ℕ) → n < 2 ^ 64 → length (decimal n) ≤ 20
decimal_length n small = length-decimal-le 20 n (omega arith) (omega arith) small

-- what the limits of a short value are
short_parts : (x : Value) → is_short x ≡ true → (length (compact_text x) ≤ 4096) × (nesting x ≤ 32)
short_parts x h =
    let both = and_both (nat_le (length (compact_text x)) MAX_EVENT_TEXT) (nat_le (nesting x) MAX_NESTING) h in
    (le_from (length (compact_text x)) MAX_EVENT_TEXT both.0, le_from (nesting x) MAX_NESTING both.1)

name_length : (name : List ℕ) → is_name name ≡ true → length name ≤ 256
name_length name h = le_from (length name) MAX_NAME (and_both (nat_lt 0 (length name)) (nat_le (length name) MAX_NAME) h).1

caller_length : (caller : List ℕ) → is_caller caller ≡ true → length caller ≤ 64
caller_length [] h = omega arith
caller_length (b ∷ bs) h =
    let first = and_both (is_lowercase b) (list_all is_caller_byte bs && nat_le (length (b ∷ bs)) MAX_CALLER) h in
    le_from (length (b ∷ bs)) MAX_CALLER (and_both (list_all is_caller_byte bs) (nat_le (length (b ∷ bs)) MAX_CALLER) first.1).1

system_length : (system : Option (List ℕ)) → IfSome system IsSystemName → length (system_text system) ≤ 256
system_length None named = omega arith
system_length (Some name) named = name_length name named.visible.fits

-- each value of a request is short
value_short : (asked : Ask) → HasAskForm asked → IfSome (ask_value asked) (λ x. is_short x ≡ true)
value_short (ask.Start machine system input) form = form.2
value_short (ask.Send actor event) form = form.1
value_short (ask.Resolve item output) form = form.1
value_short (ask.Reject item error) form = form.1
value_short (ask.At moment) form = tt

canonical_length : (o : Option Value) → IfSome o (λ x. is_short x ≡ true) → length (canonical_json o) ≤ 4096
canonical_length None short = omega arith
canonical_length (Some x) short = (short_parts x short).0

-- a value that some text means is what its compact text means
canonical_meaning : (json : List ℕ) (o : Option Value) → IfSome o (λ x. is_short x ≡ true) → SpellsValue json o → SpellsValue (canonical_json o) o
canonical_meaning json None short spells = refl
canonical_meaning json (Some x) short spells =
    let limits = short_parts x short in
    let depth : nesting x ≤ 32 = limits.1 in
    let bytes : length (compact_text x) ≤ 4096 = limits.0 in
    compact_text_means x (meant_is_plain json x spells) (omega arith) (omega arith)

-- what is asked for takes few bytes
ask_length : (asked : Ask) → HasAskForm asked → (json : List ℕ) → length json ≤ 4096 → length (spaced (ask_word asked ∷ ask_parts asked json)) ≤ 4700
ask_length (ask.Start machine system input) form json small =
    let a = name_length machine form.0.fits in
    let b = system_length system form.1 in
    omega (arith, length-append machine (32 ∷ (system_text system ++ (32 ∷ json))), length-append (system_text system) (32 ∷ json))
ask_length (ask.Send actor event) form json small = let a = decimal_length actor form.0 in omega (arith, length-append (decimal actor) (32 ∷ json))
ask_length (ask.Resolve item output) form json small = let a = decimal_length item form.0 in omega (arith, length-append (decimal item) (32 ∷ json))
ask_length (ask.Reject item error) form json small = let a = decimal_length item form.0 in omega (arith, length-append (decimal item) (32 ∷ json))
ask_length (ask.At moment) form json small =
    let least : moment ≤ MAX_MOMENT = form in
    let a = decimal_length moment (omega arith) in omega arith

pub canonical_is_line : CanonicalLinesAreLines
canonical_is_line request given =
    let is = given.1 in
    let short = value_short request.ask is.form.ask in
    let json = canonical_json (ask_value request.ask) in
    let text = spaced (ask_word request.ask ∷ ask_parts request.ask json) in
    let a = caller_length request.caller is.form.caller in
    let b = decimal_length request.number is.form.number in
    let c = ask_length request.ask is.form.ask json (canonical_length (ask_value request.ask) short) in
    record {
      short = omega (arith, length-append request.caller (32 ∷ (decimal request.number ++ (32 ∷ text))), length-append (decimal request.number) (32 ∷ text));
      form = is.form;
      json = json;
      meaning = canonical_meaning is.json (ask_value request.ask) short is.meaning;
      spelled = refl;
    }

-- ---- entries

reads_written : (entry : Entry) → IsEntry entry → IsEntryText (entry_text entry) entry
reads_written (Decided request) is = (refl, canonical_is_line request is)
reads_written (Step actor) is = (refl, is)

tails : (x y : ℕ) (a b : List ℕ) → x ∷ y ∷ a ≡ x ∷ y ∷ b → a ≡ b
tails x y a b e = cc

heads : (x y : ℕ) (a b : List ℕ) → x ∷ a ≡ y ∷ b → x ≡ y
heads x y a b e = cc

letters_apart : (a b : List ℕ) → codes "R " ++ a ≡ codes "S " ++ b → ⊥
letters_apart a b e = let same : ◌≡◌ {A = ℕ} 82 83 = heads 82 83 (32 ∷ a) (32 ∷ b) e in omega arith

-- two entries of one text are the same
same_entry : RequestIsUnique → (payload : List ℕ) (a b : Entry) → IsEntryText payload a → IsEntryText payload b → a ≡ b
same_entry unique payload (Decided r) (Decided s) one other =
    let lines : canonical_line r ≡ canonical_line s = tails 82 32 (canonical_line r) (canonical_line s) (sym one.0 ∙ other.0) in
    ap Decided (unique (canonical_line r) r s one.1 (subst (λ (l : List ℕ). IsRequestLine l s) (sym lines) other.1))
same_entry unique payload (Step m) (Step n) one other = ap Step (decimal_injective m n one.1 other.1 (tails 83 32 (decimal m) (decimal n) (sym one.0 ∙ other.0)))
same_entry unique payload (Decided r) (Step n) one other = absurd (letters_apart (canonical_line r) (decimal n) (sym one.0 ∙ other.0))
same_entry unique payload (Step m) (Decided s) one other = absurd (letters_apart (canonical_line s) (decimal m) (sym other.0 ∙ one.0))

pub entries_read_back : RequestIsUnique → EntriesReadBack
entries_read_back unique = record { written = reads_written; once = same_entry unique }
