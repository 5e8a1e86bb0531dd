-- Lemmas on a line as the line of a request.
use Rattle.std.proofs.Common.{◌≡◌, ◌≢◌, ℕ, ◌^◌, ◌<◌, ◌≤◌, true, false, List, [], ◌∷◌, ◌++◌, length, refl, sym, ap, subst, ◌∙◌, arith, append_assoc}
use Rattle.std.specs.Prelude.{Result, Ok, Err, Option, None, Some, IfSome, decimal, codes, is_some, IsErrAnd}
use Rattle.std.proofs.lemmas.Fmt.{decimal_injective}
use Rattle.ordered_json.specs.declared.fault.JsonFault.{JsonFault}
use Rattle.ordered_json.specs.declared.fault.JsonFault.TheVariants as faults
use Rattle.ordered_json.specs.Laws.{MeaningIsUnique}
use Rattle.ordered_json.specs.Meaning.{IsMeaningless}
use Rattle.xs_model.specs.declared.value.Value.{Value}
use Rattle.xs_model.specs.Compact.{compact_text}
use Rattle.std.specs.Borrow.{Bor}
use Rattle.std.specs.Option.{option_copied}
use Rattle.office_types.specs.declared.limits.TheConstants.{MAX_LINE, MAX_MOMENT}
use Rattle.office_types.specs.declared.request.Ask.{Ask}
use Rattle.office_types.specs.declared.request.Ask.TheVariants as ask
use Rattle.office_types.specs.declared.request.Request.{Request}
use Rattle.office_types.specs.declared.line_fault.LineFault.{LineFault}
use Rattle.office_types.specs.declared.line_fault.LineFault.TheVariants.{NotALine, Memory}
use Rattle.office_types.specs.Events.{event_type}
use Rattle.office_types.specs.JsonValues.{MeansValue, json_value}
use Rattle.office_types.specs.Limits.{is_short}
use Rattle.office_types.specs.LineParts.{IsAskBehind, IsAskText, IsCallerText, IsCut, IsNameText, IsNumberedText, IsShortText, IsSystemText, SpellsNumber, is_spaceless, line_fault}
use Rattle.office_types.specs.RequestLines.{IsRequestLine, Reads, RequestIsUnique, ask_parts, ask_value, ask_word, canonical_json, canonical_line, line_with, spaced, system_text}
use Rattle.office_types.specs.Requests.{IsNumber, IsSystemName, IsVisibleName}
use Rattle.office_types.proofs.LineLemmas.{IsCut-unique, spaceless_caller, spaceless_decimal, spaceless_visible}

-- ---- reading

-- where a part can't be read the whole can't
refused : {X Y : Type 0} (P : X → Type 0) (Q : Y → Type 0) (fault : LineFault) → Reads P (Err fault) → ((y : Y) → Q y → (x : X) × P x) → Reads Q (Err fault)
refused P Q NotALine none part = λ y is. let p = part y is in none p.0 p.1
refused P Q Memory none part = tt

-- what a fault says holds where a `?` hands the fault on
pub handed_on : {Y : Type 0} (Q : Y → Type 0) (read : Result Y LineFault) (fault : LineFault) → IsErrAnd read (λ e. e ≡ fault) → Reads Q (Err fault) → Reads Q read
handed_on Q (Ok y) fault is none = absurd is
handed_on Q (Err e) fault is none = subst (λ (f : LineFault). Reads Q (Err f)) (sym is) none

-- where a `?` hands a part's fault on, the whole can't be read
pub refused_at : {X Y : Type 0} (P : X → Type 0) (Q : Y → Type 0) (read : Result Y LineFault) (fault : LineFault) → IsErrAnd read (λ e. e ≡ fault) → Reads P (Err fault) → ((y : Y) → Q y → (x : X) × P x) → Reads Q read
refused_at P Q read fault is none part = handed_on Q read fault is (refused P Q fault none part)

-- what reads one reads the other, where the two are the same
pub reads_as : {X : Type 0} (P Q : X → Type 0) (read : Result X LineFault) → Reads P read → ((x : X) → P x → Q x) → ((x : X) → Q x → P x) → Reads Q read
reads_as P Q (Ok x) is to from = to x is
reads_as P Q (Err NotALine) none to from = λ x is. none x (from x is)
reads_as P Q (Err Memory) is to from = tt

-- ---- values

-- a text means one value at most
pub values_agree : MeaningIsUnique → (bytes : List ℕ) (a b : Value) → MeansValue bytes a → MeansValue bytes b → a ≡ b
values_agree unique bytes a b one other = one.2 ∙ ap json_value (unique bytes one.0 other.0 one.1 other.1) ∙ sym other.2

-- a text that is refused means no short value
pub no_value : (bytes : List ℕ) (fault : JsonFault) → (fault ≢ faults.Memory → IsMeaningless bytes) → Reads (IsShortText bytes) (Err (line_fault fault))
no_value bytes (faults.Syntax place) refused = λ x is. refused (λ e. cc) is.0.0 is.0.1
no_value bytes (faults.DoubleKey place) refused = λ x is. refused (λ e. cc) is.0.0 is.0.1
no_value bytes (faults.Fraction place) refused = λ x is. refused (λ e. cc) is.0.0 is.0.1
no_value bytes (faults.Range place) refused = λ x is. refused (λ e. cc) is.0.0 is.0.1
no_value bytes (faults.TooDeep place) refused = λ x is. refused (λ e. cc) is.0.0 is.0.1
no_value bytes faults.TooLong refused = λ x is. refused (λ e. cc) is.0.0 is.0.1
no_value bytes faults.Memory refused = tt

-- where the value that a text means is too long, it means no short value
pub not_short : MeaningIsUnique → (bytes : List ℕ) (x : Value) → MeansValue bytes x → is_short x ≡ false → Reads (IsShortText bytes) (Err NotALine)
not_short unique bytes x means long other is =
    let same : other ≡ x = values_agree unique bytes other x is.0 means in
    let short : is_short x ≡ true = ap is_short (sym same) ∙ is.1 in
    cc

-- ---- numbers

-- the number that bytes spell is one
pub same_number : (bytes : List ℕ) (m n : ℕ) → SpellsNumber bytes m → SpellsNumber bytes n → m ≡ n
same_number bytes m n one other = decimal_injective m n one.0 other.0 (sym one.1 ∙ other.1)

-- a number and a value are cut behind the number
pub numbered_cut : (bytes : List ℕ) (pair : ℕ × Value) (is : IsNumberedText bytes pair) → IsCut bytes (decimal pair.0) is.json
numbered_cut bytes pair is = record { joined = is.spelled; spaceless = spaceless_decimal pair.0 is.number }

-- the parts of a number and a value
pub numbered_parts : (bytes number json : List ℕ) → IsCut bytes number json → (pair : ℕ × Value) → IsNumberedText bytes pair → SpellsNumber number pair.0 × IsShortText json pair.1
numbered_parts bytes number json cut pair is =
    let same = IsCut-unique bytes number json (decimal pair.0) is.json cut (numbered_cut bytes pair is) in
    ((is.number, same.0), subst (λ (text : List ℕ). IsShortText text pair.1) (sym same.1) is.value)

-- and from its parts
pub numbered_from : (bytes number json : List ℕ) (n : ℕ) (x : Value) → IsCut bytes number json → SpellsNumber number n → IsShortText json x → IsNumberedText bytes (n, x)
numbered_from bytes number json n x cut spells means = record {
  number = spells.0;
  json = json;
  value = means;
  spelled = cut.joined ∙ ap (λ (text : List ℕ). text ++ 32 ∷ json) spells.1;
}

numbered_agree : MeaningIsUnique → (bytes : List ℕ) (a b : ℕ × Value) → IsNumberedText bytes a → IsNumberedText bytes b → (a.0 ≡ b.0) × (a.1 ≡ b.1)
numbered_agree unique bytes a b one other =
    let parts = numbered_parts bytes (decimal a.0) one.json (numbered_cut bytes a one) b other in
    (same_number (decimal a.0) a.0 b.0 (one.number, refl) parts.0, values_agree unique one.json a.1 b.1 one.value.0 parts.1.0)

-- ---- words

-- an ask is cut behind its word
ask_cut : (asked : Ask) (json text : List ℕ) → text ≡ spaced (ask_word asked ∷ ask_parts asked json) → IsCut text (ask_word asked) (spaced (ask_parts asked json))
ask_cut (ask.Start machine system input) json text is = record { joined = is; spaceless = refl }
ask_cut (ask.Send actor event) json text is = record { joined = is; spaceless = refl }
ask_cut (ask.Resolve item output) json text is = record { joined = is; spaceless = refl }
ask_cut (ask.Reject item error) json text is = record { joined = is; spaceless = refl }
ask_cut (ask.At moment) json text is = record { joined = is; spaceless = refl }

-- the word and the parts of an ask make it up
ask_joined : (asked : Ask) (json : List ℕ) → ask_word asked ++ 32 ∷ spaced (ask_parts asked json) ≡ spaced (ask_word asked ∷ ask_parts asked json)
ask_joined (ask.Start machine system input) json = refl
ask_joined (ask.Send actor event) json = refl
ask_joined (ask.Resolve item output) json = refl
ask_joined (ask.Reject item error) json = refl
ask_joined (ask.At moment) json = refl

-- what stands behind the word of an ask
pub behind_word : (text word rest : List ℕ) → IsCut text word rest → (asked : Ask) → IsAskText text asked → IsAskBehind word rest asked
behind_word text word rest cut asked is =
    let same = IsCut-unique text word rest (ask_word asked) (spaced (ask_parts asked is.json)) cut (ask_cut asked is.json text is.spelled) in
    record { form = is.form; said = same.0; json = is.json; meaning = is.meaning; spelled = same.1 }

-- and an ask from its word and what stands behind
pub from_word : (text word rest : List ℕ) → IsCut text word rest → (asked : Ask) → IsAskBehind word rest asked → IsAskText text asked
from_word text word rest cut asked is = record {
  form = is.form;
  json = is.json;
  meaning = is.meaning;
  spelled = cut.joined ∙ ap (λ (w : List ℕ). w ++ 32 ∷ rest) is.said ∙ ap (λ (r : List ℕ). ask_word asked ++ 32 ∷ r) is.spelled ∙ ask_joined asked is.json;
}

-- what reads the asks of a word behind it reads the asks that begin with the word
pub reads_word : (text word rest known : List ℕ) → IsCut text word rest → word ≡ known → (read : Result Ask LineFault) → Reads (IsAskBehind known rest) read → Reads (IsAskText text) read
reads_word text word rest known cut same read reads =
    reads_as (IsAskBehind known rest) (IsAskText text) read reads
    (λ asked is. from_word text word rest cut asked (subst (λ (w : List ℕ). IsAskBehind w rest asked) (sym same) is))
    (λ asked is. subst (λ (w : List ℕ). IsAskBehind w rest asked) same (behind_word text word rest cut asked is))

-- what begins with none of the words asks for nothing
pub asks_nothing : (word rest : List ℕ) → word ≢ codes "start" → word ≢ codes "send" → word ≢ codes "resolve" → word ≢ codes "reject" → word ≢ codes "at"
    → (asked : Ask) → IsAskBehind word rest asked → ⊥
asks_nothing word rest start send resolve reject at (ask.Start machine system input) is = start is.said
asks_nothing word rest start send resolve reject at (ask.Send actor event) is = send is.said
asks_nothing word rest start send resolve reject at (ask.Resolve item output) is = resolve is.said
asks_nothing word rest start send resolve reject at (ask.Reject item error) is = reject is.said
asks_nothing word rest start send resolve reject at (ask.At moment) is = at is.said

-- ---- start

-- the parts behind the word `start`
pub record StartParts (bytes : List ℕ) (asked : Ask) : Type 0 where
  pub machine : List ℕ
  pub system : Option (List ℕ)
  pub input : Value
  pub is : asked ≡ ask.Start machine system input
  pub named : IsVisibleName machine
  pub system_named : IfSome system IsSystemName
  pub json : List ℕ
  pub means : IsShortText json input
  pub spelled : bytes ≡ machine ++ 32 ∷ (system_text system ++ 32 ∷ json)

pub start_parts : (bytes : List ℕ) (asked : Ask) → IsAskBehind (codes "start") bytes asked → StartParts bytes asked
start_parts bytes (ask.Start machine system input) is = record {
  machine = machine;
  system = system;
  input = input;
  is = refl;
  named = is.form.0;
  system_named = is.form.1;
  json = is.json;
  means = (is.meaning, is.form.2);
  spelled = is.spelled;
}
start_parts bytes (ask.Send actor event) is = absurd (let said : codes "start" ≡ codes "send" = is.said in cc)
start_parts bytes (ask.Resolve item output) is = absurd (let said : codes "start" ≡ codes "resolve" = is.said in cc)
start_parts bytes (ask.Reject item error) is = absurd (let said : codes "start" ≡ codes "reject" = is.said in cc)
start_parts bytes (ask.At moment) is = absurd (let said : codes "start" ≡ codes "at" = is.said in cc)

-- a system name or `-` has no space
spaceless_system : (system : Option (List ℕ)) → IfSome system IsSystemName → is_spaceless (system_text system) ≡ true
spaceless_system None named = refl
spaceless_system (Some name) named = spaceless_visible name named.visible.bytes

pub machine_cut : (bytes : List ℕ) (asked : Ask) (parts : StartParts bytes asked) → IsCut bytes parts.machine (system_text parts.system ++ 32 ∷ parts.json)
machine_cut bytes asked parts = record { joined = parts.spelled; spaceless = spaceless_visible parts.machine parts.named.bytes }

pub system_cut : (bytes : List ℕ) (asked : Ask) (parts : StartParts bytes asked) → IsCut (system_text parts.system ++ 32 ∷ parts.json) (system_text parts.system) parts.json
system_cut bytes asked parts = record { joined = refl; spaceless = spaceless_system parts.system parts.system_named }

-- a system name as it stands in a line
pub system_from : (bytes : List ℕ) (system : Option (List ℕ)) → bytes ≡ system_text system → IfSome system IsSystemName → IsSystemText bytes system
system_from bytes None same named = same
system_from bytes (Some name) same named = (same, named)

pub system_spelled : (bytes : List ℕ) (system : Option (List ℕ)) → IsSystemText bytes system → bytes ≡ system_text system
system_spelled bytes None is = is
system_spelled bytes (Some name) is = is.0

pub system_named : (bytes : List ℕ) (system : Option (List ℕ)) → IsSystemText bytes system → IfSome system IsSystemName
system_named bytes None is = tt
system_named bytes (Some name) is = is.1

-- the parts of what stands behind `start` are the bytes that were cut
pub record StartCuts (machine system json : List ℕ) (asked : Ask) : Type 0 where
  pub machine' : List ℕ
  pub system' : Option (List ℕ)
  pub input' : Value
  pub is : asked ≡ ask.Start machine' system' input'
  pub named : IsNameText machine machine'
  pub system_named : IsSystemText system system'
  pub means : IsShortText json input'

pub behind_machine : (bytes machine rest : List ℕ) → IsCut bytes machine rest → (asked : Ask) → (is : IsAskBehind (codes "start") bytes asked)
    → IsCut rest (system_text (start_parts bytes asked is).system) (start_parts bytes asked is).json
behind_machine bytes machine rest cut asked is =
    let parts = start_parts bytes asked is in
    let same = IsCut-unique bytes machine rest parts.machine (system_text parts.system ++ 32 ∷ parts.json) cut (machine_cut bytes asked parts) in
    subst (λ (text : List ℕ). IsCut text (system_text parts.system) parts.json) (sym same.1) (system_cut bytes asked parts)

pub start_cuts : (bytes machine rest system json : List ℕ) → IsCut bytes machine rest → IsCut rest system json → (asked : Ask) → IsAskBehind (codes "start") bytes asked → StartCuts machine system json asked
start_cuts bytes machine rest system json cut cut' asked is =
    let parts = start_parts bytes asked is in
    let first = IsCut-unique bytes machine rest parts.machine (system_text parts.system ++ 32 ∷ parts.json) cut (machine_cut bytes asked parts) in
    let second = IsCut-unique rest system json (system_text parts.system) parts.json cut' (behind_machine bytes machine rest cut asked is) in
    record {
      machine' = parts.machine;
      system' = parts.system;
      input' = parts.input;
      is = parts.is;
      named = (first.0, parts.named);
      system_named = system_from system parts.system second.0 parts.system_named;
      means = subst (λ (text : List ℕ). IsShortText text parts.input) (sym second.1) parts.means;
    }

-- and from its parts
pub start_from : (bytes machine rest system json machine' : List ℕ) (system' : Option (List ℕ)) (input : Value) → IsCut bytes machine rest → IsCut rest system json
    → IsNameText machine machine' → IsSystemText system system' → IsShortText json input → IsAskBehind (codes "start") bytes (ask.Start machine' system' input)
start_from bytes machine rest system json machine' system' input cut cut' named is_system means = record {
  form = (named.1, system_named system system' is_system, means.1);
  said = refl;
  json = json;
  meaning = means.0;
  spelled = cut.joined
      ∙ ap (λ (text : List ℕ). text ++ 32 ∷ rest) named.0
      ∙ ap (λ (text : List ℕ). machine' ++ 32 ∷ text) cut'.joined
      ∙ ap (λ (text : List ℕ). machine' ++ 32 ∷ (text ++ 32 ∷ json)) (system_spelled system system' is_system);
}

-- a system name is a name that isn't `-`
pub system_name : (bytes name : List ℕ) → bytes ≢ codes "-" → IsNameText bytes name → IsSystemText bytes (Some name)
system_name bytes name other is = (is.0, record { visible = is.1; no_hyphen = λ same. other (is.0 ∙ same) })

pub name_of_system : (bytes : List ℕ) → bytes ≢ codes "-" → (system : Option (List ℕ)) → IsSystemText bytes system → (name : List ℕ) × IsNameText bytes name
name_of_system bytes other None is = absurd (other is)
name_of_system bytes other (Some name) is = (name, (is.0, is.1.visible))

-- ---- send, resolve, reject, at

-- the ask is a send of this number and this event
pub record SendParts (bytes : List ℕ) (asked : Ask) : Type 0 where
  pub actor : ℕ
  pub event : Value
  pub is : asked ≡ ask.Send actor event
  pub numbered : IsNumberedText bytes (actor, event)
  pub typed : is_some (event_type event) ≡ true

pub send_parts : (bytes : List ℕ) (asked : Ask) → IsAskBehind (codes "send") bytes asked → SendParts bytes asked
send_parts bytes (ask.Send actor event) is = record {
  actor = actor;
  event = event;
  is = refl;
  typed = is.form.2;
  numbered = record { number = is.form.0; json = is.json; value = (is.meaning, is.form.1); spelled = is.spelled };
}
send_parts bytes (ask.Start machine system input) is = absurd (let said : codes "send" ≡ codes "start" = is.said in cc)
send_parts bytes (ask.Resolve item output) is = absurd (let said : codes "send" ≡ codes "resolve" = is.said in cc)
send_parts bytes (ask.Reject item error) is = absurd (let said : codes "send" ≡ codes "reject" = is.said in cc)
send_parts bytes (ask.At moment) is = absurd (let said : codes "send" ≡ codes "at" = is.said in cc)

pub send_from : (bytes : List ℕ) (actor : ℕ) (event : Value) → IsNumberedText bytes (actor, event) → is_some (event_type event) ≡ true → IsAskBehind (codes "send") bytes (ask.Send actor event)
send_from bytes actor event is typed = record { form = (is.number, is.value.1, typed); said = refl; json = is.json; meaning = is.value.0; spelled = is.spelled }

-- where what stands behind the number has no type, nothing is sent
pub send_untyped : MeaningIsUnique → (bytes : List ℕ) (pair : ℕ × Value) → IsNumberedText bytes pair → is_some (event_type pair.1) ≡ false → Reads (IsAskBehind (codes "send") bytes) (Err NotALine)
send_untyped unique bytes pair numbered untyped asked is =
    let parts = send_parts bytes asked is in
    let same = (numbered_agree unique bytes pair (parts.actor, parts.event) numbered parts.numbered).1 in
    let typed : is_some (event_type pair.1) ≡ true = ap (λ (event : Value). is_some (event_type event)) same ∙ parts.typed in
    cc

pub resolve_parts : (bytes : List ℕ) (asked : Ask) → IsAskBehind (codes "resolve") bytes asked → (pair : ℕ × Value) × (asked ≡ ask.Resolve pair.0 pair.1) × IsNumberedText bytes pair
resolve_parts bytes (ask.Resolve item output) is = ((item, output), refl, record { number = is.form.0; json = is.json; value = (is.meaning, is.form.1); spelled = is.spelled })
resolve_parts bytes (ask.Start machine system input) is = absurd (let said : codes "resolve" ≡ codes "start" = is.said in cc)
resolve_parts bytes (ask.Send actor event) is = absurd (let said : codes "resolve" ≡ codes "send" = is.said in cc)
resolve_parts bytes (ask.Reject item error) is = absurd (let said : codes "resolve" ≡ codes "reject" = is.said in cc)
resolve_parts bytes (ask.At moment) is = absurd (let said : codes "resolve" ≡ codes "at" = is.said in cc)

pub resolve_from : (bytes : List ℕ) (item : ℕ) (output : Value) → IsNumberedText bytes (item, output) → IsAskBehind (codes "resolve") bytes (ask.Resolve item output)
resolve_from bytes item output is = record { form = (is.number, is.value.1); said = refl; json = is.json; meaning = is.value.0; spelled = is.spelled }

pub reject_parts : (bytes : List ℕ) (asked : Ask) → IsAskBehind (codes "reject") bytes asked → (pair : ℕ × Value) × (asked ≡ ask.Reject pair.0 pair.1) × IsNumberedText bytes pair
reject_parts bytes (ask.Reject item error) is = ((item, error), refl, record { number = is.form.0; json = is.json; value = (is.meaning, is.form.1); spelled = is.spelled })
reject_parts bytes (ask.Start machine system input) is = absurd (let said : codes "reject" ≡ codes "start" = is.said in cc)
reject_parts bytes (ask.Send actor event) is = absurd (let said : codes "reject" ≡ codes "send" = is.said in cc)
reject_parts bytes (ask.Resolve item output) is = absurd (let said : codes "reject" ≡ codes "resolve" = is.said in cc)
reject_parts bytes (ask.At moment) is = absurd (let said : codes "reject" ≡ codes "at" = is.said in cc)

pub reject_from : (bytes : List ℕ) (item : ℕ) (error : Value) → IsNumberedText bytes (item, error) → IsAskBehind (codes "reject") bytes (ask.Reject item error)
reject_from bytes item error is = record { form = (is.number, is.value.1); said = refl; json = is.json; meaning = is.value.0; spelled = is.spelled }

-- a moment fits 64 bits
moment_number : (moment : ℕ) → moment ≤ MAX_MOMENT → moment < 2 ^ 64
moment_number moment small = omega arith

pub at_parts : (bytes : List ℕ) (asked : Ask) → IsAskBehind (codes "at") bytes asked → (moment : ℕ) × (asked ≡ ask.At moment) × SpellsNumber bytes moment × (moment ≤ MAX_MOMENT)
at_parts bytes (ask.At moment) is = (moment, refl, (moment_number moment is.form, is.spelled), is.form)
at_parts bytes (ask.Start machine system input) is = absurd (let said : codes "at" ≡ codes "start" = is.said in cc)
at_parts bytes (ask.Send actor event) is = absurd (let said : codes "at" ≡ codes "send" = is.said in cc)
at_parts bytes (ask.Resolve item output) is = absurd (let said : codes "at" ≡ codes "resolve" = is.said in cc)
at_parts bytes (ask.Reject item error) is = absurd (let said : codes "at" ≡ codes "reject" = is.said in cc)

pub at_from : (bytes : List ℕ) (moment : ℕ) → SpellsNumber bytes moment → moment ≤ MAX_MOMENT → IsAskBehind (codes "at") bytes (ask.At moment)
at_from bytes moment is small = record { form = small; said = refl; json = []; meaning = refl; spelled = is.1 }

-- ---- the line

-- the text of what a request asks for
abbrev pub ask_text : Request → List ℕ → List ℕ
ask_text request json = spaced (ask_word request.ask ∷ ask_parts request.ask json)

-- a request's line is cut behind the caller, and then behind the number
pub caller_cut : (line : List ℕ) (request : Request) (is : IsRequestLine line request) → IsCut line request.caller (decimal request.number ++ 32 ∷ ask_text request is.json)
caller_cut line request is = record { joined = is.spelled; spaceless = spaceless_caller request.caller is.form.caller }

pub number_cut : (request : Request) → IsNumber request.number → (json : List ℕ) → IsCut (decimal request.number ++ 32 ∷ ask_text request json) (decimal request.number) (ask_text request json)
number_cut request small json = record { joined = refl; spaceless = spaceless_decimal request.number small }

-- what stands behind the caller of a request
pub behind_caller : (line caller rest : List ℕ) → IsCut line caller rest → (request : Request) (is : IsRequestLine line request) → (caller ≡ request.caller) × IsCut rest (decimal request.number) (ask_text request is.json)
behind_caller line caller rest cut request is =
    let same = IsCut-unique line caller rest request.caller (decimal request.number ++ 32 ∷ ask_text request is.json) cut (caller_cut line request is) in
    (same.0, subst (λ (text : List ℕ). IsCut text (decimal request.number) (ask_text request is.json)) (sym same.1) (number_cut request is.form.number is.json))

-- the parts of a line are those of the request whose line it is
pub record RequestParts (caller number text : List ℕ) (request : Request) : Type 0 where
  pub called : IsCallerText caller request.caller
  pub numbered : SpellsNumber number request.number
  pub some : 0 < request.number
  pub asked : IsAskText text request.ask

pub request_parts : (line caller rest number text : List ℕ) → IsCut line caller rest → IsCut rest number text → (request : Request) → IsRequestLine line request → RequestParts caller number text request
request_parts line caller rest number text cut cut' request is =
    let behind = behind_caller line caller rest cut request is in
    let same = IsCut-unique rest number text (decimal request.number) (ask_text request is.json) cut' behind.1 in
    record {
      called = (behind.0, is.form.caller);
      numbered = (is.form.number, same.0);
      some = is.form.numbered;
      asked = record { form = is.form.ask; json = is.json; meaning = is.meaning; spelled = same.1 };
    }

-- and from its parts
pub request_from : (line caller rest number text : List ℕ) → length line ≤ MAX_LINE → IsCut line caller rest → IsCut rest number text → (caller' : List ℕ) (n : ℕ) (asked : Ask)
    → IsCallerText caller caller' → SpellsNumber number n → 0 < n → IsAskText text asked → IsRequestLine line (record { caller = caller'; number = n; ask = asked })
request_from line caller rest number text short cut cut' caller' n asked called numbered some is = record {
  short = short;
  form = record { caller = called.1; numbered = some; number = numbered.0; ask = is.form };
  json = is.json;
  meaning = is.meaning;
  spelled = cut.joined
      ∙ ap (λ (t : List ℕ). t ++ 32 ∷ rest) called.0
      ∙ ap (λ (t : List ℕ). caller' ++ 32 ∷ t) cut'.joined
      ∙ ap (λ (t : List ℕ). caller' ++ 32 ∷ (t ++ 32 ∷ text)) numbered.1
      ∙ ap (λ (t : List ℕ). caller' ++ 32 ∷ (decimal n ++ 32 ∷ t)) is.spelled;
}

-- ---- one line, one request

system_agree : (a b : Option (List ℕ)) → IfSome a IsSystemName → IsSystemText (system_text a) b → a ≡ b
system_agree None None named is = refl
system_agree None (Some name) named is = absurd (is.1.no_hyphen (sym is.0))
system_agree (Some name) None named is = absurd (named.no_hyphen is)
system_agree (Some name) (Some other) named is = ap (λ (n : List ℕ). Some n) is.0

starts_agree : MeaningIsUnique → (rest : List ℕ) (a b : Ask) → IsAskBehind (codes "start") rest a → IsAskBehind (codes "start") rest b → a ≡ b
starts_agree unique rest a b one other =
    let parts = start_parts rest a one in
    let cuts = start_cuts rest parts.machine (system_text parts.system ++ 32 ∷ parts.json) (system_text parts.system) parts.json (machine_cut rest a parts) (system_cut rest a parts) b other in
    parts.is
    ∙ ap (λ (m : List ℕ). ask.Start m parts.system parts.input) cuts.named.0
    ∙ ap (λ (s : Option (List ℕ)). ask.Start cuts.machine' s parts.input) (system_agree parts.system cuts.system' parts.system_named cuts.system_named)
    ∙ ap (λ (x : Value). ask.Start cuts.machine' cuts.system' x) (values_agree unique parts.json parts.input cuts.input' parts.means.0 cuts.means.0)
    ∙ sym cuts.is

sends_agree : MeaningIsUnique → (rest : List ℕ) (a b : Ask) → IsAskBehind (codes "send") rest a → IsAskBehind (codes "send") rest b → a ≡ b
sends_agree unique rest a b one other =
    let parts = send_parts rest a one in
    let others = send_parts rest b other in
    let same = numbered_agree unique rest (parts.actor, parts.event) (others.actor, others.event) parts.numbered others.numbered in
    parts.is ∙ ap (λ (n : ℕ). ask.Send n parts.event) same.0 ∙ ap (λ (x : Value). ask.Send others.actor x) same.1 ∙ sym others.is

resolves_agree : MeaningIsUnique → (rest : List ℕ) (a b : Ask) → IsAskBehind (codes "resolve") rest a → IsAskBehind (codes "resolve") rest b → a ≡ b
resolves_agree unique rest a b one other =
    let parts = resolve_parts rest a one in
    let others = resolve_parts rest b other in
    let same = numbered_agree unique rest parts.0 others.0 parts.2 others.2 in
    parts.1 ∙ ap (λ (n : ℕ). ask.Resolve n parts.0.1) same.0 ∙ ap (λ (x : Value). ask.Resolve others.0.0 x) same.1 ∙ sym others.1

rejects_agree : MeaningIsUnique → (rest : List ℕ) (a b : Ask) → IsAskBehind (codes "reject") rest a → IsAskBehind (codes "reject") rest b → a ≡ b
rejects_agree unique rest a b one other =
    let parts = reject_parts rest a one in
    let others = reject_parts rest b other in
    let same = numbered_agree unique rest parts.0 others.0 parts.2 others.2 in
    parts.1 ∙ ap (λ (n : ℕ). ask.Reject n parts.0.1) same.0 ∙ ap (λ (x : Value). ask.Reject others.0.0 x) same.1 ∙ sym others.1

moments_agree : (rest : List ℕ) (a b : Ask) → IsAskBehind (codes "at") rest a → IsAskBehind (codes "at") rest b → a ≡ b
moments_agree rest a b one other =
    let parts = at_parts rest a one in
    let others = at_parts rest b other in
    parts.1 ∙ ap (λ (n : ℕ). ask.At n) (same_number rest parts.0 others.0 parts.2 others.2) ∙ sym others.1

behind_agree : MeaningIsUnique → (word rest : List ℕ) (a b : Ask) → IsAskBehind word rest a → IsAskBehind word rest b → a ≡ b
behind_agree unique word rest a b one other = by_word a one.said where
  said : (known : List ℕ) → word ≡ known → (x : Ask) → IsAskBehind word rest x → IsAskBehind known rest x
  said known same x is = subst (λ (w : List ℕ). IsAskBehind w rest x) same is

  by_word : (x : Ask) → word ≡ ask_word x → a ≡ b
  by_word (ask.Start machine system input) same = starts_agree unique rest a b (said _ same a one) (said _ same b other)
  by_word (ask.Send actor event) same = sends_agree unique rest a b (said _ same a one) (said _ same b other)
  by_word (ask.Resolve item output) same = resolves_agree unique rest a b (said _ same a one) (said _ same b other)
  by_word (ask.Reject item error) same = rejects_agree unique rest a b (said _ same a one) (said _ same b other)
  by_word (ask.At moment) same = moments_agree rest a b (said _ same a one) (said _ same b other)

asks_agree : MeaningIsUnique → (text : List ℕ) (a b : Ask) → IsAskText text a → IsAskText text b → a ≡ b
asks_agree unique text a b one other =
    let cut = ask_cut a one.json text one.spelled in
    behind_agree unique (ask_word a) (spaced (ask_parts a one.json)) a b
    (behind_word text (ask_word a) (spaced (ask_parts a one.json)) cut a one)
    (behind_word text (ask_word a) (spaced (ask_parts a one.json)) cut b other)

request_of : (a b : Request) → a.caller ≡ b.caller → a.number ≡ b.number → a.ask ≡ b.ask → a ≡ b
request_of a b callers numbers asks =
    let of : List ℕ → ℕ → Ask → Request = λ caller number asked. record { caller = caller; number = number; ask = asked } in
    ap (λ (caller : List ℕ). of caller a.number a.ask) callers ∙ ap (λ (number : ℕ). of b.caller number a.ask) numbers ∙ ap (λ (asked : Ask). of b.caller b.number asked) asks

-- a line is the line of one request at most, where a text has one meaning at most
pub request_is_unique : MeaningIsUnique → RequestIsUnique
request_is_unique unique line a b one other =
    let text = ask_text a one.json in
    let parts = request_parts line a.caller (decimal a.number ++ 32 ∷ text) (decimal a.number) text (caller_cut line a one) (number_cut a one.form.number one.json) b other in
    let own : IsAskText text a.ask = record { form = one.form.ask; json = one.json; meaning = one.meaning; spelled = refl } in
    request_of a b parts.called.0 (same_number (decimal a.number) a.number b.number (one.form.number, refl) parts.numbered) (asks_agree unique text a.ask b.ask own parts.asked)

-- ---- writing

-- the words of a line and its JSON make up the line
pub line_with_json : (request : Request) (x : Value) (json : List ℕ) → ask_value request.ask ≡ Some x → line_with request [] ++ json ≡ line_with request json
line_with_json request x json is = by_ask request.ask is where
  by_ask : (asked : Ask) → ask_value asked ≡ Some x
      → spaced (request.caller ∷ decimal request.number ∷ ask_word asked ∷ ask_parts asked []) ++ json ≡ spaced (request.caller ∷ decimal request.number ∷ ask_word asked ∷ ask_parts asked json)
  by_ask (ask.Start machine system input) is = simp append_assoc
  by_ask (ask.Send actor event) is = simp append_assoc
  by_ask (ask.Resolve item output) is = simp append_assoc
  by_ask (ask.Reject item error) is = simp append_assoc
  by_ask (ask.At moment) is = absurd (let bad : None ≡ Some x = is in cc)

-- so do a text, the words and the JSON, where there is one
pub canonical_behind : (front text whole : List ℕ) (request : Request) (x : Value) → text ≡ front ++ line_with request [] → ask_value request.ask ≡ Some x
    → whole ≡ text ++ compact_text x → whole ≡ front ++ canonical_line request
canonical_behind front text whole request x is value behind =
    behind
    ∙ ap (λ l. l ++ compact_text x) is
    ∙ append_assoc front (line_with request []) (compact_text x)
    ∙ ap (λ l. front ++ l) (line_with_json request x (compact_text x) value)
    ∙ ap (λ (o : Option Value). front ++ line_with request (canonical_json o)) (sym value)

pub canonical_without : (front text : List ℕ) (request : Request) → text ≡ front ++ line_with request [] → ask_value request.ask ≡ None → text ≡ front ++ canonical_line request
canonical_without front text request is none = is ∙ ap (λ (o : Option Value). front ++ line_with request (canonical_json o)) (sym none)

-- what a reference to an option tells
pub is_some-copied : {T : Type 0} (r : Option (Bor T)) → is_some (option_copied r) ≡ is_some r
is_some-copied None = refl
is_some-copied (Some x) = refl
