-- Lemmas on a line as the line of a request.
use Rattle.std.proofs.Common.{◌≡◌, ◌≢◌, ℕ, ◌^◌, ◌<◌, List, [], ◌∷◌, ◌++◌, refl, sym, ap, subst, ◌∙◌}
use Rattle.std.specs.Prelude.{Result, Ok, Err, Some, IsTrue, decimal, codes, option_and_then, IsErrAnd}
use Rattle.std.proofs.lemmas.Fmt.{decimal_injective}
use Rattle.xs_data.specs.Ascii.{space}
use Rattle.ordered_json.specs.declared.fault.JsonFault.{JsonFault}
use Rattle.ordered_json.specs.declared.fault.JsonFault.TheVariants as faults
use Rattle.ordered_json.specs.declared.json.OrderedJson.{OrderedJson}
use Rattle.ordered_json.specs.Laws.{MeaningIsUnique}
use Rattle.ordered_json.specs.Meaning.{Means, IsMeaningless}
use Rattle.ordered_json.specs.Words.{as_object}
use Rattle.flat_core.specs.declared.request.Ask.{Ask}
use Rattle.flat_core.specs.declared.request.Ask.TheVariants.{Start, Send}
use Rattle.flat_core.specs.declared.request.Request.{Request}
use Rattle.flat_core.specs.declared.request_line.LineFault.{LineFault}
use Rattle.flat_core.specs.declared.request_line.LineFault.TheVariants.{NotALine, Memory}
use Rattle.flat_core.specs.LineParts.{IsCut, IsNumber, IsNameText, IsStart, IsSend, line_fault}
use Rattle.flat_core.specs.RequestLine.{ReadsLine, IsAsk, IsEvent, IsRequest, spaced_text, is_sendable, type_in}
use Rattle.flat_core.specs.Laws.{RequestIsUnique}
use Rattle.flat_core.proofs.LineLemmas.{IsCut-unique, spaceless_caller, spaceless_decimal, spaceless_visible}

-- where a part can't be read the whole can't
pub refused : {X Y : Type 0} (P : X → Type 0) (Q : Y → Type 0) (fault : LineFault) → ReadsLine P (Err fault) → ((y : Y) → Q y → (x : X) × P x) → ReadsLine Q (Err fault)
refused P Q NotALine none part = λ y is. let p = part y is in none p.0 p.1
refused P Q Memory none part = tt

-- what a fault says holds where a `?` hands the fault on
pub handed_on : {Y : Type 0} (Q : Y → Type 0) (read : Result Y LineFault) (fault : LineFault) → IsErrAnd read (λ e. e ≡ fault) → ReadsLine Q (Err fault) → ReadsLine Q read
handed_on Q (Ok y) fault is none = absurd is
handed_on Q (Err e) fault is none = subst (λ (f : LineFault). ReadsLine Q (Err f)) (sym is) none

-- where a `?` hands a part's fault on, the whole can't be read
pub refused_at : {X Y : Type 0} (P : X → Type 0) (Q : Y → Type 0) (read : Result Y LineFault) (fault : LineFault) → IsErrAnd read (λ e. e ≡ fault) → ReadsLine P (Err fault) → ((y : Y) → Q y → (x : X) × P x) → ReadsLine Q read
refused_at P Q read fault is none part = handed_on Q read fault is (refused P Q fault none part)

-- what reads one reads the other, where the two are the same
pub reads_as : {X : Type 0} (P Q : X → Type 0) (read : Result X LineFault) → ReadsLine P read → ((x : X) → P x → Q x) → ((x : X) → Q x → P x) → ReadsLine Q read
reads_as P Q (Ok x) is to from = to x is
reads_as P Q (Err NotALine) none to from = λ x is. none x (from x is)
reads_as P Q (Err Memory) is to from = tt

-- a text with a meaning has the type and the size of its one event
pub event_is : MeaningIsUnique → (bytes : List ℕ) (json : OrderedJson) → Means bytes json → (event : List ℕ) → IsEvent bytes event → (option_and_then type_in (as_object json) ≡ Some event) × IsTrue (is_sendable event)
event_is unique bytes json means event is =
    let P : OrderedJson → Type 0 = λ j. option_and_then type_in (as_object j) ≡ Some event in
    (subst P (unique bytes is.json json is.means means) is.type_is, is.sendable)

-- a text that is refused is no event's
pub no_event : (bytes : List ℕ) (fault : JsonFault) → (fault ≢ faults.Memory → IsMeaningless bytes) → ReadsLine (IsEvent bytes) (Err (line_fault fault))
no_event bytes (faults.Syntax place) refused = λ event is. refused (λ e. cc) is.json is.means
no_event bytes (faults.DoubleKey place) refused = λ event is. refused (λ e. cc) is.json is.means
no_event bytes (faults.Fraction place) refused = λ event is. refused (λ e. cc) is.json is.means
no_event bytes (faults.Range place) refused = λ event is. refused (λ e. cc) is.json is.means
no_event bytes (faults.TooDeep place) refused = λ event is. refused (λ e. cc) is.json is.means
no_event bytes faults.TooLong refused = λ event is. refused (λ e. cc) is.json is.means
no_event bytes faults.Memory refused = tt

-- a start is cut behind the machine's id
pub start_cut : (bytes machine : List ℕ) → IsStart bytes machine → IsCut bytes machine (codes "- null")
start_cut bytes machine is = record { joined = is.1; spaceless = spaceless_visible machine is.0.visible }

-- a name and what stands behind it in a start are a start
pub start_from : (bytes first rest machine : List ℕ) → IsCut bytes first rest → rest ≡ codes "- null" → IsNameText first machine → IsStart bytes machine
start_from bytes first rest machine cut null is = (is.1, cut.joined ∙ ap (λ text. text ++ space ∷ rest) is.0 ∙ ap (λ text. machine ++ space ∷ text) null)

-- the first part of a start is the machine's id
pub start_name : (bytes first rest machine : List ℕ) → IsCut bytes first rest → IsStart bytes machine → IsNameText first machine
start_name bytes first rest machine cut is = ((IsCut-unique bytes first rest machine (codes "- null") cut (start_cut bytes machine is)).0, is.0)

-- a send is cut behind the actor's number
pub send_cut : (bytes : List ℕ) (sent : ℕ × List ℕ) (is : IsSend bytes sent) → IsCut bytes (decimal sent.0) is.1
send_cut bytes sent is = record { joined = is.3; spaceless = spaceless_decimal sent.0 is.0 }

-- the parts of a send
pub send_parts : (bytes actor json : List ℕ) → IsCut bytes actor json → (sent : ℕ × List ℕ) → IsSend bytes sent → IsNumber actor sent.0 × IsEvent json sent.1
send_parts bytes actor json cut sent is =
    let same = IsCut-unique bytes actor json (decimal sent.0) is.1 cut (send_cut bytes sent is) in
    let P : List ℕ → Type 0 = λ text. IsEvent text sent.1 in
    ((is.0, same.0), subst P (sym same.1) is.2)

-- the word that begins what is asked for, and what stands behind it
abbrev pub AskParts : List ℕ → List ℕ → Ask → Type 0
AskParts word rest (Start machine) = (word ≡ codes "start") × IsStart rest machine
AskParts word rest (Send actor event) = (word ≡ codes "send") × IsSend rest (actor, event)

pub ask_parts : (text word rest : List ℕ) → IsCut text word rest → (ask : Ask) → IsAsk text ask → AskParts word rest ask
ask_parts text word rest cut (Start machine) is =
    let behind = spaced_text (machine ∷ codes "-" ∷ codes "null" ∷ []) in
    let same = IsCut-unique text word rest (codes "start") behind cut (record { joined = is.1; spaceless = refl }) in
    (same.0, (is.0, same.1))
ask_parts text word rest cut (Send actor event) is =
    let behind = spaced_text (decimal actor ∷ is.1 ∷ []) in
    let same = IsCut-unique text word rest (codes "send") behind cut (record { joined = is.3; spaceless = refl }) in
    (same.0, (is.0, is.1, is.2, same.1))

-- what begins with the word `start` asks for a start
pub asks_start : (word rest : List ℕ) → word ≡ codes "start" → (ask : Ask) → AskParts word rest ask → (machine : List ℕ) × IsStart rest machine
asks_start word rest is_start (Start machine) parts = (machine, parts.1)
asks_start word rest is_start (Send actor event) parts = absurd (let bad : codes "start" ≡ codes "send" = sym is_start ∙ parts.0 in cc)

-- what begins with the word `send` asks for a send
pub asks_send : (word rest : List ℕ) → word ≡ codes "send" → (ask : Ask) → AskParts word rest ask → (sent : ℕ × List ℕ) × IsSend rest sent
asks_send word rest is_send (Send actor event) parts = ((actor, event), parts.1)
asks_send word rest is_send (Start machine) parts = absurd (let bad : codes "send" ≡ codes "start" = sym is_send ∙ parts.0 in cc)

-- what begins with neither word asks for nothing
pub asks_nothing : (word rest : List ℕ) → word ≢ codes "start" → word ≢ codes "send" → (ask : Ask) → AskParts word rest ask → ⊥
asks_nothing word rest not_start not_send (Start machine) parts = not_start parts.0
asks_nothing word rest not_start not_send (Send actor event) parts = not_send parts.0

-- a request's line is cut behind the caller
pub caller_cut : (line : List ℕ) (request : Request) (is : IsRequest line request) → IsCut line request.caller (spaced_text (decimal request.number ∷ is.ask ∷ []))
caller_cut line request is = record { joined = is.spelled; spaceless = spaceless_caller request.caller is.caller }

-- and behind the caller it is cut behind the number
pub number_cut : (request : Request) → request.number < 2 ^ 64 → (ask : List ℕ) → IsCut (spaced_text (decimal request.number ∷ ask ∷ [])) (decimal request.number) ask
number_cut request small ask = record { joined = refl; spaceless = spaceless_decimal request.number small }

-- what stands behind the caller of a request
pub behind_caller : (line caller rest : List ℕ) → IsCut line caller rest → (request : Request) (is : IsRequest line request) → (caller ≡ request.caller) × IsCut rest (decimal request.number) is.ask
behind_caller line caller rest cut request is =
    let same = IsCut-unique line caller rest request.caller (spaced_text (decimal request.number ∷ is.ask ∷ [])) cut (caller_cut line request is) in
    let P : List ℕ → Type 0 = λ text. IsCut text (decimal request.number) is.ask in
    (same.0, subst P (sym same.1) (number_cut request is.number is.ask))

-- the parts of a line are those of the request whose line it is
pub record RequestParts (caller number ask : List ℕ) (request : Request) : Type 0 where
  pub called : caller ≡ request.caller
  pub numbered : IsNumber number request.number
  pub asked : IsAsk ask request.ask

pub request_parts : (line caller rest number ask : List ℕ) → IsCut line caller rest → IsCut rest number ask → (request : Request) → IsRequest line request → RequestParts caller number ask request
request_parts line caller rest number ask cut cut' request is =
    let behind = behind_caller line caller rest cut request is in
    let same = IsCut-unique rest number ask (decimal request.number) is.ask cut' behind.1 in
    let P : List ℕ → Type 0 = λ text. IsAsk text request.ask in
    record { called = behind.0; numbered = (is.number, same.0); asked = subst P (sym same.1) is.asked }

-- the number that bytes spell is one
pub same_number : (bytes : List ℕ) (m n : ℕ) → IsNumber bytes m → IsNumber bytes n → m ≡ n
same_number bytes m n one other = decimal_injective m n one.0 other.0 (sym one.1 ∙ other.1)

-- bytes mean one event
events_agree : MeaningIsUnique → (bytes a b : List ℕ) → IsEvent bytes a → IsEvent bytes b → a ≡ b
events_agree unique bytes a b one other =
    let both : Some a ≡ Some b = sym one.type_is ∙ (event_is unique bytes one.json one.means b other).0 in
    cc

starts_agree : (bytes a b : List ℕ) → IsStart bytes a → IsStart bytes b → a ≡ b
starts_agree bytes a b one other = (start_name bytes a (codes "- null") b (start_cut bytes a one) other).0

sends_agree : MeaningIsUnique → (bytes : List ℕ) (a b : ℕ × List ℕ) → IsSend bytes a → IsSend bytes b → (a.0 ≡ b.0) × (a.1 ≡ b.1)
sends_agree unique bytes a b one other =
    let parts = send_parts bytes (decimal a.0) one.1 (send_cut bytes a one) b other in
    (same_number (decimal a.0) a.0 b.0 (one.0, refl) parts.0, events_agree unique one.1 a.1 b.1 one.2 parts.1)

asks_agree : MeaningIsUnique → (text : List ℕ) (a b : Ask) → IsAsk text a → IsAsk text b → a ≡ b
asks_agree unique text (Start machine) (Start machine') one other =
    let parts = ask_parts text (codes "start") (spaced_text (machine ∷ codes "-" ∷ codes "null" ∷ [])) (record { joined = one.1; spaceless = refl }) (Start machine') other in
    ap (λ (id : List ℕ). Start id) (starts_agree (spaced_text (machine ∷ codes "-" ∷ codes "null" ∷ [])) machine machine' (one.0, refl) parts.1)
asks_agree unique text (Start machine) (Send actor event) one other =
    let parts = ask_parts text (codes "start") (spaced_text (machine ∷ codes "-" ∷ codes "null" ∷ [])) (record { joined = one.1; spaceless = refl }) (Send actor event) other in
    let bad : codes "start" ≡ codes "send" = parts.0 in
    absurd cc
asks_agree unique text (Send actor event) (Start machine) one other =
    let parts = ask_parts text (codes "send") (spaced_text (decimal actor ∷ one.1 ∷ [])) (record { joined = one.3; spaceless = refl }) (Start machine) other in
    let bad : codes "send" ≡ codes "start" = parts.0 in
    absurd cc
asks_agree unique text (Send actor event) (Send actor' event') one other =
    let parts = ask_parts text (codes "send") (spaced_text (decimal actor ∷ one.1 ∷ [])) (record { joined = one.3; spaceless = refl }) (Send actor' event') other in
    let same = sends_agree unique (spaced_text (decimal actor ∷ one.1 ∷ [])) (actor, event) (actor', event') (one.0, one.1, one.2, refl) parts.1 in
    ap (λ (n : ℕ). Send n event) same.0 ∙ ap (λ (type : List ℕ). Send actor' type) same.1

request_of : (a b : Request) → a.caller ≡ b.caller → a.number ≡ b.number → a.ask ≡ b.ask → a ≡ b
request_of a b callers numbers asks =
    let of : List ℕ → ℕ → Ask → Request = λ caller number ask. record { caller = caller; number = number; ask = ask } in
    ap (λ (caller : List ℕ). of caller a.number a.ask) callers ∙ ap (λ (number : ℕ). of b.caller number a.ask) numbers ∙ ap (λ (ask : Ask). of b.caller b.number ask) asks

-- a line is the line of one request at most, where a text has one meaning at most
pub request_is_unique : MeaningIsUnique → RequestIsUnique
request_is_unique unique line a b one other =
    let parts = request_parts line a.caller (spaced_text (decimal a.number ∷ one.ask ∷ [])) (decimal a.number) one.ask (caller_cut line a one) (number_cut a one.number one.ask) b other in
    request_of a b parts.called (same_number (decimal a.number) a.number b.number (one.number, refl) parts.numbered) (asks_agree unique one.ask a.ask b.ask one.asked parts.asked)
