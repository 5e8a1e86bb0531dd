-- A run of the reader over the bytes of a text.
use Rattle.std.proofs.Common.{◌≡◌, [], ◌∷◌, ℕ, suc, ◌+◌, ◌<◌, List, length, get_or, drop, drop-cons, Result, Ok, Err, refl, ap, sym, ◌∙◌}
use Rattle.ordered_json.specs.declared.fault.JsonFault.{JsonFault}
use Rattle.ordered_json.specs.declared.json.OrderedJson.{OrderedJson}
use Rattle.ordered_json.specs.declared.reader.Reader.{Reader}
use Rattle.ordered_json.specs.Steps.{Reading, answer_from, take_byte}

-- a fault ends the run
pub answer_from-err : (place : ℕ) (bytes : List ℕ) (fault : JsonFault) → answer_from place bytes (Err fault) ≡ Err fault
answer_from-err place [] fault = refl
answer_from-err place (b ∷ bs) fault = answer_from-err (place + 1) bs fault

-- a fault at the next byte is the whole text's
pub answer_from-fault : (place : ℕ) (text : List ℕ) (r : Reader) (whole : Result OrderedJson JsonFault) (fault : JsonFault) → place < length text → answer_from place (drop place text) (Ok r) ≡ whole → take_byte place (get_or text place 0) r ≡ Err fault → whole ≡ Err fault
answer_from-fault place text r whole fault within leads stepped =
    sym leads
    ∙ (ap (λ bs. answer_from place bs (Ok r)) (drop-cons text place 0 within)
    ∙ (ap (answer_from (place + 1) (drop (suc place) text)) stepped ∙ answer_from-err (place + 1) (drop (suc place) text) fault))

-- from here the reader answers so
pub record Answers (place : ℕ) (bytes : List ℕ) (o : Reading) (x : Result OrderedJson JsonFault) : Type 0 where
  pub is : answer_from place bytes o ≡ x

-- one byte
pub by_step : {place b : ℕ} {bytes : List ℕ} {r : Reader} {o : Reading} {x : Result OrderedJson JsonFault} → take_byte place b r ≡ o → Answers (place + 1) bytes o x → Answers place (b ∷ bytes) (Ok r) x
by_step {place} {b} {bytes} e a = record { is = ap (answer_from (place + 1) bytes) e ∙ a.is }

-- the same reader
pub by_same : {place : ℕ} {bytes : List ℕ} {o u : Reading} {x : Result OrderedJson JsonFault} → o ≡ u → Answers place bytes u x → Answers place bytes o x
by_same {place} {bytes} e a = record { is = ap (answer_from place bytes) e ∙ a.is }

-- the same place
pub by_place : {p q : ℕ} {bytes : List ℕ} {o : Reading} {x : Result OrderedJson JsonFault} → p ≡ q → Answers q bytes o x → Answers p bytes o x
by_place {p} {q} {bytes} {o} e a = record { is = ap (λ n. answer_from n bytes o) e ∙ a.is }

-- the same bytes
pub by_bytes : {p : ℕ} {bs cs : List ℕ} {o : Reading} {x : Result OrderedJson JsonFault} → bs ≡ cs → Answers p cs o x → Answers p bs o x
by_bytes {p} {bs} {cs} {o} e a = record { is = ap (λ c. answer_from p c o) e ∙ a.is }

-- a fault
pub by_fault : {place : ℕ} {bytes : List ℕ} {o : Reading} {fault : JsonFault} → o ≡ Err fault → Answers place bytes o (Err fault)
by_fault {place} {bytes} {o} {fault} e = record { is = ap (answer_from place bytes) e ∙ answer_from-err place bytes fault }
