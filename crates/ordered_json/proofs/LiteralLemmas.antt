-- The reader goes over what the grammar prints.
use Rattle.std.proofs.Common.{◌≡◌, [], ◌∷◌, ◌++◌, ℕ, ◌+◌, Bool, true, false, List, length, Option, Result, Ok, refl, ◌∙◌, arith}
use Rattle.ordered_json.specs.declared.fault.JsonFault.{JsonFault}
use Rattle.ordered_json.specs.declared.json.OrderedJson.{OrderedJson, Null, Bool as a_bool}
use Rattle.ordered_json.specs.declared.level.Level.{Level}
use Rattle.ordered_json.specs.declared.mode.Mode.{Mode}
use Rattle.ordered_json.specs.declared.mode.Mode.TheVariants as mode
use Rattle.ordered_json.specs.Grammar.{IsSpace}
use Rattle.ordered_json.specs.Steps.{between, begin_value, take_byte, in_name, open_name}
use Rattle.ordered_json.specs.declared.mode.LiteralName.TheVariants as literal
use Rattle.ordered_json.proofs.RunLemmas.{Answers, by_step, by_place}
use Rattle.ordered_json.proofs.StateLemmas.{state, Ready, finished, complete_ready, awaiting, blank_step}

abbrev pub Answer : Type 0
Answer = Result OrderedJson JsonFault

-- a mode of a reader between tokens, whose step is `between`
abbrev pub Waits : Mode → Type 0
Waits m = (place b : ℕ) (ls : List Level) (o : Option OrderedJson) → take_byte place b (state m ls o) ≡ between place b (state m ls o)

pub awaiting_waits : (f : Bool) → Waits (awaiting f)
unfolding take_byte
awaiting_waits true = λ place b ls o. refl
awaiting_waits false = λ place b ls o. refl

pub spaces : {m : Mode} → Waits m → (s : List ℕ) {rest : List ℕ} {p : ℕ} {ls : List Level} {o : Option OrderedJson} {x : Answer} → IsSpace s → Answers (p + length s) rest (Ok (state m ls o)) x → Answers p (s ++ rest) (Ok (state m ls o)) x
spaces w [] {p = p} h a = by_place {q = p + 0} (omega arith) a
spaces {m} w (b ∷ s) {p = p} {ls = ls} {o = o} h a =
    by_step (w p b ls o ∙ blank_step m p b ls o h.0) (spaces w s h.1 (by_place {q = p + length (b ∷ s)} (omega arith) a))

-- a name is read
pub reads_null : (f : Bool) {p : ℕ} {rest : List ℕ} {ls : List Level} {o : Option OrderedJson} {x : Answer} → Ready ls → Answers (p + 4) rest (Ok (finished (Null p) ls o)) x → Answers p (110 ∷ 117 ∷ 108 ∷ 108 ∷ rest) (Ok (state (awaiting f) ls o)) x
unfolding take_byte between begin_value in_name
reads_null true {p} {ls = ls} {o = o} h a = by_step refl (by_step refl (by_step refl (by_step (complete_ready (p + 1 + 1 + 1) (Null p) (mode.Name (open_name p literal.Null 3)) ls o h) (by_place {q = p + 4} (omega arith) a))))
reads_null false {p} {ls = ls} {o = o} h a = by_step refl (by_step refl (by_step refl (by_step (complete_ready (p + 1 + 1 + 1) (Null p) (mode.Name (open_name p literal.Null 3)) ls o h) (by_place {q = p + 4} (omega arith) a))))

pub reads_true : (f : Bool) {p : ℕ} {rest : List ℕ} {ls : List Level} {o : Option OrderedJson} {x : Answer} → Ready ls → Answers (p + 4) rest (Ok (finished (a_bool p true) ls o)) x → Answers p (116 ∷ 114 ∷ 117 ∷ 101 ∷ rest) (Ok (state (awaiting f) ls o)) x
unfolding take_byte between begin_value in_name
reads_true true {p} {ls = ls} {o = o} h a = by_step refl (by_step refl (by_step refl (by_step (complete_ready (p + 1 + 1 + 1) (a_bool p true) (mode.Name (open_name p literal.True 3)) ls o h) (by_place {q = p + 4} (omega arith) a))))
reads_true false {p} {ls = ls} {o = o} h a = by_step refl (by_step refl (by_step refl (by_step (complete_ready (p + 1 + 1 + 1) (a_bool p true) (mode.Name (open_name p literal.True 3)) ls o h) (by_place {q = p + 4} (omega arith) a))))

pub reads_false : (f : Bool) {p : ℕ} {rest : List ℕ} {ls : List Level} {o : Option OrderedJson} {x : Answer} → Ready ls → Answers (p + 5) rest (Ok (finished (a_bool p false) ls o)) x → Answers p (102 ∷ 97 ∷ 108 ∷ 115 ∷ 101 ∷ rest) (Ok (state (awaiting f) ls o)) x
unfolding take_byte between begin_value in_name
reads_false true {p} {ls = ls} {o = o} h a = by_step refl (by_step refl (by_step refl (by_step refl (by_step (complete_ready (p + 1 + 1 + 1 + 1) (a_bool p false) (mode.Name (open_name p literal.False 4)) ls o h) (by_place {q = p + 5} (omega arith) a)))))
reads_false false {p} {ls = ls} {o = o} h a = by_step refl (by_step refl (by_step refl (by_step refl (by_step (complete_ready (p + 1 + 1 + 1 + 1) (a_bool p false) (mode.Name (open_name p literal.False 4)) ls o h) (by_place {q = p + 5} (omega arith) a)))))
