-- The text of a side: how long its parts are, and how it is put together.
use Rattle.std.proofs.Common.{◌≡◌, ℕ, ◌+◌, ◌<◌, ◌≤◌, List, ◌∷◌, ◌++◌, length, get_or, take, drop, sym, ◌∙◌, ap, arith, append_assoc, length-append, take-append-drop}
use Rattle.std.proofs.lemmas.List.{drop_more, drop-drop}
use Rattle.gate_journal.specs.declared.parts.TheConstants.{OPEN}
use Rattle.gate_journal.specs.Layout.{length_bytes, eight_bytes, record_text, head_text}
use Rattle.gate_journal.proofs.NumberLemmas.{length-length_bytes, length-eight_bytes}

pub length-head_text : (generation size : ℕ) → length (head_text generation size) ≡ 13
unfolding head_text
length-head_text generation size =
    length-append (OPEN ∷ eight_bytes generation) (length_bytes size) ∙ omega (arith, length-length_bytes size, length-eight_bytes generation)

pub length-record_text : (payload : List ℕ) → length (record_text payload) ≡ 5 + length payload
unfolding record_text
length-record_text payload =
    length-append (OPEN ∷ length_bytes (length payload)) payload ∙ omega (arith, length-length_bytes (length payload))

-- a text that begins with this gate
pub gate_first : (text : List ℕ) (gate : ℕ) → 0 < length text → get_or text 0 0 ≡ gate → text ≡ gate ∷ drop 1 text
gate_first text gate some first = drop_more text 0 0 some ∙ ap (λ g. g ∷ drop 1 text) first

-- a text that begins with an open gate and a length
pub size_first : (text : List ℕ) (size : ℕ) → 5 ≤ length text → get_or text 0 0 ≡ OPEN → length_bytes size ≡ take 4 (drop 1 text) → text ≡ OPEN ∷ (length_bytes size ++ drop 5 text)
size_first text size long first is =
    gate_first text OPEN (omega arith) first
    ∙ ap (λ l. OPEN ∷ l) (sym (take-append-drop 4 (drop 1 text)) ∙ ap (λ l. l ++ drop 4 (drop 1 text)) (sym is) ∙ ap (λ l. length_bytes size ++ l) (drop-drop 4 1 text))

-- a text that begins with a whole record
pub record_first : (text : List ℕ) (size : ℕ) → 5 + size ≤ length text → get_or text 0 0 ≡ OPEN → length_bytes size ≡ take 4 (drop 1 text)
    → length (take size (drop 5 text)) ≡ size → text ≡ record_text (take size (drop 5 text)) ++ drop size (drop 5 text)
unfolding record_text
record_first text size long first is fits =
    let payload = take size (drop 5 text) in
    size_first text size (omega (arith, long)) first is
    ∙ ap (λ (l : List ℕ). OPEN ∷ (length_bytes size ++ l)) (sym (take-append-drop size (drop 5 text)))
    ∙ ap (λ n. OPEN ∷ (length_bytes n ++ (payload ++ drop size (drop 5 text)))) (sym fits)
    ∙ ap (λ (l : List ℕ). OPEN ∷ l) (sym (append_assoc (length_bytes (length payload)) payload (drop size (drop 5 text))))

-- a text that begins with a whole head
pub head_first : (text : List ℕ) (generation size : ℕ) → 13 ≤ length text → get_or text 0 0 ≡ OPEN → eight_bytes generation ≡ take 8 (drop 1 text) → length_bytes size ≡ take 4 (drop 9 text)
    → text ≡ head_text generation size ++ drop 13 text
unfolding head_text
head_first text generation size long first is_generation is_size =
    gate_first text OPEN (omega arith) first
    ∙ ap (λ (l : List ℕ). OPEN ∷ l) (sym (take-append-drop 8 (drop 1 text)) ∙ ap (λ (l : List ℕ). l ++ drop 8 (drop 1 text)) (sym is_generation) ∙ ap (λ (l : List ℕ). eight_bytes generation ++ l) (drop-drop 8 1 text))
    ∙ ap (λ (l : List ℕ). OPEN ∷ (eight_bytes generation ++ l)) (sym (take-append-drop 4 (drop 9 text)) ∙ ap (λ (l : List ℕ). l ++ drop 4 (drop 9 text)) (sym is_size) ∙ ap (λ (l : List ℕ). length_bytes size ++ l) (drop-drop 4 9 text))
    ∙ ap (λ (l : List ℕ). OPEN ∷ l) (sym (append_assoc (eight_bytes generation) (length_bytes size) (drop 13 text)))
