-- Byte strings that lie in one buffer.
use Rattle.std.proofs.Common.{◌≡◌, ℕ, zero, suc, ◌-◌, ◌<◌, ◌≤◌, List, [], ◌∷◌, ◌++◌, length, get_or, take, drop, refl, sym, ◌∙◌, ap, arith, length-append, length-drop}
use Rattle.std.specs.Prelude.{slice_get, Some, None}
use Rattle.std.proofs.lemmas.List.{take_all, take-append-le, drop-append-le, drop_at}
use Rattle.gate_journal.specs.Pieces.{pieces, Ends, start_of}

pub Ends-le : (from : ℕ) (ends : List ℕ) (last : ℕ) → Ends from ends last → from ≤ last
Ends-le from [] last is = omega (arith, is)
Ends-le from (end ∷ ends) last is = omega (arith, is.0, Ends-le end ends last is.1)

pub Ends-push : (from : ℕ) (ends : List ℕ) (last more : ℕ) → Ends from ends last → last ≤ more → Ends from (ends ++ more ∷ []) more
Ends-push from [] last more is le = (omega (arith, is, le), refl)
Ends-push from (end ∷ ends) last more is le = (is.0, Ends-push end ends last more is.1 le)

pub length-pieces : (bytes : List ℕ) (from : ℕ) (ends : List ℕ) → length (pieces bytes from ends) ≡ length ends
length-pieces bytes from [] = refl
length-pieces bytes from (end ∷ ends) = ap suc (length-pieces bytes end ends)

-- one piece more, behind the others
pub pieces-push : (bytes more : List ℕ) (from : ℕ) (ends : List ℕ) → Ends from ends (length bytes)
    → pieces (bytes ++ more) from (ends ++ length (bytes ++ more) ∷ []) ≡ pieces bytes from ends ++ more ∷ []
pieces-push bytes more from [] is =
    ap (λ (l : List ℕ). l ∷ []) (
    ap (λ (l : List ℕ). take (length (bytes ++ more) - from) l) (drop_at bytes more from (sym is))
    ∙ take_all (length (bytes ++ more) - from) more (omega (arith, is, length-append bytes more))
    )
pieces-push bytes more from (end ∷ ends) is =
    let inside : end ≤ length bytes = Ends-le end ends (length bytes) is.1 in
    let room : end - from ≤ length (drop from bytes) = omega (arith, inside, is.0, length-drop from bytes) in
    let same : take (end - from) (drop from (bytes ++ more)) ≡ take (end - from) (drop from bytes) =
    ap (λ (l : List ℕ). take (end - from) l) (drop-append-le from bytes more (omega (arith, inside, is.0))) ∙ take-append-le (end - from) (drop from bytes) more room in
    ap (λ (l : List ℕ). l ∷ pieces (bytes ++ more) end (ends ++ length (bytes ++ more) ∷ [])) same
    ∙ ap (λ (l : List (List ℕ)). take (end - from) (drop from bytes) ∷ l) (pieces-push bytes more end ends is.1)

-- where a piece starts, of those from a place on
abbrev pub start_from : ℕ → List ℕ → ℕ → ℕ
start_from from ends zero = from
start_from from ends (suc i) = get_or ends i 0

pub start_from_0 : (ends : List ℕ) (i : ℕ) → start_of ends i ≡ start_from 0 ends i
start_from_0 ends zero = refl
start_from_0 ends (suc i) = refl

pub pieces-get : (bytes : List ℕ) (from : ℕ) (ends : List ℕ) (i : ℕ) → i < length ends
    → slice_get (pieces bytes from ends) i ≡ Some (take (get_or ends i 0 - start_from from ends i) (drop (start_from from ends i) bytes))
pieces-get bytes from [] i lt = absurd (omega (arith, lt))
pieces-get bytes from (end ∷ ends) zero lt = refl
pieces-get bytes from (end ∷ ends) (suc zero) lt = pieces-get bytes end ends zero (omega (arith, lt))
pieces-get bytes from (end ∷ ends) (suc (suc i)) lt = pieces-get bytes end ends (suc i) (omega (arith, lt))

pub pieces-get_past : (bytes : List ℕ) (from : ℕ) (ends : List ℕ) (i : ℕ) → length ends ≤ i → slice_get (pieces bytes from ends) i ≡ None
pieces-get_past bytes from [] i le = refl
pieces-get_past bytes from (end ∷ ends) zero le = absurd (omega (arith, le))
pieces-get_past bytes from (end ∷ ends) (suc i) le = pieces-get_past bytes end ends i (omega (arith, le))

-- each piece starts before it ends, inside
pub Ends-get : (from : ℕ) (ends : List ℕ) (last i : ℕ) → Ends from ends last → i < length ends → (start_from from ends i ≤ get_or ends i 0) × (get_or ends i 0 ≤ last)
Ends-get from [] last i is lt = absurd (omega (arith, lt))
Ends-get from (end ∷ ends) last zero is lt = (is.0, Ends-le end ends last is.1)
Ends-get from (end ∷ ends) last (suc zero) is lt = Ends-get end ends last zero is.1 (omega (arith, lt))
Ends-get from (end ∷ ends) last (suc (suc i)) is lt = Ends-get end ends last (suc i) is.1 (omega (arith, lt))

-- the same of all pieces
pub start_of-le : (ends : List ℕ) (last i : ℕ) → Ends 0 ends last → i < length ends → start_of ends i ≤ get_or ends i 0
start_of-le ends last i is lt = omega (arith, start_from_0 ends i, (Ends-get 0 ends last i is lt).0)

pub pieces-at : (bytes ends : List ℕ) (i : ℕ) → i < length ends → slice_get (pieces bytes 0 ends) i ≡ Some (take (get_or ends i 0 - start_of ends i) (drop (start_of ends i) bytes))
pieces-at bytes ends i lt = pieces-get bytes 0 ends i lt ∙ ap (λ n. Some (take (get_or ends i 0 - n) (drop n bytes))) (sym (start_from_0 ends i))
