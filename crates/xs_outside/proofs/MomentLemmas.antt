-- The moments of an output's bytes.
use Rattle.std.proofs.Common.{◌≡◌, ℕ, ◌+◌, ◌<◌, ◌≤◌, List, [], ◌∷◌, ◌++◌, length, replicate, refl, sym, ◌∙◌, ap, arith, append_assoc, length-append}
use Rattle.std.proofs.lemmas.List.{append-nil, length-replicate}
use Rattle.std.proofs.lemmas.List.Elements.{All-nil, All-replicate}
use Rattle.std.specs.Prelude.{Bool, true, false, IsTrue, Result, Ok, Err, OnOk, OnErr, is_err}
use Rattle.xs_outside.specs.Beside.{Stamped}
use Rattle.xs_outside.specs.declared.streams.Failed.{Failed as Refusal}
use Rattle.xs_outside.specs.declared.memory.buffers.Span.{Span}
use Rattle.xs_outside.specs.Spans.{moments_of}

-- a span more gives its moment to each of its bytes
pub moments_push : (spans : List Span) (span : Span) → moments_of (spans ++ span ∷ []) ≡ moments_of spans ++ replicate span.count span.moment
moments_push [] span = append-nil (replicate span.count span.moment)
moments_push (first ∷ spans) span = ap (λ l. replicate first.count first.moment ++ l) (moments_push spans span) ∙ sym (append_assoc (replicate first.count first.moment) (moments_of spans) (replicate span.count span.moment))

-- so there are as many more
pub moments_more : (spans : List Span) (span : Span) → length (moments_of (spans ++ span ∷ [])) ≡ length (moments_of spans) + span.count
moments_more spans span = ap length (moments_push spans span) ∙ length-append (moments_of spans) (replicate span.count span.moment) ∙ ap (λ n. length (moments_of spans) + n) (length-replicate span.count span.moment)

-- a write gives its bytes a moment after then, where it succeeds; where it fails there are none
pub stamped_by_write : (fails : Bool) (result : Result Unit Refusal) (then moment count : ℕ) (before after : List ℕ) → (IsTrue fails → IsTrue (is_err result)) → (fails ≡ false → then < moment)
    → OnOk result (after ≡ before ++ replicate count moment) → OnErr result (after ≡ before) → Stamped then moment before after
stamped_by_write true (Ok done) then moment count before after failed late stamped refused = absurd (cc (failed refl))
stamped_by_write false (Ok done) then moment count before after failed late stamped refused =
    (replicate count moment, stamped, All-replicate (λ m. (then < m) × (m ≤ moment)) count moment (late refl, omega arith))
stamped_by_write fails (Err error) then moment count before after failed late stamped refused =
    ([], refused ∙ sym (append-nil before), All-nil (λ m. (then < m) × (m ≤ moment)))
