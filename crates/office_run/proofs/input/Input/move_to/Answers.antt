use Rattle.std.proofs.Common.{◌≡◌, ◌+◌, ◌-◌, ◌≤◌, ◌∷◌, ◌++◌, List, [], ℕ, Bool, length, take, drop, refl, sym, ap, ◌∙◌, arith}
use Rattle.std.proofs.lemmas.List.{length-take-le}
use Rattle.xs_data.specs.Ascii.{line_feed}
use Rattle.office_run.specs.Input.{Taken}
use Rattle.office_run.proofs.InputLemmas.{window-length, window-drop, feed-some, feed-none}
use Rattle.office_run.proofs.input.Input.move_to.Goals as goal

pub returns-in_ok-push-in-Some-clause-ok : goal.returns-in_ok-push-in-Some-clause-ok
returns-in_ok-push-in-Some-clause-ok c =
    let i = c.self.inside in
    let pending : List ℕ = take (i.end - i.start) (drop i.start i.piece.items) in
    let found = rw c.deref.ensures.value at c.in-Some.ensures in
    let f = feed-some pending c.in-Some.place (sym found) in
    let wide = window-length i.start i.end i.piece.items c.self.invariant.ordered (omega (arith, i.piece.ok.0, c.self.invariant.within)) in
    let len = length-take-le c.in-Some.place pending (omega (arith, f.2)) in
    let behind = window-drop i.start i.end (c.in-Some.place + 1) i.piece.items (omega (arith, f.2, wide)) in
    let pushed = rw c.deref.ensures.value at c.in_ok-push-in-Some.ensures.ok in
    rw (← c.self.view_is) (
      take c.in-Some.place pending,
      (
        f.0 ∙ ap (λ rest. take c.in-Some.place pending ++ line_feed ∷ rest) behind,
        f.1,
        omega (arith, len, f.2, wide, c.self.invariant.counted, c.self.invariant.ordered),
        refl,
      ),
      pushed,
    )

-- where all that waits was used up
emptied : (start end taken : ℕ) (piece : List ℕ) (ended : Bool) → start ≤ end → end - start ≤ taken → length (take (end - start) (drop start piece)) ≡ end - start →
    ◌≡◌ {A = Taken}
    (record { used = taken - (end - end); pending = take (end - end) (drop end piece); ended = ended })
    (record { used = taken - (end - start) + length (take (end - start) (drop start piece)); pending = []; ended = ended })
emptied start end taken piece ended ordered counted wide =
    let nothing : end - end ≡ 0 = omega arith in
    let all : taken - (end - end) ≡ taken - (end - start) + length (take (end - start) (drop start piece)) = omega (arith, wide) in
    let used : ℕ → Taken = λ n. record { used = n; pending = take (end - end) (drop end piece); ended = ended } in
    let waits : ℕ → Taken = λ n. record { used = taken - (end - start) + length (take (end - start) (drop start piece)); pending = take n (drop end piece); ended = ended } in
    ap used all ∙ ap waits nothing

pub returns-in_ok-push-in-None-clause-ok : goal.returns-in_ok-push-in-None-clause-ok
returns-in_ok-push-in-None-clause-ok c =
    let i = c.self.inside in
    let pending : List ℕ = take (i.end - i.start) (drop i.start i.piece.items) in
    let found = rw c.deref.ensures.value at c.in-None.ensures in
    let wide = window-length i.start i.end i.piece.items c.self.invariant.ordered (omega (arith, i.piece.ok.0, c.self.invariant.within)) in
    let pushed = rw c.deref.ensures.value at c.in_ok-push-in-None.ensures.ok in
    rw (← c.self.view_is) (
      pending,
      (
        refl,
        feed-none pending (sym found),
        emptied i.start i.end i.taken i.piece.items i.ended c.self.invariant.ordered c.self.invariant.counted wide,
      ),
      pushed,
    )
