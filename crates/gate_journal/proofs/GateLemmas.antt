-- What a crash leaves of a text that is written behind a closed gate, and of the gate.
use Rattle.std.proofs.Common.{◌≡◌, inl, inr, ℕ, ◌+◌, ◌<◌, ◌≤◌, List, [], ◌∷◌, ◌++◌, length, get_or, take, drop, sym, ◌∙◌, ap, arith, append_assoc, length-append, take-append-drop}
use Rattle.std.proofs.lemmas.List.{drop_at, drop_more, take-take, take-append-le, length-take-le}
use Rattle.xs_outside.specs.declared.Side.{Side}
use Rattle.xs_outside.specs.Disk.{Sides, DiskState, on, Changes, Torn, Written, AllSince, Later}
use Rattle.xs_outside.proofs.ImageLemmas.{since_joined}
use Rattle.gate_journal.specs.Gate.{IsOpening, StandsBehind}

module _ (gate : ℕ) (text old mid : List ℕ) (room : gate + 1 ≤ length old) (written : Written (gate + 1) text old mid) where
  front_size : length (take (gate + 1) old) ≡ gate + 1
  front_size = length-take-le (gate + 1) old room

  -- the written side, cut behind the gate
  split : mid ≡ take (gate + 1) old ++ (text ++ drop (gate + 1 + length text) old)
  split = written ∙ append_assoc (take (gate + 1) old) text (drop (gate + 1 + length text) old)

  pub written_behind : drop (gate + 1) mid ≡ text ++ drop (gate + 1 + length text) old
  written_behind = ap (λ (l : List ℕ). drop (gate + 1) l) split ∙ drop_at (take (gate + 1) old) (text ++ drop (gate + 1 + length text) old) (gate + 1) front_size

  pub written_front : take gate mid ≡ take gate old
  written_front =
      ap (λ (l : List ℕ). take gate l) split
      ∙ take-append-le gate (take (gate + 1) old) (text ++ drop (gate + 1 + length text) old) (omega (arith, front_size))
      ∙ take-take gate (gate + 1) old (omega arith)

  written_length : gate + 1 ≤ length mid
  written_length = omega (arith, ap length split, front_size, length-append (take (gate + 1) old) (text ++ drop (gate + 1 + length text) old))

  -- a side with this front and this back, round one byte
  joined : (byte : ℕ) (new : List ℕ) → new ≡ take gate mid ++ byte ∷ drop (gate + 1) mid → StandsBehind byte gate text old new
  joined byte new is =
      is
      ∙ ap (λ (l : List ℕ). l ++ byte ∷ drop (gate + 1) mid) written_front
      ∙ ap (λ (l : List ℕ). take gate old ++ byte ∷ l) written_behind
      ∙ sym (append_assoc (take gate old) (byte ∷ text) (drop (gate + 1 + length text) old))

  -- each outcome of the write of the gate
  pub gate_torn : (new : List ℕ) → Torn gate 1 mid new → (byte : ℕ) × StandsBehind byte gate text old new
  gate_torn new torn =
      let byte = get_or new gate 0 in
      let long : gate < length new = omega (arith, torn.no_shorter, written_length) in
      let back : drop gate new ≡ byte ∷ drop (gate + 1) mid = drop_more new gate 0 long ∙ ap (λ (l : List ℕ). byte ∷ l) torn.after in
      (byte, joined byte new (sym (take-append-drop gate new) ∙ ap (λ (l : List ℕ). l ++ drop gate new) torn.before ∙ ap (λ (l : List ℕ). take gate mid ++ l) back))

  -- the gate is written
  pub gate_written : (byte : ℕ) (new : List ℕ) → Written gate (byte ∷ []) mid new → StandsBehind byte gate text old new
  gate_written byte new is = joined byte new (is ∙ append_assoc (take gate mid) (byte ∷ []) (drop (gate + 1) mid))

-- the same of one side of a disk
pub gate_images : (side : Side) (gate : ℕ) (text : List ℕ) (old mid new : DiskState) → gate + 1 ≤ length (on side old.content) → AllSince old.clock (Changes side (Torn (gate + 1) (length text)) old.content) mid
    → Changes side (Written (gate + 1) text) old.content mid.content → Later mid new → AllSince mid.clock (Changes side (Torn gate 1) mid.content) new → AllSince old.clock (Changes side (IsOpening gate text) old.content) new
gate_images side gate text old mid new room first written time second =
    since_joined old.clock (Changes side (IsOpening gate text) old.content) mid new
    (λ moment image from to left. let torn = first moment image from to left in (inl torn.0.before, torn.1))
    time
    (λ moment image from to left. let torn = second moment image from to left in (inr (gate_torn gate text (on side old.content) (on side mid.content) room written.0 (on side image) torn.0), torn.1 ∙ written.1))

pub gate_stands : (side : Side) (gate byte : ℕ) (text : List ℕ) (old mid new : Sides) → gate + 1 ≤ length (on side old) → Changes side (Written (gate + 1) text) old mid → Changes side (Written gate (byte ∷ [])) mid new
    → Changes side (StandsBehind byte gate text) old new
gate_stands side gate byte text old mid new room first second =
    (gate_written gate text (on side old) (on side mid) room first.0 byte (on side new) second.0, second.1 ∙ first.1)
