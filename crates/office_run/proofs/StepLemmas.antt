-- What a write after a line that was taken keeps, and how a conversation ends where the input is too long.
use Rattle.std.proofs.Common.{◌≡◌, ◌⊎◌, ℕ, List, take, Option, Some, subst, sym, ap, ◌∙◌, inl, inr}
use Rattle.std.specs.Io.KnownBytes.{append_known}
use Rattle.xs_outside.specs.Counts.{Rose}
use Rattle.flat_core.specs.declared.flat.FlatMachine.{FlatMachine}
use Rattle.office_run.specs.declared.program.TheConstants.{TOO_LONG}
use Rattle.office_run.specs.declared.status.Status.{Status}
use Rattle.office_run.specs.declared.status.Status.TheVariants as status
use Rattle.office_run.specs.Input.{Inflow, IsEndedLine, IsLastLine, IsNextLine, IsTooMuch}
use Rattle.office_run.specs.Printing.{WritesPart}
use Rattle.office_run.specs.Status.{StationFaults, CountsFaults}
use Rattle.office_run.specs.Step.{RunState, Steps}

-- a line that came next before a write has come next after it
pub next-kept : (old mid new : Inflow) (line : List ℕ) → IsNextLine old mid line → new.input ≡ mid.input → new.left ≡ mid.left → IsNextLine old new line
next-kept old mid new line is input left = record { no_feed = is.no_feed; goes_on = is.goes_on; ends = either is.ends }
  where
    either : IsEndedLine old mid line ⊎ IsLastLine old mid line → IsEndedLine old new line ⊎ IsLastLine old new line
    either (inl fed) = inl (record {
      whole = rw (input, left) fed.whole;
      used = ap (λ i. i.used) input ∙ fed.used;
      ended = ap (λ i. i.ended) input ∙ fed.ended;
    })
    either (inr rest) = inr (record {
      whole = rw left rest.whole;
      uses = rw input rest.uses;
      at_end = rw left rest.at_end;
      some = rest.some;
      ended = ap (λ i. i.ended) input ∙ rest.ended;
    })

-- an input that is too long before a write is so after it
kept : (old mid new : Inflow) → IsTooMuch old mid → new.input ≡ mid.input → new.left ≡ mid.left → IsTooMuch old new
kept old mid new much input left = record {
  seen = much.seen;
  byte = much.byte;
  uses = rw input much.uses;
  whole = rw left much.whole;
  goes_on = much.goes_on;
  full = ap (λ i. i.used) input ∙ much.full;
}

-- the same counts, of both ends
pub same_faults : (old new : StationFaults) → new.reads ≡ old.reads → new.writes ≡ old.writes → new ≡ old
same_faults old new reads writes =
    let of : ℕ → ℕ → StationFaults = λ r w. record { reads = r; writes = w } in
    ap (λ r. of r new.writes) reads ∙ ap (λ w. of old.reads w) writes

-- a text is written, or the write failed: the counts that the end blames rose
pub counts-print : {A B : Type 0} (result end : Status) (old new : StationFaults) → ((f : StationFaults) → CountsFaults end f f) → new.reads ≡ old.reads →
    ((result ≡ end) × A × (new.writes ≡ old.writes)) ⊎ ((result ≡ status.WriteFault) × B × Rose old.writes new.writes) → CountsFaults result old new
counts-print result end old new quiet reads (inl whole) =
    subst (λ r. CountsFaults r old new) (sym whole.0) (subst (λ f. CountsFaults end old f) (sym (same_faults old new reads whole.2)) (quiet old))
counts-print result end old new quiet reads (inr part) = subst (λ r. CountsFaults r old new) (sym part.0) (reads, part.2)

pub steps-too_much : {A B : Type 0} (machines : List FlatMachine) (old new : RunState) (mid : Inflow) (written : Option (List ℕ)) (result : Status) →
    IsTooMuch old.inflow mid → new.inflow.input ≡ mid.input → new.inflow.left ≡ mid.left → written ≡ old.written →
    ((result ≡ status.InputLong) × (new.written ≡ append_known written TOO_LONG.now) × A) ⊎ ((result ≡ status.WriteFault) × WritesPart written new.written TOO_LONG.now × B) → Steps machines (Some result) old new
steps-too_much machines old new mid written result much input left same (inl whole) =
    subst (λ r. Steps machines (Some r) old new) (sym whole.0) (kept old.inflow mid new.inflow much input left, whole.1 ∙ ap (λ w. append_known w TOO_LONG.now) same)
steps-too_much machines old new mid written result much input left same (inr part) =
    let steps : Steps machines (Some status.WriteFault) old new = inr (record {
      too_much = kept old.inflow mid new.inflow much input left;
      count = part.1.0;
      written = part.1.1 ∙ ap (λ w. append_known w (take part.1.0 TOO_LONG.now)) same;
    }) in
    subst (λ r. Steps machines (Some r) old new) (sym part.0) steps
