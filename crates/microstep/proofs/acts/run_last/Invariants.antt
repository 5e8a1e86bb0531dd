use Rattle.std.proofs.Common.{◌≡◌, ℕ, reverse}
use Rattle.std.specs.List.{flat_map}
use Rattle.microstep.specs.Acts.{after_acts, last_acts}
use Rattle.microstep.proofs.ActLemmas.{back_from}
use Rattle.microstep.proofs.acts.run_last.Given as goal

-- what is done so far, and what is left to do
abbrev pub invariant-loop-i : goal.invariant-loop-i
invariant-loop-i l =
    after_acts l.event (flat_map (last_acts l.def) (reverse l.nodes)) l.fn.progress ≡ back_from (λ (n : ℕ). after_acts l.event (last_acts l.def n)) l.nodes l.i l.progress
