use Rattle.std.specs.List.{flat_map}
use Rattle.microstep.specs.Acts.{after_acts}
use Rattle.microstep.specs.Selection.{Place}
use Rattle.microstep.specs.Working.{acts_at}
use Rattle.std.proofs.Common.{◌≡◌}
use Rattle.microstep.proofs.TurnLemmas.{turn_from}
use Rattle.microstep.proofs.acts.act_all.Given as goal

-- what is done so far, and what is left to do
abbrev pub invariant-loop-place : goal.invariant-loop-place
invariant-loop-place l = after_acts l.event (flat_map (acts_at l.def l.eventless) l.places) l.fn.progress ≡ turn_from (λ (place : Place). after_acts l.event (acts_at l.def l.eventless place)) l.places l.place-index l.progress
