use Rattle.guard_eval.specs.declared.def.Invocation.{Invocation}
use Rattle.microstep.specs.Acts.{Act, after_act, after_acts, invokes}
use Rattle.std.proofs.Common.{◌≡◌}
use Rattle.microstep.proofs.TurnLemmas.{turn_from}
use Rattle.microstep.proofs.entries.begin_invocations.Given as goal

-- what is done so far, and what is left to do
abbrev pub invariant-loop-invocation : goal.invariant-loop-invocation
invariant-loop-invocation l = after_acts l.event (invokes l.invocations) l.fn.progress ≡ turn_from (λ (invocation : Invocation). after_act l.event (Act.Invoke invocation)) l.invocations l.invocation-index l.progress
