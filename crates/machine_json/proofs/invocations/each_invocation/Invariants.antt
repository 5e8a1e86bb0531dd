use Rattle.std.proofs.Common.{take}
use Rattle.machine_json.specs.Meaning.{AreInvocations}
use Rattle.machine_json.proofs.invocations.each_invocation.Given as goal

abbrev pub invariant-loop-place : goal.invariant-loop-place
invariant-loop-place l = AreInvocations l.node (take l.place l.jsons) l.invocations.items
