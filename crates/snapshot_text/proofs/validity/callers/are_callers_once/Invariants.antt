use Rattle.std.proofs.Common.{◌≡◌, map, take}
use Rattle.office_types.specs.declared.office.Caller.{Caller}
use Rattle.snapshot_text.proofs.validity.callers.are_callers_once.Given as goal

abbrev pub invariant-loop-caller : goal.invariant-loop-caller
invariant-loop-caller l = map (λ text. text.now) l.names.items ≡ map (λ (caller : Caller). caller.name) (take l.caller-index l.callers)
