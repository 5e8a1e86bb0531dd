use Rattle.std.proofs.Common.{◌≡◌}
use Rattle.xs_model.specs.Eval.{scope_of}
use Rattle.microstep.specs.Actions.{members_assigned}
use Rattle.microstep.proofs.AssignLemmas.{assigned_from}
use Rattle.microstep.proofs.assignment.members_in.Given as goal

-- the members so far and those to come
abbrev pub invariant-loop-key : goal.invariant-loop-key
invariant-loop-key l = members_assigned (scope_of l.env) l.key-items ≡ assigned_from (scope_of l.env) l.members.items l.key-items l.key-index
