use Rattle.std.proofs.Common.{◌≡◌, ℕ, List, fold}
use Rattle.xs_model.specs.declared.value.Value.{Value, out-Value}
use Rattle.xs_model.specs.Rising.{put}
use Rattle.microstep.specs.Actions.{members_in}
use Rattle.microstep.proofs.assignment.with_members.Given as goal

-- the members so far are put
abbrev pub invariant-loop-key : goal.invariant-loop-key
invariant-loop-key l = l.fields ≡ fold (λ (done : List (List ℕ × Value)) (member : List ℕ × Value). put done member.0 member.1) (members_in (out-Value l.fn.context)) l.yielded
