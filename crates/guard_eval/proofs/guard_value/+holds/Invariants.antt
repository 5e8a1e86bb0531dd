use Rattle.std.proofs.Common.{◌≡◌}
use Rattle.xs_model.specs.Eval.{scope_of}
use Rattle.guard_eval.specs.Guards.{guard_value}
use Rattle.guard_eval.proofs.GuardLemmas.{all_from, any_from}
use Rattle.guard_eval.proofs.guard_value.+holds.Given as goal

abbrev pub invariant-loop-part : goal.invariant-loop-part
invariant-loop-part l = guard_value (scope_of l.env) l.nodes l.guard ≡ all_from (guard_value (scope_of l.env) l.nodes) l.part-items l.part-index

abbrev pub invariant-loop-part-2 : goal.invariant-loop-part-2
invariant-loop-part-2 l = guard_value (scope_of l.env) l.nodes l.guard ≡ any_from (guard_value (scope_of l.env) l.nodes) l.part-items l.part-index
