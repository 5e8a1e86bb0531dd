use Rattle.std.proofs.Common.{◌≡◌, map}
use Rattle.xs_model.specs.Eval.{scope_of, outcome, list_of, map_of}
use Rattle.xs_model.proofs.EvalLemmas.{rest_of, list_from, map_from, part_of}
use Rattle.xs_model.proofs.evaluation.+eval.Given as goal

abbrev pub invariant-list_of-loop-part : goal.invariant-list_of-loop-part
invariant-list_of-loop-part l = list_of (map (outcome (scope_of l.env)) l.part-items) ≡ rest_of (outcome (scope_of l.env)) (list_from l.members.items) l.part-items l.part-index

abbrev pub invariant-map_of-loop-key : goal.invariant-map_of-loop-key
invariant-map_of-loop-key l = map_of (map (λ part. (part.0, outcome (scope_of l.env) part.1)) l.key-items) ≡ rest_of (part_of (scope_of l.env)) (map_from l.members) l.key-items l.key-index
