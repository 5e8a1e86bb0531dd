use Rattle.std.proofs.Common.{ℕ, Ok, ap, ◌∙◌}
use Rattle.xs_model.specs.Eval.{scope_of}
use Rattle.node_tree.proofs.RisingLemmas.{found}
use Rattle.guard_eval.proofs.GuardLemmas.{among, value-In}
use Rattle.guard_eval.proofs.guard_value.+holds.Goals as goal

pub returns-in-In : goal.returns-in-In
returns-in-In t c =
    let nodes = c.args.nodes.now in
    let node : ℕ = c.in-In.node in
    rw (c.in-In.is, c.is_ok.ensures.value) (value-In (scope_of c.args.env.now) nodes node ∙ ap Ok (among node nodes _ (found nodes node _ c.requires c.binary_search.ensures.position)))
