use Rattle.step_sets.specs.Exits.{IsExited}
use Rattle.microstep.proofs.ExitLemmas.{if-ok}
use Rattle.microstep.proofs.MoveLemmas.{set-moved}
use Rattle.microstep.proofs.moves.left_by.Goals as goal

pub returns-in-Some : goal.returns-in-Some
returns-in-Some c =
    if-ok c.exit_set.result
    (λ exits set. set-moved {F = λ d n. IsExited c.args.def.now.tree c.args.active.now d n} c.args.def.now c.len-nodes.ensures.tree c.args.transition.now c.in-Some.domain exits c.in-Some.ensures.0 set)
    c.exit_set.ensures.exits
