use Rattle.step_sets.specs.Entries.{IsEntered}
use Rattle.step_sets.specs.Goals.{goals_of}
use Rattle.microstep.proofs.ExitLemmas.{if-ok}
use Rattle.microstep.proofs.MoveLemmas.{set-moved}
use Rattle.microstep.proofs.moves.entered_by.Goals as goal

pub returns : goal.returns
returns c =
    let tree = c.args.def.now.tree in
    let targets = c.args.transition.now.targets in
    if-ok c.entry_set.result
    (λ entries set. set-moved {F = λ d n. IsEntered tree (goals_of tree c.args.history.now targets) d n} c.args.def.now c.len-nodes.ensures.tree c.args.transition.now c.in-Some.domain entries c.in-Some.ensures.0 set)
    (rw (c.as_slice-2.ensures, c.in_ok-goals.ensures.goals, c.as_slice.ensures) at c.entry_set.ensures.entries)
