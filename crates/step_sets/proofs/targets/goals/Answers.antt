use Rattle.std.proofs.lemmas.List.{take_all}
use Rattle.step_sets.proofs.TargetLemmas.{goals_inside}
use Rattle.step_sets.proofs.targets.goals.Goals as goal

pub returns-clause-of_tree : goal.returns-clause-of_tree
returns-clause-of_tree c =
    let targets = c.args.targets.now in
    rw (c.from_vec.ensures, c.loop-target.invariant, take_all c.loop-target.target-index targets c.loop-target-test.false)
    (goals_inside c.args.tree.now c.len-nodes.ensures.tree c.args.history.now c.requires.history targets c.requires.targets)
