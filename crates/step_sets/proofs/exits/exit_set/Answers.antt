use Rattle.std.proofs.Common.{◌<◌, length}
use Rattle.std.proofs.lemmas.List.Elements.{All-contains}
use Rattle.step_sets.proofs.SetLemmas.{All-from_set}
use Rattle.step_sets.proofs.exits.exit_set.Goals as goal

pub returns-clause-of_tree : goal.returns-clause-of_tree
returns-clause-of_tree c =
    let nodes = c.args.tree.now in
    rw (c.from_rising.ensures, c.from_vec.ensures, c.in_ok-exits.ensures.items)
    (All-from_set (λ n. n < length nodes) c.exits_in.result.now c.exits_in.ensures
    (λ n e. All-contains (λ n. n < length nodes) c.args.active.now n c.requires.active e.0))
