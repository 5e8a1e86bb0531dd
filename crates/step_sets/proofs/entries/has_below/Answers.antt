use Rattle.std.specs.BTreeSet.{contains}
use Rattle.std.specs.Ordering.{nat_cmp}
use Rattle.step_sets.proofs.PathLemmas.{first_tells}
use Rattle.step_sets.proofs.entries.has_below.Goals as goal

pub returns-in-Some : goal.returns-in-Some
returns-in-Some c =
    first_tells c.args.tree.now c.len-nodes.ensures.tree (contains nat_cmp c.args.nodes.now) c.args.high c.in-Some.next.now c.below.result c.requires.after c.in-Some.ensures.member c.in-Some.ensures.least c.below.ensures
