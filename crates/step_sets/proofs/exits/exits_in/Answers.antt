use Rattle.step_sets.proofs.exits.exits_in.Goals as goal

pub returns-in-Node : goal.returns-in-Node
returns-in-Node c = rw (c.in-Node.is, ← c.as_slice.ensures.nodes) c.run_below.ensures
