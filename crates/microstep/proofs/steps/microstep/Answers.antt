use Rattle.microstep.proofs.steps.microstep.Goals as goal

pub returns-clause-leaves : goal.returns-clause-leaves
returns-clause-leaves c = rw c.in_ok-own.ensures at c.advance.ensures.leaves
