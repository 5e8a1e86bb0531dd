use Rattle.macrostep_tests.proofs.tests.random_machines.+events_agree.Given as goal

abbrev pub decreases-events_agree : goal.decreases-events_agree
decreases-events_agree g l = l.count
