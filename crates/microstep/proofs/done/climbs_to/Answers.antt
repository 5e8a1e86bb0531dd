use Rattle.microstep.proofs.done.climbs_to.Goals as goal

pub is_parallel-requires : goal.is_parallel-requires
is_parallel-requires c = c.requires.configuration.legal.of_tree c.args.high c.requires.active
