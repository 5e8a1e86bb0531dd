use Rattle.microstep.proofs.done.climbs.Goals as goal

pub parent-requires : goal.parent-requires
parent-requires c = c.requires.configuration.legal.of_tree c.args.low c.requires.active
