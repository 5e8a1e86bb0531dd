use Rattle.microstep.specs.Micro.{Leaves}
use Rattle.microstep.proofs.ExitLemmas.{if-ok, transition-numbers}
use Rattle.microstep.proofs.MoveLemmas.{found-moved, none-moved}
use Rattle.microstep.proofs.moves.left_at.Goals as goal

pub left_by-requires-clause-source : goal.left_by-requires-clause-source
left_by-requires-clause-source c = (transition-numbers c.requires.well_formed.0 c.args.def.now c.requires.well_formed.1 c.args.eventless c.args.place c.in-Some.transition.now c.in-Some.ensures).source

pub left_by-requires-clause-targets : goal.left_by-requires-clause-targets
left_by-requires-clause-targets c = (transition-numbers c.requires.well_formed.0 c.args.def.now c.requires.well_formed.1 c.args.eventless c.args.place c.in-Some.transition.now c.in-Some.ensures).targets

pub returns-in-Some : goal.returns-in-Some
returns-in-Some c = if-ok c.left_by.result (λ left set. found-moved (Leaves c.args.def.now c.args.active.now) _ _ left c.in-Some.ensures set) c.left_by.ensures

pub returns-in-None : goal.returns-in-None
returns-in-None c = rw (c.from_rising.ensures, c.new.ensures) (none-moved (Leaves c.args.def.now c.args.active.now) _ c.in-None.ensures)
