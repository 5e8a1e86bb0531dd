use Rattle.microstep.specs.Micro.{Enters}
use Rattle.microstep.proofs.ExitLemmas.{if-ok, transition-numbers}
use Rattle.microstep.proofs.MoveLemmas.{found-moved, none-moved}
use Rattle.microstep.proofs.moves.entered_at.Goals as goal

pub entered_by-requires-clause-source : goal.entered_by-requires-clause-source
entered_by-requires-clause-source c = (transition-numbers c.requires.well_formed.0 c.args.def.now c.requires.well_formed.1 c.args.eventless c.args.place c.in-Some.transition.now c.in-Some.ensures).source

pub entered_by-requires-clause-targets : goal.entered_by-requires-clause-targets
entered_by-requires-clause-targets c = (transition-numbers c.requires.well_formed.0 c.args.def.now c.requires.well_formed.1 c.args.eventless c.args.place c.in-Some.transition.now c.in-Some.ensures).targets

pub returns-in-Some : goal.returns-in-Some
returns-in-Some c = if-ok c.entered_by.result (λ entered set. found-moved (Enters c.args.def.now c.args.history.now) _ _ entered c.in-Some.ensures set) c.entered_by.ensures

pub returns-in-None : goal.returns-in-None
returns-in-None c = rw (c.from_rising.ensures, c.new.ensures) (none-moved (Enters c.args.def.now c.args.history.now) _ c.in-None.ensures)
