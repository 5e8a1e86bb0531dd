use Rattle.std.proofs.Common.{sym, ap}
use Rattle.std.specs.List.{enumerate_from}
use Rattle.microstep.specs.Readings.{looking_of}
use Rattle.microstep.specs.Selection.{first_enabled}
use Rattle.microstep.proofs.FirstLemmas.{filter-all}
use Rattle.microstep.proofs.candidates.first_of.Goals as goal

pub loop-place-init : goal.loop-place-init
loop-place-init c = ap (first_enabled (looking_of c.args.reading.now)) (sym (filter-all (enumerate_from 0 c.args.transitions.now)))
