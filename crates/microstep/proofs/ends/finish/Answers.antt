use Rattle.std.proofs.Common.{refl, rules}
use Rattle.microstep.specs.Micro.{after_end}
use Rattle.microstep.specs.Progressing.{IsNamed}
use Rattle.microstep.proofs.EndLemmas.{end-wrong}
use Rattle.microstep.proofs.ends.finish.Goals as goal

pub returns-in_err-_output : goal.returns-in_err-_output
returns-in_err-_output c =
    let known : IsNamed c.in_err-_output.field-0.0 (after_end c.args.def.now c.args.configuration.now c.args.event.now c.args.progress.now) =
    end-wrong c.args.def.now c.args.configuration.now c.args.event.now c.args.progress.now c.run_last.new.progress c.in_err-_output.field-0.0 c.in_ok-run_last.ensures
    (c.in_err-_output.ensures c.run_last.new.progress refl) in
    search (rules, known)
