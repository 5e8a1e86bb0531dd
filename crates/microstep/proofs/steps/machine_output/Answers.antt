use Rattle.std.proofs.Common.{refl}
use Rattle.microstep.specs.Micro.{machine_output}
use Rattle.microstep.specs.Progress.{progress_of}
use Rattle.microstep.proofs.StepLemmas.{answered-given}
use Rattle.microstep.proofs.steps.machine_output.Goals as goal

pub returns : goal.returns
returns c =
    let progress = progress_of c.args.own.now in
    answered-given (machine_output c.args.def.now c.args.own.now.nodes c.args.event.now progress) c.output.result (rw c.as_slice.ensures at (c.output.ensures progress refl))
