use Rattle.std.proofs.Common.{◌≡◌, drop}
use Rattle.flat_core.specs.FlatText.{each_of, machine_in}
use Rattle.flat_core.proofs.FlatLemmas.{with_front}
use Rattle.flat_core.proofs.flat_text.read_machines.Given as goal

-- what is read so far, put before what the rest means, is what the whole means
abbrev pub invariant-loop-text : goal.invariant-loop-text
invariant-loop-text l = with_front l.machines (each_of machine_in (drop l.text-index l.texts)) ≡ each_of machine_in l.texts
