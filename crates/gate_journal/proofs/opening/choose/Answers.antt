use Rattle.std.proofs.Common.{inl, inr, drop}
use Rattle.gate_journal.specs.declared.parts.TheConstants.{HEAD}
use Rattle.gate_journal.proofs.FrontLemmas.{head_length}
use Rattle.gate_journal.proofs.opening.choose.Goals as goal

pub returns-in-Short-head_of-2 : goal.returns-in-Short-head_of-2
returns-in-Short-head_of-2 c =
    inl (c.in-Short-head_of-2.ensures, inr (head_length c.in-Open.generation c.in-Open.size (drop HEAD c.args.a.now) c.args.a.now c.in-Open.ensures))
