use Rattle.std.proofs.Common.{◌∙◌}
use Rattle.action_table.proofs.OfficeLemmas.{named-place, outline-at}
use Rattle.action_table.proofs.definitions.Defs.machine_named.Goals as goal

pub returns-clause-number : goal.returns-clause-number
returns-clause-number c = c.number_of.ensures.number ∙ named-place c.args.self.now c.args.id.now

pub returns-clause-own : goal.returns-clause-own
returns-clause-own c n machine at is =
    let found = outline-at c.args.self.now n machine at in
    c.number_of.ensures.own n found.0 found.1 (found.2 ∙ is)
