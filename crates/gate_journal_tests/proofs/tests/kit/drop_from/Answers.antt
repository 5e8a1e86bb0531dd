use Rattle.std.proofs.Common.{IsTrue, rules, subst}
use Rattle.std.specs.Prelude.{Some, IsSome}
use Rattle.gate_journal.specs.Journal.{last_of, without_last}
use Rattle.gate_journal.proofs.InUseLemmas.{stands_for_one}
use Rattle.gate_journal_tests.proofs.tests.kit.drop_from.Goals as goal

pub returns-in-Ok : goal.returns-in-Ok
returns-in-Ok g c done = record {
  usable = c.in-Ok.ensures.leaves.0;
  stands = λ honest.
      let before = subst IsTrue c.drop_last.ensures.call.honest honest in
      let old = c.requires.stands before in
      let some : IsSome (last_of c.args.journal.now) = search rules in
      let one = stands_for_one old.0 (g.D.Disk.state c.args.journal.now.disk) c.args.journal.now old.1 some in
      (Some (without_last one.0), c.in-Ok.ensures.dropped one.0 before one.1);
}
