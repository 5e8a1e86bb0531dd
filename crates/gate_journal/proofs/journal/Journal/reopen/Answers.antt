use Rattle.std.proofs.Common.{IsTrue, ℕ, refl, subst, sym, ◌∙◌, rules}
use Rattle.std.specs.declared.option.Option.{Option}
use Rattle.xs_outside.specs.declared.Side.{Side}
use Rattle.xs_outside.specs.Disk.{Sides}
use Rattle.gate_journal.specs.declared.held.Held.{Held}
use Rattle.gate_journal.specs.declared.opening.Found.{Found}
use Rattle.gate_journal.specs.Found.{IsFound}
use Rattle.gate_journal.specs.Sides.{AreBadAt}
use Rattle.gate_journal.proofs.OkLemmas.{if_sides_bad_weaker, not_failed}
use Rattle.gate_journal.proofs.OpenedLemmas.{knows_held}
use Rattle.gate_journal.proofs.journal.Journal.reopen.Goals as goal

pub returns-in-Ok-clause-opened : goal.returns-in-Ok-clause-opened
returns-in-Ok-clause-opened g c honest =
    let one = g.D.Disk.state c.sync_both.new.disk in
    let two = g.D.Disk.state c.read_sides.new.disk in
    let still : IsTrue one.honest = subst IsTrue (sym c.sync_both.ensures.call.honest) honest in
    let settled = not_failed c.sync_both.result (search rules) c.sync_both.ensures.settled honest in
    let reads = c.read_sides.ensures.reads in
    let found = subst (λ (s : Sides). IsFound c.in-Ok.found s) (sym reads.content) (c.in-Ok.ensures.found still) in record {
      open_for_calls = refl;
      settled = λ image left. settled image ((reads.images image).0 left) ∙ sym reads.content;
      sides = found.hold;
      knows = knows_held c.in-Ok.found.held c.in-Ok.found.end c.current_of-self.result two.content c.current_of-self.ensures found.hold found.ends;
      ready_a = found.ready_a;
      ready_b = found.ready_b;
    }

pub returns-in-Err-clause-bad : goal.returns-in-Err-clause-bad
returns-in-Err-clause-bad g c =
    let old = g.D.Disk.state c.args.self.now.disk in
    let one = g.D.Disk.state c.sync_both.new.disk in
    let P : Side → ℕ → Type 0 = λ side place. IsTrue one.honest → AreBadAt side place one.content in
    let Q : Side → ℕ → Type 0 = λ side place. IsTrue old.honest → AreBadAt side place old.content in
    if_sides_bad_weaker Found (Option Held) P Q c.in-Err.refused c.in-Err.ensures.bad (λ side place bad honest.
    subst (λ (s : Sides). AreBadAt side place s) c.sync_both.ensures.sides.content (bad (subst IsTrue (sym c.sync_both.ensures.call.honest) honest)))
