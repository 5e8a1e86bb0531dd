use Rattle.std.proofs.Common.{IsTrue, ℕ, refl, subst, sym, ◌∙◌, rules}
use Rattle.std.specs.Prelude.{Err}
use Rattle.xs_outside.specs.declared.Side.{Side}
use Rattle.xs_outside.specs.Disk.{Sides}
use Rattle.gate_journal.specs.declared.opening.Found.{Found}
use Rattle.gate_journal.specs.Found.{IfSidesBad, IsFound}
use Rattle.gate_journal.specs.Sides.{AreBadAt}
use Rattle.gate_journal.proofs.OkLemmas.{not_failed}
use Rattle.gate_journal.proofs.OpenedLemmas.{knows_held}
use Rattle.gate_journal.proofs.journal.Journal.open.Goals as goal

pub returns-in-Ok-clause-opened : goal.returns-in-Ok-clause-opened
returns-in-Ok-clause-opened g c honest =
    let one = g.D.Disk.state c.sync_both.new.disk in
    let two = g.D.Disk.state c.read_sides.new.disk in
    let still : IsTrue one.honest = subst IsTrue (sym c.sync_both.ensures.call.honest) honest in
    let settled = not_failed c.sync_both.result (search rules) c.sync_both.ensures.settled honest in
    let reads = c.read_sides.ensures.reads in
    let found = subst (λ (s : Sides). IsFound c.in-Ok.found s) (sym reads.content) (c.in-Ok.ensures.found still) in record {
      open_for_calls = refl;
      settled = λ image left. settled image ((reads.images image).0 left) ∙ sym reads.content;
      sides = found.hold;
      knows = knows_held c.in-Ok.found.held c.in-Ok.found.end c.current_of-current.result two.content c.current_of-current.ensures found.hold found.ends;
      ready_a = found.ready_a;
      ready_b = found.ready_b;
    }

pub returns-in-Bad-clause-bad : goal.returns-in-Bad-clause-bad
returns-in-Bad-clause-bad g c honest =
    let one = g.D.Disk.state c.sync_both.new.disk in
    let still : IsTrue one.honest = subst IsTrue (sym c.sync_both.ensures.call.honest) honest in
    let P : Side → ℕ → Type 0 = λ side place. IsTrue one.honest → AreBadAt side place one.content in
    let bad = subst (λ r. IfSidesBad {T = Found} (Err r) P) c.in-Bad.is c.in-Err.ensures.bad in
    subst (λ (s : Sides). AreBadAt c.in-Bad.side c.in-Bad.place s) c.sync_both.ensures.sides.content (bad still)
