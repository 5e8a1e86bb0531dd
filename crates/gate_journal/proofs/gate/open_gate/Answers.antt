use Rattle.std.proofs.Common.{IsTrue, subst, sym}
use Rattle.std.proofs.lemmas.Result.{on_ok_weaker}
use Rattle.gate_journal.specs.declared.parts.TheConstants.{OPEN}
use Rattle.gate_journal.proofs.GateLemmas.{gate_images, gate_stands}
use Rattle.gate_journal.proofs.gate.open_gate.Goals as goal

pub returns-clause-images : goal.returns-clause-images
returns-clause-images g c honest =
    let first = c.write_through.ensures in
    let second = c.write_through-2.ensures in
    let still : IsTrue (g.D.Disk.state c.write_through.new.disk).honest = subst IsTrue (sym first.call.honest) honest in
    gate_images c.args.side c.args.gate c.args.text.now (g.D.Disk.state c.args.disk.now) (g.D.Disk.state c.write_through.new.disk) (g.D.Disk.state c.write_through-2.new.disk)
    (c.requires.place honest) (first.images honest) (c.in_ok-write_through.ensures.written honest) second.call.time (second.images still)

pub returns-clause-stands : goal.returns-clause-stands
returns-clause-stands g c =
    on_ok_weaker c.write_through-2.result (λ written honest.
    let still : IsTrue (g.D.Disk.state c.write_through.new.disk).honest = subst IsTrue (sym c.write_through.ensures.call.honest) honest in
    gate_stands c.args.side c.args.gate OPEN c.args.text.now (g.D.Disk.state c.args.disk.now).content (g.D.Disk.state c.write_through.new.disk).content (g.D.Disk.state c.write_through-2.new.disk).content
    (c.requires.place honest) (c.in_ok-write_through.ensures.written honest) (written still)) c.write_through-2.ensures.written
