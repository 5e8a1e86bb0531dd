use Rattle.std.proofs.Common.{◌≤◌, arith}
use Rattle.xs_outside.proofs.SideImageLemmas.{torn_on_a, torn_on_b}
use Rattle.xs_outside.proofs.memory.disk_history.DiskHistory.write.Goals as goal

pub returns-in-A-clause-images : goal.returns-in-A-clause-images
returns-in-A-clause-images c =
    let old = c.args.self.now in
    let later : old.clock ≤ c.in-Some.moment = grind arith in
    rw c.in-A.is (torn_on_a c.write.result old c.write.new.self c.in-Some.moment c.args.at c.args.bytes.now later c.write.ensures.start c.write.ensures.written)

pub returns-in-B-clause-images : goal.returns-in-B-clause-images
returns-in-B-clause-images c =
    let old = c.args.self.now in
    let later : old.clock ≤ c.in-Some.moment = grind arith in
    rw c.in-B.is (torn_on_b c.write-in-B.result old c.write-in-B.new.self c.in-Some.moment c.args.at c.args.bytes.now later c.write-in-B.ensures.start c.write-in-B.ensures.written)
