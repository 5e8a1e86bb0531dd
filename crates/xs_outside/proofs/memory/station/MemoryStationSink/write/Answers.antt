use Rattle.std.proofs.Common.{◌≡◌, ℕ, ◌<◌, ◌≤◌, length, eqb, sym, ◌∙◌, arith, rules}
use Rattle.std.proofs.lemmas.Bool.Decides.{nat_tests}
use Rattle.std.specs.Prelude.{false}
use Rattle.xs_outside.specs.Spans.{moments_of}
use Rattle.xs_outside.proofs.MomentLemmas.{stamped_by_write}
use Rattle.xs_outside.proofs.memory.station.MemoryStationSink.write.Goals as goal
use Rattle.xs_outside.proofs.memory.station.MemoryStationSink.write.Goals.{then-due, else-due}

went_on : (then now : ℕ) → then ≤ now → eqb now then ≡ false → then < now
went_on then now le differs = grind (arith, nat_tests)

pub returns-clause-relation : goal.returns-clause-relation
returns-clause-relation c =
    let old = c.args.self.now in
    let then = old.disk.sides.clock in
    let now = c.stream_call_fails-due.new.self.sides.clock in
    let passed : c.if-due.fails ≡ false → then < now = λ no. elim c.if-due.branch [
      | then-due w ↦ absurd (cc (no, w.fails-is, w.if-due.true))
      | else-due w ↦ went_on then now c.stream_call_fails-due.ensures.kept.time.time.clock (sym w.fails-is ∙ no)
    ] in
    record {
      schedule = search rules;
      output = search rules;
      input = search rules;
      disk = record {
        disk = search rules;
        moments = stamped_by_write c.if-due.fails c.write.result then now (length c.args.bytes.now) (moments_of old.output.spans.items) (moments_of c.write.new.self.spans.items)
            c.write.ensures.call.failed passed c.write.ensures.stamped c.write.ensures.refused;
      };
    }
