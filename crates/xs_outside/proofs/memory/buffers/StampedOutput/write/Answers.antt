use Rattle.std.proofs.Common.{◌≡◌, ℕ, ◌+◌, List, ◌++◌, Some, length, ◌∙◌, ap, arith, length-append}
use Rattle.std.proofs.lemmas.Grind.{common_steps}
use Rattle.std.specs.Io.KnownBytes.{append_known}
use Rattle.xs_outside.proofs.MomentLemmas.{moments_more}
use Rattle.xs_outside.proofs.memory.buffers.StampedOutput.write.Goals as goal

longer : (old new bytes : List ℕ) → Some new ≡ append_known (Some old) bytes → length new ≡ length old + length bytes
longer old new bytes added = let same : new ≡ old ++ bytes = cc in ap length same ∙ length-append old bytes

pub invariant_of-self-in_default : goal.invariant_of-self-in_default
invariant_of-self-in_default c =
    let grown : length c.write-2.new.self.bytes.items ≡ length c.args.self.now.buffer.bytes.items + length c.args.bytes.now =
    longer c.args.self.now.buffer.bytes.items c.write-2.new.self.bytes.items c.args.bytes.now c.in_default.ensures.adds in
    record { each = grind (arith, common_steps, moments_more) }
