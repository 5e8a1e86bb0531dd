-- Of the bytes, the first `out` have gone into the writer.
use Rattle.std.proofs.Common.{◌≤◌, length, take}
use Rattle.std.specs.Io.KnownBytes.{Appends}
use Rattle.xoffice.proofs.writer.write_whole.Given as goal

abbrev pub invariant-loop : goal.invariant-loop
invariant-loop g l = record {
  within : l.out ≤ length l.bytes;
  appended : Appends (g.W.Write.contents l.fn.writer) (g.W.Write.contents l.writer) (take l.out l.bytes);
}
