use Rattle.std.proofs.Common.{◌≡◌, ◌≤◌, ◌+◌, ◌-◌, ◌<◌, vec_len}
use Rattle.std.specs.Io.KnownBytes.{prepend_known}
use Rattle.office_run.specs.declared.definitions.TheConstants.{MAX_DEFINITIONS_TAKEN}
use Rattle.office_run.proofs.definitions.take_text.Given as goal

abbrev pub invariant-pieces : goal.invariant-pieces
invariant-pieces g l = record {
  whole : g.S.Source.left l.fn.source ≡ prepend_known l.text.items (g.S.Source.left l.source);
  taken : g.S.Source.taken l.source ≡ g.S.Source.taken l.fn.source + vec_len l.text;
  limited : vec_len l.text ≤ MAX_DEFINITIONS_TAKEN;
  faults : g.S.Source.read_faults l.source ≡ g.S.Source.read_faults l.fn.source;
  room : 0 < vec_len l.piece;
}

abbrev pub decreases-pieces : goal.decreases-pieces
decreases-pieces g l = MAX_DEFINITIONS_TAKEN - vec_len l.text
