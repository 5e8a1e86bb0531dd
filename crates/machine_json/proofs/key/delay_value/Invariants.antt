use Rattle.std.proofs.Common.{◌≡◌, ◌≤◌, take}
use Rattle.ordered_json.specs.Meaning.{magnitude}
use Rattle.machine_json.specs.declared.key.TheConstants.{MAX_DELAY}
use Rattle.machine_json.proofs.key.delay_value.Given as goal

abbrev pub invariant-loop-digit : goal.invariant-loop-digit
invariant-loop-digit l = record {
  so_far : l.delay ≡ magnitude (take l.digit-index l.digits);
  fits : l.delay ≤ MAX_DELAY;
}
