use Rattle.std.proofs.Common.{◌≡◌}
use Rattle.machine_json.specs.JsonValues.{pairs_of, put_each}
use Rattle.machine_json.proofs.SortedLemmas.{put_on}
use Rattle.machine_json.proofs.values.fields_by_key.Given as goal

abbrev pub invariant-loop-key : goal.invariant-loop-key
invariant-loop-key l = put_on l.fields (pairs_of l.key-iterator) ≡ put_each (pairs_of l.fn.values.entries)
