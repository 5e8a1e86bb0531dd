use Rattle.std.proofs.Common.{◌≡◌}
use Rattle.office_types.specs.ChildValues.{put_entries}
use Rattle.office_types.proofs.RegionLemmas.{put_entries_on}
use Rattle.office_types.proofs.state_values.fields_by_key.Given as goal

abbrev pub invariant-loop-key : goal.invariant-loop-key
invariant-loop-key l = put_entries_on l.fields l.key-iterator ≡ put_entries l.fn.values.entries
