use Rattle.std.proofs.Common.{◌≡◌, [], length, reverse}
use Rattle.std.specs.Prelude.{fold}
use Rattle.office_types.specs.ChildValues.{with_region}
use Rattle.office_types.proofs.RegionLemmas.{entry_pairs}
use Rattle.office_types.proofs.state_values.regions_by_key.Given as goal

-- the regions so far and those that are left
abbrev pub invariant-loop-region : goal.invariant-loop-region
invariant-loop-region l = fold with_region (entry_pairs l.values.entries) (reverse l.regions.items) ≡ fold with_region [] (reverse l.initial.regions.items)

abbrev pub decreases-loop-region : goal.decreases-loop-region
decreases-loop-region l = length l.regions.items
