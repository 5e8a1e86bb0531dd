-- How often numbers were counted.
use Rattle.std.specs.Prelude.{ℕ, unwrap_or}
use Rattle.std.specs.BTreeMap.{BTreeMap, get}
use Rattle.std.specs.Ordering.{nat_cmp}

-- how often a number was counted
abbrev pub tallied : BTreeMap ℕ ℕ → ℕ → ℕ
tallied tally number = unwrap_or (get nat_cmp tally number) 0
