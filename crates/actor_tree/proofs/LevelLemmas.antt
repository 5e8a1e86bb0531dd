-- The levels of a tree of actors, one after the other.
use Rattle.std.proofs.Common.{◌≡◌, ℕ, zero, suc, ◌-◌, ◌<◌, true, false, Some, None, refl, arith}
use Rattle.office_types.specs.declared.office.OfficeState.{OfficeState}
use Rattle.office_types.specs.Effects.{is_within_levels}
use Rattle.office_types.specs.Records.{parent_actor}

module _ (office : OfficeState) where
  pub on_top : (levels number : ℕ) → 0 < levels → parent_actor office number ≡ None → is_within_levels office levels number ≡ true
  unfolding is_within_levels
  on_top zero number some top = absurd (omega (arith, some))
  on_top (suc levels) number some top = rw top refl

  pub one_up : (levels number parent : ℕ) → 0 < levels → parent_actor office number ≡ Some parent → is_within_levels office (levels - 1) parent ≡ is_within_levels office levels number
  unfolding is_within_levels
  one_up zero number parent some below = absurd (omega (arith, some))
  one_up (suc levels) number parent some below = let less : suc levels - 1 ≡ levels = omega arith in rw (less, below) refl

  pub no_level : (levels number : ℕ) → levels ≡ 0 → is_within_levels office levels number ≡ false
  unfolding is_within_levels
  no_level zero number none = refl
  no_level (suc levels) number none = absurd (omega (arith, none))
