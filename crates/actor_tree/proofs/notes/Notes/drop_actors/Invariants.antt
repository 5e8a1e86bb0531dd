use Rattle.std.proofs.Common.{◌≡◌, ◌||◌, ◌<◌, List, ℕ, take, drop}
use Rattle.std.specs.Prelude.{fold}
use Rattle.std.specs.List.{AllByRecursion}
use Rattle.office_types.specs.declared.office.OfficeState.{OfficeState}
use Rattle.office_types.specs.Ends.{is_among}
use Rattle.actor_tree.specs.Noted.{without_actor}
use Rattle.actor_tree.specs.Notes.{AreNoted, noted}
use Rattle.actor_tree.proofs.notes.Notes.drop_actors.Given as goal

-- those so far are gone
abbrev pub invariant-loop-number : goal.invariant-loop-number
invariant-loop-number l = record {
  told : (office : OfficeState) → AreNoted l.held.office l.actor l.fn.self office → AreNoted l.held.office l.actor l.self (fold without_actor office (take l.number-index l.numbers));
  gone : (other : ℕ) → (noted l.self).gone other ≡ (is_among (take l.number-index l.numbers) other || (noted l.fn.self).gone other);
  machines : l.self.machines ≡ l.fn.self.machines;
  after : AllByRecursion (λ (number : ℕ). l.actor < number) (drop l.number-index l.numbers);
}
