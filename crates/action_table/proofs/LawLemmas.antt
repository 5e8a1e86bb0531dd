-- What follows from what linking answers.
use Rattle.std.proofs.Common.{◌≡◌, ◌≢◌, ℕ, List, Option, None, Some, refl, ap, arith}
use Rattle.std.specs.Prelude.{Contains, IsSome, Err}
use Rattle.xs_model.specs.Rising.{get}
use Rattle.machine_json.specs.declared.machine.Machine.{Machine}
use Rattle.machine_json.specs.FirstFaults.{IsLeastPlace}
use Rattle.action_table.specs.declared.definitions.Defs.{Defs}
use Rattle.action_table.specs.declared.fault.TableFault.{TableFault}
use Rattle.action_table.specs.declared.fault.TableFault.TheVariants.{UnknownForm, Unnamed, Twice, Memory}
use Rattle.action_table.specs.declared.table.Table.{Table}
use Rattle.action_table.specs.DefNames.{ids_of_machines}
use Rattle.action_table.specs.Laws.{StandsFor}
use Rattle.action_table.specs.Linked.{IsLinkOf, IsLinkReading}
use Rattle.action_table.specs.Linking.{actor_number, machine_number}
use Rattle.action_table.specs.Uses.{IsUnnamedUse, Use, uses}

there-is : {A : Type 0} (o : Option A) → (o ≡ None → ⊥) → IsSome o
there-is None never = absurd (never refl)
there-is (Some a) never = refl

module _ (machines : List Machine) (table : Table) where
  stands : (used : Use) → ((place : ℕ) → ¬ IsUnnamedUse machines table used place) → StandsFor machines table used
  stands (Use.OfGuard named) never = there-is (get named.name table.guards) (λ none. never named.place (none, refl))
  stands (Use.OfAction named) never = there-is (get named.name table.actions) (λ none. never named.place (none, refl))
  stands (Use.OfDelay named) never = there-is (get named.name table.delays) (λ none. never named.place (none, refl))
  stands (Use.OfActor named) never = there-is (actor_number table named.name) (λ none. never named.place (none, refl))
  stands (Use.OfMachine named) never = there-is (machine_number (ids_of_machines machines) named.name) (λ none. never named.place (none, refl))

  pub names-stand : (defs : Defs) → IsLinkOf machines table defs → (used : Use) → Contains (uses machines table) used → StandsFor machines table used
  names-stand defs link used is_used = stands used (λ place unnamed. link.named place (used, is_used, unnamed))

  same-place : (IsThere : ℕ → Type 0) (p q : ℕ) → IsLeastPlace IsThere p → IsLeastPlace IsThere q → p ≡ q
  same-place IsThere p q least other = omega (arith, least.no_earlier q other.there, other.no_earlier p least.there)

  pub one-fault : (fault other : TableFault) → fault ≢ Memory → other ≢ Memory → IsLinkReading machines table (Err fault) → IsLinkReading machines table (Err other) → fault ≡ other
  one-fault (UnknownForm p) other is_fault is_other a b = absurd a
  one-fault Memory other is_fault is_other a b = absurd (is_fault refl)
  one-fault (Unnamed p) (UnknownForm q) is_fault is_other a b = absurd b
  one-fault (Unnamed p) (Unnamed q) is_fault is_other a b = ap Unnamed (same-place _ p q a.1 b.1)
  one-fault (Unnamed p) (Twice q) is_fault is_other a b = absurd (a.0 q b.there)
  one-fault (Unnamed p) Memory is_fault is_other a b = absurd (is_other refl)
  one-fault (Twice p) (UnknownForm q) is_fault is_other a b = absurd b
  one-fault (Twice p) (Unnamed q) is_fault is_other a b = absurd (b.0 p a.there)
  one-fault (Twice p) (Twice q) is_fault is_other a b = ap Twice (same-place _ p q a b)
  one-fault (Twice p) Memory is_fault is_other a b = absurd (is_other refl)

  pub never-both : (defs : Defs) (fault : TableFault) → fault ≢ Memory → IsLinkOf machines table defs → IsLinkReading machines table (Err fault) → ⊥
  never-both defs (UnknownForm p) is_fault link a = absurd a
  never-both defs Memory is_fault link a = is_fault refl
  never-both defs (Unnamed p) is_fault link a = link.named p a.1.there
  never-both defs (Twice p) is_fault link a = link.own_ids p a.there
