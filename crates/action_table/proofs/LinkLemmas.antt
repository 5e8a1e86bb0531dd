-- What linking answers.
use Rattle.std.proofs.Common.{◌≡◌, ℕ, ◌<◌, ◌^◌, List, [], ◌∷◌, Option, None, Some, Err, All, length, map, refl, sym, ap, ◌∙◌, subst, inl, inr, arith}
use Rattle.std.specs.List.{AllZip}
use Rattle.std.proofs.lemmas.Bool.{cases_lt}
use Rattle.guard_eval.specs.Definitions.{IsWellFormed}
use Rattle.guard_eval.specs.declared.def.Def.{Def}
use Rattle.machine_json.specs.declared.machine.Machine.{Machine}
use Rattle.machine_json.specs.ReadMachine.{IsReadMachine}
use Rattle.office_types.specs.Definitions.{AreLinked}
use Rattle.action_table.specs.declared.definitions.Defs.{Defs}
use Rattle.action_table.specs.declared.fault.TableFault.TheVariants.{Twice, Unnamed}
use Rattle.action_table.specs.declared.table.Table.{Table}
use Rattle.action_table.specs.Definitions.{office_definitions}
use Rattle.action_table.specs.DefNames.{HasIds, HaveDistinctIds, ids_of_machines}
use Rattle.action_table.specs.Linked.{HaveOwnIds, IsLinkOf, IsLinkReading}
use Rattle.action_table.specs.Linking.{AreLinkedTo, IsLinkedMachine, all_there, linked_actor}
use Rattle.action_table.specs.TablePlaces.{IsLeastOf}
use Rattle.action_table.specs.Unnamed.{least_unnamed}
use Rattle.action_table.specs.Uses.{IsTwice, IsUnnamed, uses}
use Rattle.action_table.proofs.OfficeLemmas.{office-linked}
use Rattle.action_table.proofs.ThereLemmas.{there-zip, zip-at, zip-length}
use Rattle.action_table.proofs.UseLemmas.{unnamed-least}
use Rattle.action_table.proofs.WellFormedLemmas.{all-well-formed}

module _ (machines : List Machine) (table : Table) where
  pub twice-reading : (twice : Option ℕ) (place : ℕ) → IsLeastOf (IsTwice machines) twice → twice ≡ Some place → IsLinkReading machines table (Err (Twice place))
  twice-reading twice place least is = subst (IsLeastOf (IsTwice machines)) is least

  pub own-ids : (twice : Option ℕ) → IsLeastOf (IsTwice machines) twice → twice ≡ None → HaveOwnIds machines
  own-ids twice least is = subst (IsLeastOf (IsTwice machines)) is least

  -- the least place of a name for which nothing stands, as the ids tell it
  abbrev pub Found : List (List ℕ × ℕ) → Option ℕ → Type 0
  Found ids found = found ≡ least_unnamed ids table (uses machines table)

  found-least : (ids : List (List ℕ × ℕ)) (found : Option ℕ) → ids ≡ ids_of_machines machines → Found ids found → IsLeastOf (IsUnnamed machines table) found
  found-least ids found same is =
      subst (IsLeastOf (IsUnnamed machines table)) (sym (is ∙ ap (λ held. least_unnamed held table (uses machines table)) same)) (unnamed-least machines table)

  pub unnamed-reading : (ids : List (List ℕ × ℕ)) (found : Option ℕ) (place : ℕ) → HaveOwnIds machines → ids ≡ ids_of_machines machines → Found ids found → found ≡ Some place
      → IsLinkReading machines table (Err (Unnamed place))
  unnamed-reading ids found place own same is there = (own, subst (IsLeastOf (IsUnnamed machines table)) there (found-least ids found same is))

  pub all-named : (ids : List (List ℕ × ℕ)) (found : Option ℕ) → ids ≡ ids_of_machines machines → Found ids found → found ≡ None → (place : ℕ) → ¬ IsUnnamed machines table place
  all-named ids found same is none = subst (IsLeastOf (IsUnnamed machines table)) none (found-least ids found same is)

  -- ---- the definitions

  names : (some : List Machine) (defs : List Def) → AllZip (IsLinkedMachine table) some defs → map (λ (id : List ℕ × ℕ). id.0) (ids_of_machines some) ≡ map (λ (def : Def). def.name) defs
  names [] [] each = refl
  names [] (def ∷ defs) each = absurd each
  names (machine ∷ some) [] each = absurd each
  names (machine ∷ some) (def ∷ defs) each = ap (λ n. n ∷ map (λ (id : List ℕ × ℕ). id.0) (ids_of_machines some)) (sym each.0.name) ∙ ap (λ l. def.name ∷ l) (names some defs each.1)

  -- two machines with one id are one
  pub distinct-ids : (defs : List Def) → HaveOwnIds machines → AllZip (IsLinkedMachine table) machines defs → HaveDistinctIds defs
  distinct-ids defs own each i j one other at_i at_j same =
      let first = zip-at (IsLinkedMachine table) machines defs i one each at_i in
      let second = zip-at (IsLinkedMachine table) machines defs j other each at_j in
      let names_same : first.0.name ≡ second.0.name = sym first.2.name ∙ same ∙ second.2.name in
      elim (cases_lt i j) [
        | inl below ↦ absurd (own second.0.place (j, i, second.0, first.0, below, second.1, first.1, sym names_same, refl))
        | inr above ↦ elim (cases_lt j i) [
          | inl higher ↦ absurd (own first.0.place (i, j, first.0, second.0, higher, first.1, second.1, names_same, refl))
          | inr equal ↦ omega arith
        ]
      ]

  pub has-ids : (ids : List (List ℕ × ℕ)) (defs : List Def) → length machines < 2 ^ 32 → HaveOwnIds machines → ids ≡ ids_of_machines machines → AllZip (IsLinkedMachine table) machines defs → HasIds ids defs
  has-ids ids defs few own same each = subst (λ held. HasIds held defs) (sym same) (record {
    ids_are = names machines defs each;
    distinct = distinct-ids defs own each;
    few = subst (λ n. n < 2 ^ 32) (sym (zip-length (IsLinkedMachine table) machines defs each)) few;
  })

  pub are-linked : (ids : List (List ℕ × ℕ)) (defs : List Def) (all : Defs) → ids ≡ ids_of_machines machines → AllZip (IsLinkedMachine table) machines defs → all.defs ≡ defs
      → all_there (map (linked_actor ids) table.actors) ≡ Some all.actors → AreLinkedTo machines table all
  are-linked ids defs all same each held actors = record {
    machines_are = subst (AllZip (IsLinkedMachine table) machines) (sym held) each;
    actors_are = subst (λ l. all_there (map (linked_actor l) table.actors) ≡ Some all.actors) same actors;
  }

  pub linked-well : (all : Defs) → All IsReadMachine machines → AreLinkedTo machines table all → All (IsWellFormed (length all.actors)) all.defs
  linked-well all read linked =
      let count : length all.actors ≡ length table.actors = zip-length _ table.actors all.actors (there-zip (linked_actor (ids_of_machines machines)) table.actors all.actors linked.actors_are) in
      subst (λ n. All (IsWellFormed n) all.defs) (sym count) (all-well-formed table machines all.defs read linked.machines_are)

  pub linked-office : (all : Defs) → AreLinkedTo machines table all → AreLinked (office_definitions all)
  linked-office all linked = office-linked machines table all linked

  pub is-link : (all : Defs) → AreLinkedTo machines table all → HaveOwnIds machines → ((place : ℕ) → ¬ IsUnnamed machines table place) → IsLinkOf machines table all
  is-link all linked own named = record { linked = linked; own_ids = own; named = named }
