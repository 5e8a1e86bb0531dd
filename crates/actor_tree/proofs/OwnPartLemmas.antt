-- What an allowed outcome's own part is, in a valid office.
use Rattle.std.proofs.Common.{◌≡◌, ◌⊎◌, inl, inr, ℕ, ◌<◌, Bool, true, false, cond, List, [], ◌∷◌, length, map, refl, sym, ap, subst, ◌∙◌, rules}
use Rattle.std.specs.Prelude.{None, Option, Some, nat_eq}
use Rattle.std.specs.List.{AllByRecursion}
use Rattle.std.specs.List.Sorted.{IsStrictlyIncreasing}
use Rattle.std.specs.Option.{option_and_then}
use Rattle.std.proofs.lemmas.List.Elements.{recursion_from_All}
use Rattle.node_tree.specs.Kinds.{Nodes}
use Rattle.office_types.specs.declared.office.ActorRecord.{ActorRecord}
use Rattle.office_types.specs.declared.office.Item.{Item}
use Rattle.office_types.specs.declared.office.OfficeState.{OfficeState}
use Rattle.office_types.specs.declared.outcome.End.{End}
use Rattle.office_types.specs.declared.outcome.End.TheVariants as end
use Rattle.office_types.specs.declared.outcome.Outcome.{Outcome}
use Rattle.office_types.specs.declared.outcome.Own.{Own}
use Rattle.office_types.specs.Definitions.{OfficeDefinitions, nodes_of}
use Rattle.office_types.specs.Observation.{own_of}
use Rattle.office_types.specs.Outcomes.{AreAllowedEffects, IsAllowedBy, IsAllowedOutcome, IsThrough, IsUndone}
use Rattle.office_types.specs.OwnParts.{IsOwnPart}
use Rattle.office_types.specs.Records.{actor_record}
use Rattle.office_types.specs.ValidOffice.{IsActor, IsMachineActor, IsOfOneKind, IsValidOffice}
use Rattle.actor_tree.proofs.LookUpLemmas.{record_at}

-- the own part is of a machine that there is, and its active nodes are in order
pub record IsOrderly (definitions : OfficeDefinitions) (own : Own) : Type 0 where
  pub machine : own.def < length definitions.machines
  pub in_order : IsStrictlyIncreasing own.nodes

record_has : (P : ActorRecord → Type 0) (n : ℕ) (actors : List ActorRecord) (a : ActorRecord) → AllByRecursion P actors → record_at n actors ≡ Some a → P a
record_has P n [] a all found = absurd (cc)
record_has P n (other ∷ actors) a all found = by_test (record_has P n actors a all.1) (nat_eq other.number n) found where
  by_test : (record_at n actors ≡ Some a → P a) → (b : Bool) → cond b (Some other) (record_at n actors) ≡ Some a → P a
  by_test rest true is = let same : other ≡ a = cc in subst P same all.0
  by_test rest false is = rest is

in_order : (nodes : Nodes) (own : Own) → IsOwnPart nodes own → IsStrictlyIncreasing own.nodes
in_order nodes own (inl unbegun) = subst IsStrictlyIncreasing (sym (ap (λ (o : Own). o.nodes) unbegun)) (search rules)
in_order nodes own (inr begun) = begun.configuration.in_order

of_kind : (definitions : OfficeDefinitions) (actor : ActorRecord) (own : Own) (item : Option Item) → IsOfOneKind definitions actor (Some own) item → IsOrderly definitions own
of_kind definitions actor own None machine = record { machine = machine.machine; in_order = in_order (nodes_of definitions own.def) own machine.part }
of_kind definitions actor own (Some item) machine = absurd machine

-- that of a valid office
held_own : (definitions : OfficeDefinitions) (office : OfficeState) (n : ℕ) (own : Own) → IsValidOffice definitions office → own_of office n ≡ Some own → IsOrderly definitions own
held_own definitions office n own valid is = by_record (actor_record office n) refl is where
  by_record : (o : Option ActorRecord) → actor_record office n ≡ o → option_and_then (λ (a : ActorRecord). a.own) o ≡ Some own → IsOrderly definitions own
  by_record None found has = absurd (cc)
  by_record (Some a) found has =
      let actor = record_has (IsActor definitions office) n office.actors a (recursion_from_All (IsActor definitions office) office.actors valid.actors) found in
      of_kind definitions a own a.item (subst (λ (o : Option Own). IsOfOneKind definitions a o a.item) has actor.kind)

by_end : (definitions : OfficeDefinitions) (own : Own) (outcome : Outcome) (ended : End) → IsOrderly definitions own → IsAllowedBy definitions own outcome ended → IsOrderly definitions outcome.own
by_end definitions own outcome end.Active orderly through =
    record { machine = subst (λ (m : ℕ). m < length definitions.machines) (sym through.machine) orderly.machine; in_order = through.begun.configuration.in_order }
by_end definitions own outcome (end.Done output) orderly allowed =
    record { machine = subst (λ (m : ℕ). m < length definitions.machines) (sym allowed.0.machine) orderly.machine; in_order = allowed.0.begun.configuration.in_order }
by_end definitions own outcome (end.Error error) orderly allowed = subst (IsOrderly definitions) (sym allowed.0.own_part) orderly

-- that of an allowed outcome
pub allowed_own : (definitions : OfficeDefinitions) (office : OfficeState) (n : ℕ) (own : Own) (outcome : Outcome) → IsValidOffice definitions office → own_of office n ≡ Some own
    → IsAllowedOutcome definitions own outcome → IsOrderly definitions outcome.own
allowed_own definitions office n own outcome valid is allowed = by_end definitions own outcome outcome.end (held_own definitions office n own valid is) allowed

effects_by_end : (definitions : OfficeDefinitions) (own : Own) (outcome : Outcome) (ended : End) → IsAllowedBy definitions own outcome ended
    → (ids : List (List ℕ)) × AreAllowedEffects definitions ids outcome.effects
effects_by_end definitions own outcome end.Active through = (own.children, through.effects)
effects_by_end definitions own outcome (end.Done output) allowed = (own.children, allowed.0.effects)
effects_by_end definitions own outcome (end.Error error) allowed =
    (own.children, subst (AreAllowedEffects definitions own.children) (sym allowed.0.effects) tt)

-- the effects of an allowed outcome
pub allowed_effects : (definitions : OfficeDefinitions) (own : Own) (outcome : Outcome) → IsAllowedOutcome definitions own outcome
    → (ids : List (List ℕ)) × AreAllowedEffects definitions ids outcome.effects
allowed_effects definitions own outcome allowed = effects_by_end definitions own outcome outcome.end allowed
