-- Which transitions an event takes: inner nodes before outer ones, and of two that leave a common node the one that stands earlier.
use Rattle.std.specs.Prelude.{◌≡◌, ℕ, ◌<◌, Bool, true, false, List, [], ◌∷◌, Option, None, Some, IsSomeAnd, Result, Ok, Err, Contains, map, slice_get, unwrap_or, if◌then◌else◌}
use Rattle.std.specs.List.{enumerate_from, items_where_true, AllZip}
use Rattle.std.specs.List.Sorted.{IsStrictlyIncreasing}
use Rattle.std.specs.Option.{option_map_or, option_and_then}
use Rattle.xs_model.specs.declared.env.EvalFault.{EvalFault}
use Rattle.xs_model.specs.declared.value.Value.{Value}
use Rattle.xs_model.specs.declared.value.Value.TheVariants.{Null}
use Rattle.xs_model.specs.Eval.{Scope}
use Rattle.node_tree.specs.Nodes.{IsBelow}
use Rattle.step_sets.specs.declared.types.Domain.{Domain}
use Rattle.step_sets.specs.Domains.{Arrow, IsDomain}
use Rattle.step_sets.specs.Exits.{IsExited}
use Rattle.step_sets.specs.Preemption.{KeepsUnpreempted}
use Rattle.step_sets.specs.Sets.{IsSetOf}
use Rattle.guard_eval.specs.declared.def.Def.{Def}
use Rattle.guard_eval.specs.declared.def.NodeDef.{NodeDef}
use Rattle.guard_eval.specs.declared.transition.Transition.{Transition}
use Rattle.guard_eval.specs.Guards.{Truth, guard_value}
use Rattle.office_types.specs.declared.outcome.Own.{Own}
use Rattle.office_types.specs.Events.{event_type}
use Rattle.microstep.specs.Candidates.{Candidate, candidates_for}

-- what a selection reads: the machine, the actor's own part, the event that was taken last, and whether a transition without an
-- event is looked for
pub record Looking : Type 0 where
  pub def : Def
  pub own : Own
  pub event : Value
  pub eventless : Bool

-- a transition by its node and its place there: in the node's `always` for a step without an event, else in its `transitions`
abbrev pub Place : Type 0
Place = ℕ × ℕ

-- what a guard reads; a guard of the table gets its params with its use
abbrev pub guard_scope : Looking → Scope
guard_scope looking = record { context = looking.own.context; event = looking.event; params = Null; input = Null }

-- whether a transition is enabled: it has no guard, or its guard holds
abbrev pub is_enabled : Looking → Transition → Truth
is_enabled looking transition =
    option_map_or (guard_value (guard_scope looking) looking.own.nodes) transition.guard (Ok true)

-- the candidates of a node
abbrev pub candidates_of : Looking → NodeDef → List Candidate
candidates_of looking node =
    if looking.eventless then enumerate_from 0 node.always
    else candidates_for node.transitions (unwrap_or (event_type looking.event) [])

-- this candidate, or what the later ones give, as its guard says
abbrev pub first_by : Truth → ℕ → Result (Option ℕ) EvalFault → Result (Option ℕ) EvalFault
first_by (Ok true) place later = Ok (Some place)
first_by (Ok false) place later = later
first_by (Err fault) place later = Err fault

-- the place of the first candidate that is enabled, or the fault of a guard before it, or none
abbrev pub first_enabled : Looking → List Candidate → Result (Option ℕ) EvalFault
first_enabled looking [] = Ok None
first_enabled looking (candidate ∷ later) = first_by (is_enabled looking candidate.1) candidate.0 (first_enabled looking later)

-- the enabled transition of a node by itself
abbrev pub own_transition : Looking → ℕ → Result (Option ℕ) EvalFault
own_transition looking n =
    option_map_or (λ (node : NodeDef). first_enabled looking (candidates_of looking node)) (slice_get looking.def.nodes n) (Ok None)

-- a node is asked: it is active, and no active node below it has an enabled transition
pub record IsAsked (looking : Looking) (n : ℕ) : Type 0 where
  pub active : Contains looking.own.nodes n
  pub inner : (m place : ℕ) → Contains looking.own.nodes m → IsBelow looking.def.tree m n
      → ¬ (own_transition looking m ≡ Ok (Some place))

-- a node is asked, and has this enabled transition
abbrev pub IsPicked : Looking → Place → Type 0
IsPicked looking place = IsAsked looking place.0 × (own_transition looking place.0 ≡ Ok (Some place.1))

-- a node is asked, and a guard of it has this fault
abbrev pub IsAtFault : Looking → EvalFault → ℕ → Type 0
IsAtFault looking fault n = IsAsked looking n × (own_transition looking n ≡ Err fault)

-- ---- preemption

-- the transition at a place
abbrev pub transition_at : Def → Bool → Place → Option Transition
transition_at def eventless place =
    option_and_then (λ (node : NodeDef). slice_get (if eventless then node.always else node.transitions) place.1)
    (slice_get def.nodes place.0)

-- where a transition leads from and to
abbrev pub arrow_of : Transition → Arrow
arrow_of transition = record { source = transition.source; targets = transition.targets; reenter = transition.reenter }

-- a transition with targets leaves and enters below this domain; one without leaves and enters nothing
pub record MovesIn (def : Def) (transition : Transition) (domain : Domain) : Type 0 where
  pub target : ℕ
  pub has_target : Contains transition.targets target
  pub domain_of : IsDomain def.tree (arrow_of transition) domain

-- the transition at a place leaves a node
abbrev pub IsLeftBy : Looking → Place → ℕ → Type 0
IsLeftBy looking place n =
    IsSomeAnd (transition_at looking.def looking.eventless place)
    (λ transition. (domain : Domain) × MovesIn looking.def transition domain × IsExited looking.def.tree looking.own.nodes domain n)

-- what each node that is asked picks, in document order
pub record ArePicks (looking : Looking) (picked : List Place) : Type 0 where
  pub in_order : IsStrictlyIncreasing (map (λ (place : Place). place.0) picked)
  pub each : (place : Place) → (Contains picked place → IsPicked looking place) × (IsPicked looking place → Contains picked place)

-- the picks that stay: a transition is dropped that leaves a node which one that stays before it leaves
pub record IsSelection (looking : Looking) (taken : List Place) : Type 0 where
  pub picked : List Place
  pub picks : ArePicks looking picked
  pub exits : List (List ℕ)
  pub exit_sets : AllZip (λ place. IsSetOf (IsLeftBy looking place)) picked exits
  pub flags : List Bool
  pub stays : KeepsUnpreempted exits flags
  pub taken_are : taken ≡ items_where_true flags picked

-- no node that is asked has a fault
abbrev pub HasNoFault : Looking → Type 0
HasNoFault looking = (n : ℕ) (fault : EvalFault) → ¬ IsAtFault looking fault n

-- What is selected: the fault of the last node in document order that is asked and has one; without one, the transitions that are picked
-- and stay.
pub data Selects (looking : Looking) : Result (List Place) EvalFault → Type 0 where
  fault : {fault : EvalFault} {n : ℕ} → IsAtFault looking fault n
      → ((later : ℕ) (other : EvalFault) → n < later → ¬ IsAtFault looking other later) → Selects looking (Err fault)
  taken : {taken : List Place} → HasNoFault looking → IsSelection looking taken → Selects looking (Ok taken)
