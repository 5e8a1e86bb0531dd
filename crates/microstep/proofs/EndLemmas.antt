-- The ends of nodes and of machines.
use Rattle.std.proofs.Common.{◌≡◌, ◌≢◌, ℕ, Bool, true, false, List, [], reverse, Option, Some, None, Ok, Err, refl, subst, arith, inl, inr}
use Rattle.std.specs.List.{Contains, flat_map}
use Rattle.std.specs.Option.{option_map}
use Rattle.node_tree.specs.declared.node.Kind.{Kind}
use Rattle.node_tree.specs.declared.node.Kind.TheVariants.{Compound, Final}
use Rattle.node_tree.specs.Kinds.{Nodes, kind_of}
use Rattle.node_tree.specs.Nodes.{IsChild, IsTree}
use Rattle.step_sets.specs.Configuration.{IsLegal}
use Rattle.step_sets.specs.Statechart.{IsStatechart}
use Rattle.xs_model.specs.declared.value.Value.{Value}
use Rattle.guard_eval.specs.declared.def.Def.{Def}
use Rattle.office_types.specs.declared.outcome.FaultName.{FaultName}
use Rattle.office_types.specs.declared.outcome.Own.{Own}
use Rattle.microstep.specs.declared.micro.Micro.{Micro}
use Rattle.microstep.specs.declared.micro.StepFault.{StepFault}
use Rattle.microstep.specs.declared.micro.StepFault.TheVariants.{Fault, Memory}
use Rattle.microstep.specs.declared.moves.Move.{Move}
use Rattle.microstep.specs.declared.progress.Progress.{Progress}
use Rattle.microstep.specs.Acts.{after_acts, last_acts}
use Rattle.microstep.specs.Climbing.{EndsKind, IsActiveYet}
use Rattle.microstep.specs.DoneEvents.{EndsParent, IsDone}
use Rattle.microstep.specs.Micro.{Ends, after_end, ends, goes_on, machine_output, micro_of}
use Rattle.microstep.specs.Parts.{Stepped, and_then}
use Rattle.microstep.specs.Progressing.{IsNamed}
use Rattle.microstep.specs.Taking.{IsAnswered}
use Rattle.microstep.proofs.ClimbLemmas.{done-along}
use Rattle.microstep.proofs.DoneLemmas.{decide-done}

-- a final node below a compound one that isn't the root ends it
pub ends-parent : (nodes : Nodes) (n parent : ℕ) (above kind : Kind) → IsChild nodes n parent → kind_of nodes parent ≡ Some above → kind_of nodes n ≡ Some kind → parent ≢ 0 → EndsKind above kind
    → (initial : ℕ) × EndsParent nodes n parent initial
ends-parent nodes n parent (Compound initial) Final c p k inner e = (initial, record { final = k; child = c; compound = p; inner = inner })
ends-parent nodes n parent above kind c p k inner e = absurd e

-- ---- the end of a machine

pub answered-fault : {X : Type 0} (G : Stepped X → Type 0) (fault : StepFault) → ((name : FaultName) → fault ≡ Fault name → G (Err name)) → IsAnswered G (Err fault)
answered-fault G (Fault name) named = named name refl
answered-fault G Memory named = tt

none-later : (configuration : List ℕ) (n : ℕ) → IsActiveYet configuration [] n → Contains configuration n
none-later configuration n (has, out) = has

no-later : (configuration : List ℕ) (n : ℕ) → Contains configuration n → IsActiveYet configuration [] n
no-later configuration n has = (has, λ (k, inside, is). absurd (omega (arith, inside)))

pub done-now : (nodes : Nodes) (configuration : List ℕ) (n : ℕ) → IsDone nodes (IsActiveYet configuration []) n → IsDone nodes (Contains configuration) n
done-now nodes configuration n done = done-along nodes (IsActiveYet configuration []) (Contains configuration) (none-later configuration) n done

pub done-yet : (nodes : Nodes) (configuration : List ℕ) (n : ℕ) → IsDone nodes (Contains configuration) n → IsDone nodes (IsActiveYet configuration []) n
done-yet nodes configuration n done = done-along nodes (Contains configuration) (IsActiveYet configuration []) (no-later configuration) n done

-- the own part and the rest of a micro, for a machine with this number
abbrev pub made-micro : Move → ℕ → Bool → Progress → Micro
made-micro move number finished progress = record {
  own = record { def = number; begun = true; nodes = move.configuration; history = move.history; context = progress.context; children = progress.children; unnamed = progress.unnamed };
  raised = progress.raised;
  effects = progress.effects;
  actions = progress.actions;
  finished = finished;
}

module _ (def : Def) (own : Own) (move : Move) (event : Value) where
  pub ends-in-fault : IsTree def.tree → IsStatechart def.tree → IsLegal def.tree (Contains move.configuration) → (done : Stepped Progress) (name : FaultName) → done ≡ Err name → Ends def own move event done (Err name)
  ends-in-fault tree chart legal done name is =
      rw is
      (elim (decide-done def.tree tree chart move.configuration [] legal 0 legal.root) [
        | inl over ↦ ends (done-now def.tree move.configuration 0 over)
        | inr open-yet ↦ goes_on (λ over. open-yet (done-yet def.tree move.configuration 0 over))
      ])

  by-end : (progress : Progress) (r : Stepped Progress) → IsDone def.tree (Contains move.configuration) 0 → after_end def move.configuration event progress ≡ r
      → Ends def own move event (Ok progress) (and_then r (λ last. Ok (micro_of own move true last)))
  by-end progress r over is =
      let P : Stepped Progress → Type 0 = λ r. Ends def own move event (Ok progress) (and_then r (λ last. Ok (micro_of own move true last))) in
      subst P is (ends over)

  -- a fault of the end
  pub ends-wrong : (progress : Progress) (name : FaultName) → IsDone def.tree (Contains move.configuration) 0 → after_end def move.configuration event progress ≡ Err name → Ends def own move event (Ok progress) (Err name)
  ends-wrong progress name over is = by-end progress (Err name) over is

  -- the micro of a machine that is done, and of one that goes on
  pub ended-last : (number : ℕ) (finished : Bool) (progress last shown : Progress) → own.def ≡ number → finished ≡ true → shown ≡ last → IsDone def.tree (Contains move.configuration) 0
      → after_end def move.configuration event progress ≡ Ok last → Ends def own move event (Ok progress) (Ok (made-micro move number finished shown))
  ended-last number finished progress last shown numbered sure at over is = rw (sure, at, ← numbered) (by-end progress (Ok last) over is)

  pub ended-on : (number : ℕ) (finished : Bool) (progress shown : Progress) → own.def ≡ number → finished ≡ false → shown ≡ progress → ¬ IsDone def.tree (Contains move.configuration) 0
      → Ends def own move event (Ok progress) (Ok (made-micro move number finished shown))
  ended-on number finished progress shown numbered sure at open-yet = rw (sure, at, ← numbered) (goes_on open-yet)

-- a fault of the outputs at the end
two-wrong : (r : Stepped Progress) (last : Progress) (f : Progress → Stepped Value) (g : Progress → Value → Stepped Progress) (name : FaultName) → r ≡ Ok last → f last ≡ Err name
    → and_then r (λ (mid : Progress). and_then (f mid) (g mid)) ≡ Err name
two-wrong r last f g name first second = rw (first, second) refl

pub end-wrong : (def : Def) (configuration : List ℕ) (event : Value) (start last : Progress) (fault : StepFault) → after_acts event (flat_map (last_acts def) (reverse configuration)) start ≡ Ok last
    → IsNamed fault (machine_output def configuration event last) → IsNamed fault (after_end def configuration event start)
end-wrong def configuration event start last fault first named =
    λ name at. two-wrong (after_acts event (flat_map (last_acts def) (reverse configuration)) start) last (machine_output def configuration event) (λ (mid : Progress) (output : Value). Ok (record mid { raised = [] })) name
    first (named name at)

-- the same, if it is there
pub option-same : {X : Type 0} (o : Option X) → option_map (λ (x : X). x) o ≡ o
option-same None = refl
option-same (Some x) = refl
