use Rattle.std.proofs.Common.{Err, refl, rules}
use Rattle.std.proofs.lemmas.List.Elements.{Contains-get_or}
use Rattle.guard_eval.proofs.LawLemmas.{is_statechart}
use Rattle.office_types.specs.Effects.{fresh_own}
use Rattle.microstep.specs.Micro.{IsFirstMicrostep, no_context}
use Rattle.microstep.specs.Taking.{IsAnswered}
use Rattle.microstep.proofs.EndLemmas.{answered-fault}
use Rattle.microstep.proofs.KeptLemmas.{first-leaves}
use Rattle.microstep.proofs.MovedLemmas.{first-configuration}
use Rattle.microstep.proofs.StepLemmas.{first-by, first-fault}
use Rattle.microstep.proofs.steps.first_microstep.Goals as goal

pub returns-in_err-context-clause-gives : goal.returns-in_err-context-clause-gives
returns-in_err-context-clause-gives c =
    let known : IsAnswered (IsFirstMicrostep c.args.def.now (fresh_own c.args.number) c.args.event.now) (Err c.in_err-context.field-0.0) =
    answered-fault (IsFirstMicrostep c.args.def.now (fresh_own c.args.number) c.args.event.now) c.in_err-context.field-0.0 (λ name is. no_context (c.in_err-context.ensures name is)) in
    search (rules, known)

pub enter_all-requires-clause-statechart : goal.enter_all-requires-clause-statechart
enter_all-requires-clause-statechart c = is_statechart c.requires.well_formed.0 c.args.def.now c.requires.well_formed.1

pub enter_all-requires-clause-configuration : goal.enter_all-requires-clause-configuration
enter_all-requires-clause-configuration c =
    rw c.as_slice-configuration.ensures (first-configuration c.requires.well_formed.0 c.args.def.now c.len-nodes.ensures.tree c.requires.well_formed.1 c.in_ok-made.made c.in_ok-made.ensures)

pub enter_all-requires-clause-entered : goal.enter_all-requires-clause-entered
enter_all-requires-clause-entered c = rw c.as_slice.ensures.nodes c.in_ok-made.ensures.entered.in_order

pub enter_all-requires-clause-active : goal.enter_all-requires-clause-active
enter_all-requires-clause-active c = rw (c.as_slice.ensures.nodes, c.as_slice-configuration.ensures, c.in_ok-made.ensures.configuration) (λ k d inside. Contains-get_or c.in_ok-made.made.entered k d inside)

pub ended-requires-clause-statechart : goal.ended-requires-clause-statechart
ended-requires-clause-statechart c = is_statechart c.requires.well_formed.0 c.args.def.now c.requires.well_formed.1

pub ended-requires-clause-configuration : goal.ended-requires-clause-configuration
ended-requires-clause-configuration c = first-configuration c.requires.well_formed.0 c.args.def.now c.len-nodes.ensures.tree c.requires.well_formed.1 c.in_ok-made.made c.in_ok-made.ensures

pub returns-in_err-enter_all-clause-gives : goal.returns-in_err-enter_all-clause-gives
returns-in_err-enter_all-clause-gives c =
    let def = c.args.def.now in
    let formed = c.requires.well_formed.1 in
    let legal = (first-configuration c.requires.well_formed.0 def c.len-nodes.ensures.tree formed c.in_ok-made.made c.in_ok-made.ensures).legal in
    let known : IsAnswered (IsFirstMicrostep def (fresh_own c.args.number) c.args.event.now) (Err c.in_err-enter_all.field-0.0) =
    answered-fault (IsFirstMicrostep def (fresh_own c.args.number) c.args.event.now) c.in_err-enter_all.field-0.0
    (λ name is. first-fault def c.args.number c.args.event.now c.in_ok-context.context c.in_ok-context.ensures c.in_ok-made.made c.in_ok-made.ensures
    c.len-nodes.ensures.tree (is_statechart c.requires.well_formed.0 def formed) legal name
    (rw (c.progress_with-progress.ensures c.args.number, c.as_slice.ensures.nodes, c.as_slice-configuration.ensures) at c.in_err-enter_all.ensures name is)) in
    search (rules, known)

pub returns-clause-gives : goal.returns-clause-gives
returns-clause-gives c =
    first-by c.args.def.now c.args.number c.args.event.now c.in_ok-context.context c.in_ok-context.ensures c.in_ok-made.made c.in_ok-made.ensures _ c.ended.result
    (rw (c.progress_with-progress.ensures c.args.number, c.as_slice.ensures.nodes, c.as_slice-configuration.ensures) at c.in_ok-enter_all.ensures) (c.ended.ensures (fresh_own c.args.number) refl)

pub returns-clause-leaves : goal.returns-clause-leaves
returns-clause-leaves c =
    first-leaves c.args.def.now c.len-nodes.ensures.tree c.args.number c.args.event.now c.ended.result
    (first-by c.args.def.now c.args.number c.args.event.now c.in_ok-context.context c.in_ok-context.ensures c.in_ok-made.made c.in_ok-made.ensures _ c.ended.result
    (rw (c.progress_with-progress.ensures c.args.number, c.as_slice.ensures.nodes, c.as_slice-configuration.ensures) at c.in_ok-enter_all.ensures) (c.ended.ensures (fresh_own c.args.number) refl))
