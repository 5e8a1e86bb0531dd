use Rattle.std.proofs.Common.{◌≡◌, IsTrue, Some, subst, sym}
use Rattle.office_types.specs.declared.outcome.Own.{Own}
use Rattle.office_types.specs.Observation.{own_of}
use Rattle.office_types.specs.Outcomes.{IsAllowedOutcome}
use Rattle.office_types.specs.Records.{is_ready}
use Rattle.action_table.specs.declared.definitions.Defs.{Defs}
use Rattle.action_table.specs.Definitions.{office_definitions}
use Rattle.actor_tree.specs.Changes.{stepped}
use Rattle.actor_tree.specs.ForestOffice.{ForestOffice}
use Rattle.actor_tree.specs.Parts.{put}
use Rattle.actor_tree.proofs.ChangeLemmas.{step_valid}
use Rattle.actor_tree.proofs.forest.Forest.prepare.Goals as goal

pub step_parts-requires-clause-allowed : goal.step_parts-requires-clause-allowed
step_parts-requires-clause-allowed c =
    let inside = c.self.inside in
    let allowed : (own : Own) × (own_of inside.held.office c.args.actor ≡ Some own) × IsAllowedOutcome (office_definitions inside.defs.value) own c.args.outcome.now =
    subst (λ (forest : ForestOffice). (own : Own) × (own_of forest.office c.args.actor ≡ Some own) × IsAllowedOutcome (office_definitions forest.defs) own c.args.outcome.now) (sym c.self.view_is) c.requires.allowed in
    (allowed.0, allowed.1, subst (λ (defs : Defs). IsAllowedOutcome (office_definitions defs) allowed.0 c.args.outcome.now) (sym c.deref.ensures) allowed.2)

pub make_room-requires-clause-valid : goal.make_room-requires-clause-valid
make_room-requires-clause-valid c =
    let inside = c.self.inside in
    let office = inside.held.office in
    let allowed : (own : Own) × (own_of office c.args.actor ≡ Some own) × IsAllowedOutcome (office_definitions inside.defs.value) own c.args.outcome.now =
    subst (λ (forest : ForestOffice). (own : Own) × (own_of forest.office c.args.actor ≡ Some own) × IsAllowedOutcome (office_definitions forest.defs) own c.args.outcome.now) (sym c.self.view_is) c.requires.allowed in
    let ready : IsTrue (is_ready office c.args.actor) = rw (← c.self.view_is) at c.requires.ready in
    let change : put office c.in_ok-parts.parts ≡ stepped (office_definitions inside.defs.value) c.args.actor c.args.outcome.now office = rw c.deref.ensures at c.in_ok-parts.ensures.change in
    rw (← c.self.view_is)
    (step_valid (office_definitions inside.defs.value) office c.args.actor allowed.0 c.args.outcome.now c.in_ok-parts.parts c.steps_keep_validity.ensures c.steps_are_entries.ensures c.self.invariant.linked c.self.invariant.valid c.self.invariant.callers c.self.invariant.entries ready allowed.1 allowed.2 change)
