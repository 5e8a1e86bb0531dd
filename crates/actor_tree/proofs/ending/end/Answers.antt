use Rattle.std.proofs.Common.{Bool, cond, sym, ap, ◌∙◌}
use Rattle.office_types.specs.declared.office.Status.TheVariants as status
use Rattle.office_types.specs.Ends.{ended_record}
use Rattle.actor_tree.specs.declared.ending.Ending.{Ending}
use Rattle.actor_tree.specs.Actors.{record_of}
use Rattle.actor_tree.specs.Removal.{ended_by}
use Rattle.actor_tree.proofs.ending.end.Goals as goal

pub returns-in-Done-clause-record_is : goal.returns-in-Done-clause-record_is
returns-in-Done-clause-record_is c = λ number. c.clear.ensures.record_is number ∙ sym (ap (λ (e : Ending). ended_by e (record_of number c.args.actor.now)) c.in-Done.is)

pub returns-in-Error-clause-record_is : goal.returns-in-Error-clause-record_is
returns-in-Error-clause-record_is c = λ number. c.clear-in-Error.ensures.record_is number ∙ sym (ap (λ (e : Ending). ended_by e (record_of number c.args.actor.now)) c.in-Error.is)

pub returns-in-Stopped-clause-record_is : goal.returns-in-Stopped-clause-record_is
returns-in-Stopped-clause-record_is c = λ number.
    let actor = record_of number c.args.actor.now in
    c.clear-in-Stopped.ensures.record_is number
    ∙ sym (ap (λ (e : Ending). ended_by e actor) c.in-Stopped.is ∙ ap (λ (b : Bool). cond b (ended_record status.Stopped actor) actor) (sym c.is_active.ensures ∙ c.if-is_active.true))
