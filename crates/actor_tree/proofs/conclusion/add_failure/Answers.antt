use Rattle.std.proofs.Common.{◌≡◌, ◌∙◌, sym, true}
use Rattle.std.proofs.lemmas.Result.{IfOk-weaker}
use Rattle.office_types.specs.Ends.{after_end, error_record}
use Rattle.office_types.specs.Events.{error_event}
use Rattle.office_types.specs.Mailboxes.{has_letter_room}
use Rattle.actor_tree.proofs.ConclusionLemmas.{ended_fits, ended_told, failed}
use Rattle.actor_tree.proofs.conclusion.add_failure.Goals as goal

pub returns-clause-office : goal.returns-clause-office
returns-clause-office c =
    let old = c.args.ahead in
    let ended = c.in_ok-ended.ended in
    let after = after_end (error_record c.args.error.now) old.actor old.office in
    let begun = rw c.in_ok-copy.ensures at c.in_ok-ended.ensures in
    let room : has_letter_room ended.office 1 ≡ true = cc in
    IfOk-weaker c.mail.result _ _ (λ parts office. failed old.before after parts old.actor (error_event c.args.error.now)
    (ended_told old ended after parts (error_event c.args.error.now) c.in-Some.parent begun (sym c.parent.ensures ∙ c.in-Some.is) room
    (rw (c.in_ok-event.ensures, c.in_ok-copy-2.ensures, c.child_id.ensures) at office))) c.mail.ensures.office
