use Rattle.std.proofs.Common.{◌≡◌, ◌∙◌, sym, true}
use Rattle.office_types.specs.Ends.{after_end, done_record}
use Rattle.office_types.specs.Events.{done_event}
use Rattle.office_types.specs.Mailboxes.{has_letter_room}
use Rattle.actor_tree.proofs.ConclusionLemmas.{ended_fits, ended_told}
use Rattle.actor_tree.proofs.conclusion.add_done.Goals as goal

pub returns : goal.returns
returns c =
    let old = c.args.ahead in
    let ended = c.in_ok-ended.ended in
    let after = after_end (done_record c.args.output.now) old.actor old.office in
    let begun = rw c.in_ok-copy.ensures at c.in_ok-ended.ensures in
    let room : has_letter_room ended.office 1 ≡ true = cc in
    let office = rw (c.in_ok-event.ensures, c.in_ok-copy-2.ensures, c.child_id.ensures) at c.in_ok-mail.ensures.office in
    record {
      concludes = (
        ended_told old ended after c.in_ok-mail.field-0 (done_event c.args.output.now) c.in-Some.parent begun (sym c.parent.ensures ∙ c.in-Some.is) room office,
        ended_fits old ended after c.in_ok-mail.field-0 begun c.in_ok-mail.ensures.fits,
      );
    }
