use Rattle.std.proofs.Common.{◌-◌, arith}
use Rattle.actor_tree.specs.declared.notes.Notes.{Notes}
use Rattle.actor_tree.specs.Notes.{noted}
use Rattle.actor_tree.proofs.NotedBeginLemmas.{gone_begun, waiting_begun}
use Rattle.actor_tree.proofs.NotesLemmas.{blank_from, notes_begun}
use Rattle.actor_tree.proofs.notes.Notes.begin.Goals as goal

pub overflow_sub-result : goal.overflow_sub-result
overflow_sub-result c =
    let notes : Notes = record {
      gone = c.new.result;
      machines = c.new-2.result;
      kids = c.new-3.result;
      timer_ids = c.new-4.result;
      names = c.new-5.result;
      sent = c.new-6.result;
      counts = record { moment = 0; next_actor = 0; next_letter = 0; next_timer = 0; active = 0; waiting = 0 };
      timers = 0;
    } in
    let blank = blank_from notes c.new.ensures.empty c.new-2.ensures c.new-3.ensures.empty c.new-4.ensures.empty c.new-5.ensures c.new-6.ensures.empty in
    omega (arith, c.waiting.ensures, waiting_begun c.requires.valid.0 c.args.held.now.office c.args.actor (noted notes) c.requires.valid.1 c.requires.ready blank)

pub returns-clause-noted : goal.returns-clause-noted
returns-clause-noted c =
    let notes : Notes = record {
      gone = c.new.result;
      machines = c.new-2.result;
      kids = c.new-3.result;
      timer_ids = c.new-4.result;
      names = c.new-5.result;
      sent = c.new-6.result;
      counts = record { moment = c.moment.result; next_actor = c.next_actor.result; next_letter = c.next_letter.result; next_timer = c.next_timer.result; active = c.active.result; waiting = c.waiting.result - 1 };
      timers = c.timer_count.result;
    } in
    let blank = blank_from notes c.new.ensures.empty c.new-2.ensures c.new-3.ensures.empty c.new-4.ensures.empty c.new-5.ensures c.new-6.ensures.empty in
    notes_begun c.requires.valid.0 c.args.held.now.office c.args.actor notes c.requires.valid.1 c.requires.ready blank c.moment.ensures c.next_actor.ensures c.next_letter.ensures c.next_timer.ensures c.active.ensures
    (omega (arith, c.waiting.ensures, waiting_begun c.requires.valid.0 c.args.held.now.office c.args.actor (noted notes) c.requires.valid.1 c.requires.ready blank)) c.timer_count.ensures

pub returns-clause-gone : goal.returns-clause-gone
returns-clause-gone c =
    let notes : Notes = record {
      gone = c.new.result;
      machines = c.new-2.result;
      kids = c.new-3.result;
      timer_ids = c.new-4.result;
      names = c.new-5.result;
      sent = c.new-6.result;
      counts = record { moment = c.moment.result; next_actor = c.next_actor.result; next_letter = c.next_letter.result; next_timer = c.next_timer.result; active = c.active.result; waiting = c.waiting.result - 1 };
      timers = c.timer_count.result;
    } in
    let blank = blank_from notes c.new.ensures.empty c.new-2.ensures c.new-3.ensures.empty c.new-4.ensures.empty c.new-5.ensures c.new-6.ensures.empty in
    gone_begun c.requires.valid.0 c.args.held.now.office c.args.actor (noted notes) c.requires.valid.1 c.requires.ready blank
