use Rattle.std.proofs.Common.{refl, rules}
use Rattle.actor_tree.specs.Noted.{face_of, faces_of}
use Rattle.actor_tree.proofs.FaceLemmas.{face_number, record_number, rises_from}
use Rattle.actor_tree.proofs.FitLemmas.{advance_fits, letters_room}
use Rattle.actor_tree.proofs.GrantLemmas.{advanced}
use Rattle.actor_tree.proofs.NoteListLemmas.{rises_through}
use Rattle.actor_tree.proofs.NotedValidLemmas.{valid_rise}
use Rattle.action_table.specs.Definitions.{office_definitions}
use Rattle.actor_tree.proofs.asks.advance.Goals as goal

pub returns : goal.returns
returns c =
    let office = c.args.held.now.office in
    let rise = rises_through record_number face_number face_of (λ a. refl) office.actors
    (rises_from (faces_of office.actors) (valid_rise (office_definitions c.args.defs.now) office c.requires.valid)) in
    record {
      answer = record {
        unrefused = search rules;
        reply_is = search rules;
        change = rw (c.in_ok-deliveries.ensures, c.in_ok-due.ensures) (advanced office c.args.moment);
        fits = rw c.in_ok-deliveries.ensures (advance_fits office c.in_ok-due.due c.args.moment rise (letters_room office _ (search rules)));
      };
    }
