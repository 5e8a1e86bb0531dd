use Rattle.std.proofs.Common.{refl, rules}
use Rattle.office_types.specs.Ends.{done_record, letters_to_parent}
use Rattle.office_types.specs.Events.{done_event}
use Rattle.actor_tree.specs.declared.part.Part.TheVariants as part
use Rattle.actor_tree.proofs.FitLemmas.{end_fits, end_room}
use Rattle.actor_tree.proofs.GrantLemmas.{done_keeps, end_told, mail_to_parent}
use Rattle.actor_tree.proofs.asks.resolve.Goals as goal

pub returns : goal.returns
returns c =
    let office = c.args.held.now.office in
    let event = done_event c.args.output.now in
    record {
      answer = record {
        unrefused = search rules;
        reply_is = search rules;
        change = rw (c.in_ok-and_mail.ensures, c.in_ok-mail.ensures, c.in_ok-copy.ensures)
            (end_told office (done_record c.args.output.now) c.args.item event (done_keeps c.args.output.now));
        fits = rw (c.in_ok-and_mail.ensures, c.in_ok-mail.ensures, c.in_ok-copy.ensures, c.in_ok-subtree.ensures)
            (end_fits office c.args.item (done_record c.args.output.now) (λ a. refl) (part.Done c.args.item c.args.output.now _) (mail_to_parent office c.args.item event)
            refl refl (λ s p room. room) (end_room office c.args.item (letters_to_parent office c.args.item) (search rules)));
      };
    }
