use Rattle.std.proofs.Common.{refl, rules}
use Rattle.office_types.specs.Ends.{error_record, letters_to_parent}
use Rattle.office_types.specs.Events.{error_event}
use Rattle.actor_tree.specs.declared.part.Part.TheVariants as part
use Rattle.actor_tree.proofs.FitLemmas.{end_fits, end_room}
use Rattle.actor_tree.proofs.GrantLemmas.{error_keeps, end_told, mail_to_parent}
use Rattle.actor_tree.proofs.asks.reject.Goals as goal

pub returns : goal.returns
returns c =
    let office = c.args.held.now.office in
    let event = error_event c.args.error.now in
    record {
      answer = record {
        unrefused = search rules;
        reply_is = search rules;
        change = rw (c.in_ok-and_mail.ensures, c.in_ok-mail.ensures, c.in_ok-copy.ensures)
            (end_told office (error_record c.args.error.now) c.args.item event (error_keeps c.args.error.now));
        fits = rw (c.in_ok-and_mail.ensures, c.in_ok-mail.ensures, c.in_ok-copy.ensures, c.in_ok-subtree.ensures)
            (end_fits office c.args.item (error_record c.args.error.now) (λ a. refl) (part.Fail c.args.item c.args.error.now _) (mail_to_parent office c.args.item event)
            refl refl (λ s p room. room) (end_room office c.args.item (letters_to_parent office c.args.item) (search rules)));
      };
    }
