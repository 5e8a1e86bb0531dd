use Rattle.std.proofs.Common.{◌≡◌, ◌∙◌, List, ℕ, ap, arith, get_or, subst, sym, take, take_all}
use Rattle.std.specs.Prelude.{fold}
use Rattle.office_types.specs.declared.office.ActorRecord.{ActorRecord}
use Rattle.actor_tree.specs.declared.counts.Counts.{Counts}
use Rattle.actor_tree.specs.declared.notes.Notes.{Notes}
use Rattle.actor_tree.specs.Noted.{without_record}
use Rattle.actor_tree.specs.Notes.{AreLettersNoted}
use Rattle.actor_tree.proofs.NoteListLemmas.{fold_more}
use Rattle.actor_tree.proofs.notes.Notes.drop_mailboxes.Goals as goal

pub drop_mailbox-requires : goal.drop_mailbox-requires
drop_mailbox-requires c = (
  fold (λ (others : List ActorRecord) (number : ℕ). without_record number others) c.requires.0 (take c.loop-number.number-index c.args.numbers.now),
  c.loop-number.invariant.noted c.requires.0 c.requires.1,
)

pub loop-number-preserved : goal.loop-number-preserved
loop-number-preserved c = record {
  noted = λ actors is.
      subst (AreLettersNoted c.args.held.now.office c.args.actor c.drop_mailbox.new.self)
      (sym (fold_more (λ (others : List ActorRecord) (number : ℕ). without_record number others) actors c.args.numbers.now c.loop-number.number-index 0 c.loop-number-test.true))
      (c.in_ok-drop_mailbox.ensures.noted (fold (λ (others : List ActorRecord) (number : ℕ). without_record number others) actors (take c.loop-number.number-index c.args.numbers.now)) (c.loop-number.invariant.noted actors is));
  next =
      ap (λ (notes : Notes). notes.counts) c.in_ok-drop_mailbox.ensures.rest
      ∙ ap (λ (counts : Counts). record counts { waiting = c.drop_mailbox.new.self.counts.waiting }) c.loop-number.invariant.next;
}

pub returns : goal.returns
returns c = record {
  noted = λ actors is.
      subst (λ (numbers : List ℕ). AreLettersNoted c.args.held.now.office c.args.actor c.loop-number.self (fold (λ (others : List ActorRecord) (number : ℕ). without_record number others) actors numbers))
      (take_all c.loop-number.number-index c.args.numbers.now c.loop-number-test.false) (c.loop-number.invariant.noted actors is);
  next = c.loop-number.invariant.next;
}
