use Rattle.std.proofs.Common.{◌≡◌, List, ℕ, take}
use Rattle.std.specs.Prelude.{fold}
use Rattle.office_types.specs.declared.office.ActorRecord.{ActorRecord}
use Rattle.actor_tree.specs.Noted.{without_record}
use Rattle.actor_tree.specs.Notes.{AreLettersNoted}
use Rattle.actor_tree.proofs.notes.Notes.drop_mailboxes.Given as goal

-- those so far are gone
abbrev pub invariant-loop-number : goal.invariant-loop-number
invariant-loop-number l = record {
  noted : (actors : List ActorRecord) → AreLettersNoted l.held.office l.actor l.fn.self actors
      → AreLettersNoted l.held.office l.actor l.self (fold (λ (others : List ActorRecord) (number : ℕ). without_record number others) actors (take l.number-index l.numbers));
  next : l.self.counts ≡ record l.fn.self.counts { waiting = l.self.counts.waiting };
}
