use Rattle.std.proofs.Common.{◌≡◌, arith, refl, ℕ}
use Rattle.std.specs.BTreeSet.{contains}
use Rattle.std.specs.Ordering.{nat_cmp}
use Rattle.actor_tree.specs.Notes.{noted}
use Rattle.actor_tree.proofs.NotedLookLemmas.{gone_more, letters_split}
use Rattle.actor_tree.proofs.NotedRecordLemmas.{records_dropped}
use Rattle.actor_tree.proofs.notes.Notes.drop_mailbox.Goals as goal

pub overflow_sub-self : goal.overflow_sub-self
overflow_sub-self c =
    let actors = c.requires.0 in
    let is = c.requires.1 in
    let all = letters_split c.args.held.now.office c.args.actor (noted c.args.self.now) actors is.records c.args.number in
    omega (arith, all, is.waiting, c.letters_of-letters.ensures actors is)

pub returns-clause-noted : goal.returns-clause-noted
returns-clause-noted c = λ actors is.
    let before = c.args.held.now.office in
    let old = noted c.args.self.now in
    let all = letters_split before c.args.actor old actors is.records c.args.number in
    record {
      records = records_dropped before c.args.actor old _ c.args.number actors is.records refl (λ m. refl)
          (gone_more (contains nat_cmp c.insert.new.self) (contains nat_cmp c.args.self.now.gone) c.args.number c.in_ok-insert.ensures.updates.0);
      waiting = omega (arith, all, is.waiting, c.letters_of-letters.ensures actors is);
      fits = omega (arith, is.fits);
    }
