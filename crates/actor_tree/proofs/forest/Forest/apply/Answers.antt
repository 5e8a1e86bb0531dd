use Rattle.action_table.specs.Definitions.{office_definitions}
use Rattle.office_types.specs.ValidOffice.{IsValidOffice}
use Rattle.actor_tree.specs.Parts.{put}
use Rattle.actor_tree.proofs.ValidLemmas.{put_callers, put_entries}
use Rattle.actor_tree.proofs.forest.Forest.apply.Goals as goal

pub invariant_of-self : goal.invariant_of-self
invariant_of-self c =
    let inside = c.self.inside in
    let parts = c.args.change.parts in
    let valid : IsValidOffice (office_definitions inside.defs.value) (put inside.held.office parts) = rw (← c.self.view_is) at c.requires.valid in
    record {
      linked = c.self.invariant.linked;
      valid = rw c.put_all.ensures.office valid;
      callers = rw c.put_all.ensures.office (put_callers parts inside.held.office c.self.invariant.callers);
      entries = rw c.put_all.ensures.office (put_entries parts inside.held.office c.self.invariant.entries);
      heads_are = c.put_all.ensures.heads;
    }
