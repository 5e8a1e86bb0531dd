use Rattle.std.proofs.lemmas.Cmp.{nat_cmp_total}
use Rattle.office_types.specs.declared.office.Item.{Item}
use Rattle.office_books.proofs.SortedLemmas.{rises_push}
use Rattle.office_books.proofs.ItemLemmas.{above_all}
use Rattle.office_books.proofs.items.Items.open.Goals as goal
use Rattle.office_books.proofs.items.Items.open.Goals.{in-Ok, in-Err}

pub invariant_of-self : goal.invariant_of-self
invariant_of-self c =
    let items = c.self.inside.items.items in
    let above = rw (← c.self.view_is) at c.requires in
    elim c.match-push.branch [
      | in-Ok w ↦ rw w.in-Ok.ensures.items (rises_push nat_cmp_total (λ (item : Item). item.actor) items c.args.item c.self.invariant (above_all items c.args.item.actor above))
      | in-Err w ↦ rw w.in-Err.ensures.items c.self.invariant
    ]
