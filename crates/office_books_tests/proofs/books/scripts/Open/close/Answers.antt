use Rattle.std.proofs.Common.{◌<◌, not, nat_eq}
use Rattle.std.proofs.lemmas.List.Elements.{All-filter}
use Rattle.office_types.specs.declared.office.Item.{Item}
use Rattle.office_books_tests.proofs.books.scripts.Open.close.Goals as goal

pub invariant_of-self : goal.invariant_of-self
invariant_of-self g c =
    let items = c.args.self.now.items.items in
    let next = c.args.self.now.next in
    record {
      newer = rw c.close.ensures.items
          (All-filter (λ (item : Item). not (nat_eq item.actor c.args.actor)) (λ (item : Item). item.actor < next) items c.args.self.now.newer);
    }
