-- What numbered items end as, where a `&mut` to one of them is lent.
use Rattle.std.specs.Prelude.{ℕ, Option}
use Rattle.std.specs.Borrow.{LendsIf, Fml, RattleType, MutBor}
use Rattle.office_books.specs.NumberedItems.{NumberedItems, with_numbered_item}
use Rattle.office_books.specs.contracts.slots.Slots.{the_row}

module _ (T : RattleType) (s : MutBor (NumberedItems T.Denot)) (number : ℕ) where
  -- with this item of the number, and room as before
  abbrev pub items_with : T.Denot → NumberedItems T.Denot
  items_with item = record s.now { items = with_numbered_item number item s.now.items }

  -- once the borrow r ends, the number has the last item written through r, and at `None` all is as it was
  abbrev pub lends_item : Option (MutBor T.Denot) → Fml
  lends_item r = LendsIf (the_row T) T s r items_with s.now
