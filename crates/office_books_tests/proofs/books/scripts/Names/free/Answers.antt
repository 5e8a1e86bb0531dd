use Rattle.std.proofs.Common.{ℕ, ◌<◌, List, not, nat_eq}
use Rattle.std.proofs.lemmas.List.Elements.{All-filter}
use Rattle.office_books_tests.proofs.books.scripts.Names.free.Goals as goal

pub invariant_of-self : goal.invariant_of-self
invariant_of-self c =
    let names = c.args.self.now.registry.names in
    let next = c.args.self.now.next in
    record {
      newer = rw c.free.ensures.names
          (All-filter (λ (holder : List ℕ × ℕ). not (nat_eq holder.1 c.args.actor)) (λ (holder : List ℕ × ℕ). holder.1 < next) names c.args.self.now.newer);
    }
