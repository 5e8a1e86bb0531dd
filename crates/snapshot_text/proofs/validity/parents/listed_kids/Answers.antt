use Rattle.std.proofs.Common.{◌∙◌, ℕ, List, ap, arith, subst}
use Rattle.std.specs.List.Sorted.{IsPermutation}
use Rattle.std.proofs.lemmas.List.{take_all}
use Rattle.std.proofs.lemmas.List.Sorted.{IsNonDecreasingBy-from_sort}
use Rattle.snapshot_text.specs.Validity.{child_numbers}
use Rattle.snapshot_text.proofs.validity.parents.listed_kids.Goals as goal

pub returns : goal.returns
returns c =
    let new = c.sort_unstable.new.self.items in
    let same = c.loop-actor.invariant ∙ ap child_numbers (take_all c.loop-actor.actor-index c.args.actors.now (omega arith)) in
    let P : List ℕ → Type 0 = λ l. IsPermutation l new in
    record {
      permutation = subst P same c.sort_unstable.ensures.permutation;
      sorted = IsNonDecreasingBy-from_sort (λ (x : ℕ). x) new c.sort_unstable.ensures.sorted;
    }
