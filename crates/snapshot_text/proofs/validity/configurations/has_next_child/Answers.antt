use Rattle.std.proofs.Common.{◌≡◌, ℕ, refl, subst}
use Rattle.node_tree.specs.Nodes.{IsChild}
use Rattle.snapshot_text.proofs.validity.configurations.has_next_child.Goals as goal

pub returns-in-Some : goal.returns-in-Some
returns-in-Some c = (
  (λ yes. (c.in-Some.next, (c.in-Some.ensures c.in-Some.next).0 refl, c.is_child.ensures.0 yes)),
  (λ (m, after, is). c.is_child.ensures.1 (
      let same : m ≡ c.in-Some.next = (let e = (c.in-Some.ensures m).1 after in cc) in
      let P : ℕ → Type 0 = λ x. IsChild c.args.tree.now x c.args.node in
      subst P same is)),
)

pub returns-in-None : goal.returns-in-None
returns-in-None c = ((λ yes. absurd cc), (λ (m, after, is). absurd (let e = (c.in-None.ensures m).1 after in cc)))
