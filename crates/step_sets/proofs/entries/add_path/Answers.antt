use Rattle.std.proofs.Common.{ℕ, Option, IsTrue, arith, inl, inr, subst, sym}
use Rattle.std.specs.BTreeSet.{contains}
use Rattle.std.specs.Ordering.{nat_cmp}
use Rattle.step_sets.proofs.PathLemmas.{IsOnPath, path_met, path_more}
use Rattle.step_sets.proofs.PreemptionLemmas.{taken_one}
use Rattle.step_sets.proofs.entries.add_path.Goals as goal

pub returns-then-not-branch : goal.returns-then-not-branch
returns-then-not-branch c = λ n.
    let nodes = c.args.tree.now in
    let old = contains nat_cmp c.args.nodes.now in
    let was = contains nat_cmp c.loop-at.nodes in
    let node = c.in-Some.node in
    let met : IsTrue (was node) = let added = c.in_ok-insert.ensures.added in let off = c.if-not-branch.true in grind arith in
    let P : Option ℕ → Type 0 = λ x. IsOnPath nodes c.args.low old was x in
    let all = path_met nodes c.len-nodes.ensures.tree c.args.low old was node c.requires.parents (subst P c.in-Some.is c.loop-at.invariant) met n in
    let one = taken_one (was n) (contains nat_cmp c.insert.new.self n) node n (c.in_ok-insert.ensures.updates.0 n) in
    let Q : ℕ → Type 0 = λ x. IsTrue (was x) in (
      (λ h. all.0 (elim (one.0 h) [ inl w ↦ w | inr same ↦ subst Q (sym same) met ])),
      (λ h. one.1 (inl (all.1 h))),
    )

pub loop-at-preserved : goal.loop-at-preserved
loop-at-preserved c =
    let nodes = c.args.tree.now in
    let old = contains nat_cmp c.args.nodes.now in
    let was = contains nat_cmp c.loop-at.nodes in
    let node = c.in-Some.node in
    let P : Option ℕ → Type 0 = λ x. IsOnPath nodes c.args.low old was x in
    rw c.parent-at.ensures.parent
    (path_more nodes c.len-nodes.ensures.tree c.args.low old was (contains nat_cmp c.insert.new.self) node (subst P c.in-Some.is c.loop-at.invariant)
    (λ n. taken_one (was n) (contains nat_cmp c.insert.new.self n) node n (c.in_ok-insert.ensures.updates.0 n)))
