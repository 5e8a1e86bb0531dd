use Rattle.std.proofs.Common.{◌∙◌, ◌↔◌, IsTrue, List, ℕ, inl, inr, subst, sym, take}
use Rattle.std.proofs.lemmas.List.{take_all}
use Rattle.std.specs.BTreeSet.{contains}
use Rattle.std.specs.Ordering.{nat_cmp}
use Rattle.step_sets.specs.Entries.{LeadsToGoal}
use Rattle.step_sets.proofs.PathLemmas.{leads_more, leads_parents}
use Rattle.step_sets.proofs.PreemptionLemmas.{taken_one}
use Rattle.step_sets.proofs.entries.first_prospects.Goals as goal

pub add_path-requires-clause-parents : goal.add_path-requires-clause-parents
add_path-requires-clause-parents c =
    leads_parents c.args.tree.now (take c.loop-goal.goal-index c.args.goals.now) (contains nat_cmp c.loop-goal.nodes) c.loop-goal.invariant

pub loop-goal-preserved : goal.loop-goal-preserved
loop-goal-preserved c = λ n.
    leads_more c.args.tree.now c.args.goals.now c.loop-goal.goal-index n (contains nat_cmp c.loop-goal.nodes n) (contains nat_cmp c.add_path.new.nodes n) c.loop-goal-test.true (c.loop-goal.invariant n) (c.in_ok-add_path.ensures n)

pub returns : goal.returns
returns c = λ n.
    let nodes = c.args.tree.now in
    let goals = c.args.goals.now in
    let was = contains nat_cmp c.loop-goal.nodes n in
    let P : List ℕ → Type 0 = λ xs. IsTrue was ↔ LeadsToGoal nodes xs n in
    let leads = subst P (take_all c.loop-goal.goal-index goals c.loop-goal-test.false) (c.loop-goal.invariant n) in
    let one = taken_one was (contains nat_cmp c.insert.new.self n) c.top_of.result n (c.in_ok-insert.ensures.updates.0 n) in (
      (λ h. elim (one.0 h) [ inl w ↦ inl (leads.0 w) | inr same ↦ inr (same ∙ c.top_of.ensures) ]),
      (λ h. one.1 (elim h [ inl l ↦ inl (leads.1 l) | inr same ↦ inr (same ∙ sym c.top_of.ensures) ])),
    )
