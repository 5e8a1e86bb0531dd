use Rattle.snapshot_text.proofs.validity.own_parts.has_begun.Goals as goal

pub returns-then-not-branch : goal.returns-then-not-branch
returns-then-not-branch c = ((λ holds. absurd cc), (λ begun. absurd (let good = c.in_ok-are_child_ids.ensures.1 (rw c.as_slice-ids.ensures begun.children) in let bad = c.if-not-branch.true in cc)))

pub returns-then-not-branch-2 : goal.returns-then-not-branch-2
returns-then-not-branch-2 c = ((λ holds. absurd cc), (λ begun. absurd (let good = c.in_ok-is_configuration.ensures.1 (rw c.as_slice-nodes.ensures begun.configuration) in let bad = c.if-not-branch-2.true in cc)))

pub returns-then-not-branch-3 : goal.returns-then-not-branch-3
returns-then-not-branch-3 c = ((λ holds. absurd cc), (λ begun. absurd (let good = c.in_ok-is_recorded_history.ensures.1 (rw c.as_slice-history.ensures begun.history) in let bad = c.if-not-branch-3.true in cc)))
