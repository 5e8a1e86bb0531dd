use Rattle.snapshot_text.proofs.validity.limits.is_within_limits.Goals as goal

pub returns-then-not-has_few_letters : goal.returns-then-not-has_few_letters
returns-then-not-has_few_letters c = ((λ yes. absurd cc), (λ valid. absurd (let no = c.has_few_letters.ensures.1 (rw c.as_slice-2.ensures valid.letters) in cc)))

pub returns-then-not-has_few_replies : goal.returns-then-not-has_few_replies
returns-then-not-has_few_replies c = ((λ yes. absurd cc), (λ valid. absurd (let no = c.has_few_replies.ensures.1 (rw c.as_slice-3.ensures valid.replies) in cc)))
