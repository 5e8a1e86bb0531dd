-- How a run of calls on a source and a sink goes on.
use Rattle.std.proofs.Common.{◌≡◌, ℕ, ◌≤◌, List, [], ◌++◌, refl, sym, ◌∙◌, ap, arith, append_assoc}
use Rattle.std.proofs.lemmas.List.{append-nil}
use Rattle.std.specs.Prelude.{Some, None}
use Rattle.std.specs.Io.KnownBytes.{prepend_known, append_known}
use Rattle.std.specs.declared.option.Option.{Option}
use Rattle.xs_outside.specs.Counts.{Rose}

-- before the first read
pub took_none : (left : Option (List ℕ)) → left ≡ prepend_known [] left
took_none None = refl
took_none (Some text) = refl

-- one read more
pub took_more : (first second third : Option (List ℕ)) (xs ys : List ℕ) → first ≡ prepend_known xs second → second ≡ prepend_known ys third → first ≡ prepend_known (xs ++ ys) third
took_more first second None xs ys one two = one ∙ ap (λ o. prepend_known xs o) two
took_more first second (Some rest) xs ys one two = one ∙ ap (λ o. prepend_known xs o) two ∙ ap (λ l. Some l) (sym (append_assoc xs ys rest))

-- before the first write
pub added_none : (written : Option (List ℕ)) → written ≡ append_known written []
added_none None = refl
added_none (Some text) = ap (λ l. Some l) (sym (append-nil text))

-- one write more
pub added_more : (first second third : Option (List ℕ)) (xs ys : List ℕ) → second ≡ append_known first xs → third ≡ append_known second ys → third ≡ append_known first (xs ++ ys)
added_more None second third xs ys one two = two ∙ ap (λ o. append_known o ys) one
added_more (Some text) second third xs ys one two = two ∙ ap (λ o. append_known o ys) one ∙ ap (λ l. Some l) (append_assoc text xs ys)

-- a source that tells its bytes still tells the rest of them
pub told_rest : (left : Option (List ℕ)) (xs text : List ℕ) → Some text ≡ prepend_known xs left → (rest : List ℕ) × (left ≡ Some rest) × (text ≡ xs ++ rest)
told_rest None xs text is = absurd (cc is)
told_rest (Some rest) xs text is = (rest, refl, cc is)

-- a count that rose stays risen
pub rose_later : (first second third : ℕ) → Rose first second → second ≤ third → Rose first third
rose_later first second third rose later = omega (arith, rose, later)

-- a count that rose later rose
pub later_rose : (first second third : ℕ) → first ≤ second → Rose second third → Rose first third
later_rose first second third later rose = omega (arith, rose, later)
