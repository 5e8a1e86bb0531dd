use Rattle.std.proofs.Common.{◌∙◌, ℕ, get_or, below_more, refl, subst, sym, arith}
use Rattle.std.proofs.lemmas.Option.{get_or_from_slice_get, slice_get_within}
use Rattle.std.proofs.lemmas.List.Elements.{Contains-get_or}
use Rattle.snapshot_text.specs.Configurations.{FitsAt}
use Rattle.snapshot_text.proofs.ConfigurationLemmas.{fits_by_legal, legal_from_each, place_of, top_first}
use Rattle.snapshot_text.proofs.validity.configurations.is_legal_from.Goals as goal

pub returns-then-first-top : goal.returns-then-first-top
returns-then-first-top c = (
  (λ yes. absurd cc),
  (λ legal. absurd (
      let first = top_first c.args.tree.now c.len-count.ensures.tree c.args.nodes.now c.requires.rise c.args.top legal in
      c.if-first-top.true (sym (get_or_from_slice_get c.args.nodes.now 0 c.in-Some.first.now 0 (sym c.in-Some.ensures.value)) ∙ first.1))),
)

pub returns-then-not-branch : goal.returns-then-not-branch
returns-then-not-branch c = (
  (λ yes. absurd cc),
  (λ legal. absurd (
      let member = Contains-get_or c.args.nodes.now c.loop-place.place 0 c.loop-place-test.true in
      let fits = fits_by_legal c.args.tree.now c.len-count.ensures.tree c.args.nodes.now c.requires.rise c.args.top legal (get_or c.args.nodes.now c.loop-place.place 0) member in
      let yes = c.in_ok-fits_at.ensures.1 fits in
      let no = c.if-not-branch.true in
      cc)),
)

pub loop-place-preserved : goal.loop-place-preserved
loop-place-preserved c = below_more (λ (k : ℕ). FitsAt c.args.tree.now c.args.nodes.now c.args.top (get_or c.args.nodes.now k 0)) c.loop-place.place c.loop-place.invariant (c.in_ok-fits_at.ensures.0 c.if-not-branch.false)

pub returns : goal.returns
returns c = (
  (λ yes.
      let value = sym c.in-Some.ensures.value in
      legal_from_each c.args.tree.now c.len-count.ensures.tree c.args.nodes.now c.requires.rise c.args.top
      (slice_get_within c.args.nodes.now 0 c.in-Some.first.now value)
      (get_or_from_slice_get c.args.nodes.now 0 c.in-Some.first.now 0 value ∙ c.if-first-top.false)
      (λ n has.
      let (k, inside, is) = place_of c.args.nodes.now n has in
      let P : ℕ → Type 0 = λ x. FitsAt c.args.tree.now c.args.nodes.now c.args.top x in
      subst P is (c.loop-place.invariant k (omega arith)))),
  (λ legal. refl),
)
