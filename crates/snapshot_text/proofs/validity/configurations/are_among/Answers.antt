use Rattle.std.proofs.Common.{refl, arith}
use Rattle.std.specs.List.{Contains}
use Rattle.std.proofs.lemmas.List.Elements.{All-more}
use Rattle.snapshot_text.proofs.ListLemmas.{whole_in}
use Rattle.snapshot_text.proofs.validity.configurations.are_among.Goals as goal

pub returns-then-not-has : goal.returns-then-not-has
returns-then-not-has c = ((λ yes. absurd cc), (λ all. absurd (let no = c.has.ensures.1 (all c.loop-other.other-index 0 (omega arith)) in cc)))

pub loop-other-preserved : goal.loop-other-preserved
loop-other-preserved c = All-more (Contains c.args.nodes.now) c.args.others.now c.loop-other.other-index 0 (omega arith) c.loop-other.invariant (c.has.ensures.0 c.if-not-has.false)

pub returns : goal.returns
returns c = ((λ yes. whole_in (Contains c.args.nodes.now) c.args.others.now c.args.others.now refl c.loop-other.other-index (omega arith) c.loop-other.invariant), (λ all. refl))
