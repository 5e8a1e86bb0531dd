use Rattle.std.proofs.lemmas.List.Elements.{Contains-get_or}
use Rattle.step_sets.specs.Sets.{IsSetOf}
use Rattle.microstep.specs.Readings.{looking_of}
use Rattle.microstep.specs.Selection.{IsLeftBy}
use Rattle.microstep.proofs.ExitLemmas.{AllZip-more}
use Rattle.microstep.proofs.selection.exits_of.Goals as goal

pub of-requires-clause-of_tree : goal.of-requires-clause-of_tree
of-requires-clause-of_tree c =
    let nodes = c.args.reading.now.own.now.nodes in
    rw c.as_slice.ensures (λ k d inside. c.requires.begun.configuration.legal.of_tree _ (Contains-get_or nodes k d inside))

pub loop-place-preserved : goal.loop-place-preserved
loop-place-preserved c =
    rw c.in_ok-push.ensures.items
    (AllZip-more (λ place. IsSetOf (IsLeftBy (looking_of c.args.reading.now) place)) c.args.picked.now c.loop-place.exits.items c.loop-place.place-index _ _ c.loop-place-test.true c.loop-place.invariant c.in_ok-exits_at.ensures)
