use Rattle.std.proofs.Common.{◌<◌, length}
use Rattle.std.proofs.lemmas.List.Elements.{Contains-get_or}
use Rattle.step_sets.proofs.SetLemmas.{All-from_set}
use Rattle.microstep.proofs.MoveLemmas.{kept-and-entered, records-named}
use Rattle.microstep.proofs.moves.move_of.Goals as goal

pub left_by_all-requires-clause-active : goal.left_by_all-requires-clause-active
left_by_all-requires-clause-active c = rw c.from_rising-active.ensures (λ k d inside. c.requires.begun.configuration.legal.of_tree _ (Contains-get_or c.args.own.nodes k d inside))

pub recorded_after-requires-clause-active : goal.recorded_after-requires-clause-active
recorded_after-requires-clause-active c = rw c.from_rising-active.ensures (λ k d inside. c.requires.begun.configuration.legal.of_tree _ (Contains-get_or c.args.own.nodes k d inside))

pub recorded_after-requires-clause-left : goal.recorded_after-requires-clause-left
recorded_after-requires-clause-left c =
    let left = rw c.from_rising-active.ensures at c.in_ok-left.ensures in
    All-from_set (λ n. n < length c.args.def.now.tree) _ left (λ n (transition, has, (domain, moves, exited)). c.requires.begun.configuration.legal.of_tree n exited.0)

pub recorded_after-requires-clause-old : goal.recorded_after-requires-clause-old
recorded_after-requires-clause-old c = records-named c.args.def.now.tree c.args.own.history c.requires.begun.history

pub returns-clause-moves : goal.returns-clause-moves
returns-clause-moves c =
    let kept = rw (c.as_slice.ensures.nodes, c.from_rising-active.ensures) at c.in_ok-kept.ensures in
    let both = rw c.as_slice-2.ensures.nodes at c.in_ok-union.ensures in
    record {
      left = rw (c.from_rising-active.ensures, c.as_slice-places.ensures) at c.in_ok-left.ensures;
      history = rw c.from_rising-active.ensures at c.in_ok-history.ensures.history;
      entered = rw c.as_slice-places.ensures at c.in_ok-entered.ensures;
      configuration = rw c.from_vec-configuration.ensures (kept-and-entered c.args.own.nodes c.in_ok-left.left c.in_ok-entered.entered _ _ kept both);
    }
