use Rattle.std.proofs.Common.{◌<◌, length, rules, tests}
use Rattle.std.proofs.lemmas.List.Elements.{Contains-get_or}
use Rattle.microstep.specs.Readings.{looking_of}
use Rattle.microstep.proofs.ExitLemmas.{if-ok, left-set, transition-numbers}
use Rattle.microstep.proofs.selection.exits_at.Goals as goal

pub domain-domain-requires-clause-source : goal.domain-domain-requires-clause-source
domain-domain-requires-clause-source c =
    let reading = c.args.reading.now in
    (transition-numbers c.requires.reading.actors reading.def.now c.requires.reading.well_formed reading.eventless c.args.place c.in-Some.transition.now c.in-Some.ensures).source

pub domain-domain-requires-clause-targets : goal.domain-domain-requires-clause-targets
domain-domain-requires-clause-targets c =
    let reading = c.args.reading.now in
    rw c.as_slice-targets.ensures
    (transition-numbers c.requires.reading.actors reading.def.now c.requires.reading.well_formed reading.eventless c.args.place c.in-Some.transition.now c.in-Some.ensures).targets

pub exit_set-requires-clause-active : goal.exit_set-requires-clause-active
exit_set-requires-clause-active c =
    let nodes = c.args.reading.now.own.now.nodes in
    rw c.requires.active (λ k d inside. c.requires.reading.begun.configuration.legal.of_tree _ (Contains-get_or nodes k d inside))

pub returns : goal.returns
returns c =
    let reading = c.args.reading.now in
    let some : 0 < length c.as_slice-targets.result.now = search (rules, tests) in
    let domain-of = rw c.as_slice-targets.ensures at c.domain-domain.ensures.domain in
    let exits-of = rw c.requires.active at c.exit_set.ensures.exits in
    if-ok c.exit_set.result
    (λ exits set. left-set (looking_of reading) c.len-nodes.ensures.tree c.args.place c.in-Some.transition.now c.in-Some.ensures (rw c.as_slice-targets.ensures at some) c.domain-domain.result domain-of exits set)
    exits-of
