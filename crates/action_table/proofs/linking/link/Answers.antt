use Rattle.action_table.specs.declared.definitions.Defs.{Defs}
use Rattle.action_table.specs.DefNames.{defs_held}
use Rattle.action_table.specs.Linking.{AreLinkedTo}
use Rattle.action_table.proofs.LinkLemmas.{all-named, are-linked, has-ids, is-link, linked-office, linked-well, own-ids, unnamed-reading}
use Rattle.action_table.proofs.linking.link.Goals as goal

pub returns-in-Some-first_unnamed-clause-reading :
    goal.returns-in-Some-first_unnamed-clause-reading
returns-in-Some-first_unnamed-clause-reading c =
    unnamed-reading c.args.machines.now c.args.table.now c.in_ok-ids.ids c.first_unnamed.result c.in-Some-first_unnamed.place
    (own-ids c.args.machines.now c.args.table.now c.in_ok-ids.twice c.in_ok-ids.ensures.twice c.in_default.is)
    (c.in_ok-ids.ensures.ids c.in_default.is) c.first_unnamed.ensures c.in-Some-first_unnamed.is

pub new-requires : goal.new-requires
new-requires c =
    has-ids c.args.machines.now c.args.table.now c.in_ok-ids.ids (defs_held c.in_ok-defs.defs.items) c.requires.machines
    (own-ids c.args.machines.now c.args.table.now c.in_ok-ids.twice c.in_ok-ids.ensures.twice c.in_default.is)
    (c.in_ok-ids.ensures.ids c.in_default.is) c.in_ok-defs.ensures

pub returns-clause-reading : goal.returns-clause-reading
returns-clause-reading c =
    let all : Defs = record { defs = c.new.result; actors = c.in_ok-actors.actors } in
    let linked : AreLinkedTo c.args.machines.now c.args.table.now all =
    are-linked c.args.machines.now c.args.table.now c.in_ok-ids.ids (defs_held c.in_ok-defs.defs.items) all (c.in_ok-ids.ensures.ids c.in_default.is)
    c.in_ok-defs.ensures c.new.ensures c.in_ok-actors.ensures in
    is-link c.args.machines.now c.args.table.now all linked
    (own-ids c.args.machines.now c.args.table.now c.in_ok-ids.twice c.in_ok-ids.ensures.twice c.in_default.is)
    (all-named c.args.machines.now c.args.table.now c.in_ok-ids.ids c.first_unnamed.result (c.in_ok-ids.ensures.ids c.in_default.is) c.first_unnamed.ensures
    c.in_default-first_unnamed.is)

pub returns-clause-well_formed : goal.returns-clause-well_formed
returns-clause-well_formed c =
    let all : Defs = record { defs = c.new.result; actors = c.in_ok-actors.actors } in
    linked-well c.args.machines.now c.args.table.now all c.requires.read
    (are-linked c.args.machines.now c.args.table.now c.in_ok-ids.ids (defs_held c.in_ok-defs.defs.items) all (c.in_ok-ids.ensures.ids c.in_default.is)
    c.in_ok-defs.ensures c.new.ensures c.in_ok-actors.ensures)

pub returns-clause-office : goal.returns-clause-office
returns-clause-office c =
    let all : Defs = record { defs = c.new.result; actors = c.in_ok-actors.actors } in
    linked-office c.args.machines.now c.args.table.now all
    (are-linked c.args.machines.now c.args.table.now c.in_ok-ids.ids (defs_held c.in_ok-defs.defs.items) all (c.in_ok-ids.ensures.ids c.in_default.is)
    c.in_ok-defs.ensures c.new.ensures c.in_ok-actors.ensures)
