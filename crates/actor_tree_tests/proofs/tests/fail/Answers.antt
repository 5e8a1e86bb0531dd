use Rattle.std.proofs.Common.{◌≡◌, ◌∙◌, Some, ap, rules, sym}
use Rattle.office_types.specs.declared.outcome.Own.{Own}
use Rattle.office_types.specs.Observation.{own_of}
use Rattle.actor_tree_tests.proofs.tests.fail.Goals as goal

pub prepare-requires-clause-allowed : goal.prepare-requires-clause-allowed
prepare-requires-clause-allowed c =
    let held : own_of c.args.forest.now.office c.args.actor ≡ Some c.in-Some.own.now = search rules in
    (c.in-Some.own.now, held, (record { own_part = c.in_ok-copy_own.ensures; effects = search rules; micros = search rules }, search rules))
