use Rattle.std.proofs.Common.{ℕ, ◌<◌, length, subst}
use Rattle.std.proofs.lemmas.List.{length-map}
use Rattle.action_table.specs.Definitions.{machine_outline, office_definitions}
use Rattle.actor_tree.proofs.OwnPartLemmas.{allowed_effects, allowed_own}
use Rattle.actor_tree.proofs.step_parts.step_parts.Goals as goal

pub add_outcome-requires-clause-machine : goal.add_outcome-requires-clause-machine
add_outcome-requires-clause-machine c =
    let own = c.requires.allowed in
    subst (λ (n : ℕ). c.args.outcome.now.own.def < n) (length-map c.args.defs.now.defs machine_outline)
    (allowed_own (office_definitions c.args.defs.now) c.args.held.now.office c.args.actor own.0 c.args.outcome.now c.requires.valid own.1 own.2).machine

pub add_outcome-requires-clause-in_order : goal.add_outcome-requires-clause-in_order
add_outcome-requires-clause-in_order c =
    let own = c.requires.allowed in
    (allowed_own (office_definitions c.args.defs.now) c.args.held.now.office c.args.actor own.0 c.args.outcome.now c.requires.valid own.1 own.2).in_order

pub add_outcome-requires-clause-effects : goal.add_outcome-requires-clause-effects
add_outcome-requires-clause-effects c =
    let own = c.requires.allowed in
    allowed_effects (office_definitions c.args.defs.now) own.0 c.args.outcome.now own.2
