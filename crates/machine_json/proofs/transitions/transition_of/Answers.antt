use Rattle.std.proofs.Common.{refl, map}
use Rattle.ordered_json.specs.Words.{member_parts}
use Rattle.machine_json.proofs.TransitionLemmas.{transition_means}
use Rattle.machine_json.proofs.transitions.transition_of.Goals as goal

pub returns : goal.returns
returns c =
    transition_means c.args.outline.now c.args.source c.args.descriptor.now c.args.json.now (map member_parts c.members_of-members.result.now) c.target_texts.result.now _
    c.members_of-members.ensures c.target_texts.ensures refl c.in_ok-from_str.ensures c.in_ok-targets_of.ensures c.is_reentering.ensures c.in_ok-guard_under.ensures c.in_ok-actions_under.ensures
