use Rattle.std.proofs.Common.{◌∙◌, arith, sym}
use Rattle.actor_tree.proofs.AheadLemmas.{levels_same}
use Rattle.actor_tree.proofs.ahead.Ahead.has_level_below.Goals as goal

pub returns : goal.returns
returns c =
    let inside = c.self.inside in
    rw (← c.self.view_is) (c.is_within_levels.ensures ∙ sym (levels_same inside.held.now.office inside.actor inside.parts.items inside.notes c.self.invariant 15 inside.actor (omega arith)))
