use Rattle.std.proofs.Common.{◌≡◌, ◌∷◌}
use Rattle.std.specs.List.{filter_map}
use Rattle.actor_tree.specs.declared.part.Part.{Part}
use Rattle.actor_tree.specs.declared.part.Part.TheVariants as part
use Rattle.actor_tree.specs.Asks.{delivery}
use Rattle.actor_tree.proofs.asks.deliveries.Given as goal

-- the letters of the timers so far
abbrev pub invariant-loop-timer : goal.invariant-loop-timer
invariant-loop-timer l = l.parts.items ≡ part.Advance l.moment ∷ filter_map (delivery l.held.office) l.yielded
