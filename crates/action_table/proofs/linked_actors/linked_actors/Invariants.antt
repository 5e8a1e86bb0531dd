use Rattle.std.proofs.Common.{◌≡◌, Some, map, take}
use Rattle.action_table.specs.Linking.{all_there, linked_actor}
use Rattle.action_table.proofs.linked_actors.linked_actors.Given as goal

abbrev pub invariant-loop-place : goal.invariant-loop-place
invariant-loop-place l = all_there (map (linked_actor l.ids) (take l.place l.actors)) ≡ Some l.linked
