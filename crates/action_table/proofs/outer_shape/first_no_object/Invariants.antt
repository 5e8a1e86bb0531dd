use Rattle.std.proofs.Common.{take}
use Rattle.action_table.specs.OuterShape.{IsNoObject, IsPlaceAmong}
use Rattle.action_table.specs.TablePlaces.{IsLeastOf}
use Rattle.action_table.proofs.outer_shape.first_no_object.Given as goal

abbrev pub invariant-loop-item : goal.invariant-loop-item
invariant-loop-item l = IsLeastOf (IsPlaceAmong IsNoObject (take l.item-index l.items)) l.least
