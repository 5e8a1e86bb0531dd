use Rattle.std.proofs.Common.{◌≡◌, min, map, take}
use Rattle.std.specs.Map.{values_of}
use Rattle.xs_model.specs.Compact.{nesting, greatest_depth}
use Rattle.xs_model.proofs.nesting.+depth.Given as goal

abbrev pub invariant-loop-member : goal.invariant-loop-member
invariant-loop-member l = l.deepest ≡ min (greatest_depth (map nesting (take l.member-index l.member-items))) 4294967295

abbrev pub invariant-loop-member-2 : goal.invariant-loop-member-2
invariant-loop-member-2 l = l.deepest ≡ min (greatest_depth (map nesting (values_of (take l.member-index l.member-items)))) 4294967295
