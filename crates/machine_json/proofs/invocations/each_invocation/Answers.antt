use Rattle.std.proofs.Common.{length, map, refl}
use Rattle.std.proofs.lemmas.Option.{slice_get_read}
use Rattle.ordered_json.specs.Words.{member_parts}
use Rattle.machine_json.proofs.InvocationLemmas.{one_more}
use Rattle.machine_json.proofs.invocations.each_invocation.Goals as goal

pub loop-place-preserved : goal.loop-place-preserved
loop-place-preserved c =
    rw c.in_ok-push.ensures.items
    (one_more c.args.node.now c.args.jsons.now c.loop-place.place c.index-jsons-place.result (map member_parts c.members_of.result.now) c.loop-place.invocations.items c.in_ok-one.one
    (slice_get_read c.args.jsons.now (length c.args.jsons.now) c.loop-place.place c.index-jsons-place.result refl c.loop-place-test.true c.index-jsons-place.is)
    c.members_of.ensures c.loop-place.invariant c.in_ok-one.ensures)
