use Rattle.std.proofs.Common.{◌≤◌, ℕ, List, length, ap, sym, arith}
use Rattle.std.specs.Option.{option_map}
use Rattle.std.proofs.lemmas.Option.{get_or_from_slice_get, slice_get_within}
use Rattle.action_table.specs.declared.definitions.Actor.{Actor}
use Rattle.action_table.specs.declared.table.TableActor.{TableActor}
use Rattle.action_table.specs.Linking.{linked_actor}
use Rattle.action_table.proofs.ThereLemmas.{there-all, there-more}
use Rattle.action_table.proofs.linked_actors.linked_actors.Goals as goal

pub loop-place-preserved : goal.loop-place-preserved
loop-place-preserved c =
    let row : List ℕ × TableActor = (c.row_at.result.0.now, c.row_at.result.1.now) in
    let linked : List ℕ × Actor = (c.row_at.result.0.now, c.in_ok-logic.logic) in
    rw c.in_ok-put_actor.ensures
    (there-more (linked_actor c.args.ids.now) c.args.actors.now c.loop-place.place row c.loop-place.linked linked
    (slice_get_within c.args.actors.now c.loop-place.place row c.row_at.ensures) (sym (get_or_from_slice_get c.args.actors.now c.loop-place.place row row c.row_at.ensures))
    c.loop-place.invariant (ap (option_map (λ (logic : Actor). (c.row_at.result.0.now, logic))) c.in_ok-logic.ensures))

pub returns : goal.returns
returns c =
    let past : length c.args.actors.now ≤ c.loop-place.place = omega arith in
    there-all (linked_actor c.args.ids.now) c.args.actors.now c.loop-place.place c.loop-place.linked past c.loop-place.invariant
