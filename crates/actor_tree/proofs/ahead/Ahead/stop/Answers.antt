use Rattle.std.proofs.Common.{◌≡◌, ◌∙◌, ◌∷◌, [], ◌++◌, List, ℕ, ap, refl, subst, sym}
use Rattle.std.specs.Option.{option_map_or}
use Rattle.office_types.specs.declared.office.OfficeState.{OfficeState}
use Rattle.office_types.specs.Effects.{child_named}
use Rattle.office_types.specs.Ends.{subtree_of}
use Rattle.actor_tree.specs.declared.part.Part.{Part}
use Rattle.actor_tree.specs.declared.part.Part.TheVariants as part
use Rattle.actor_tree.specs.Changes.{AheadOffice}
use Rattle.actor_tree.specs.Notes.{IsAhead}
use Rattle.actor_tree.specs.Parts.{put}
use Rattle.actor_tree.proofs.AheadStopLemmas.{doomed_later, stopped}
use Rattle.actor_tree.proofs.PartLemmas.{put_push}
use Rattle.actor_tree.proofs.ahead.Ahead.stop.Goals as goal

pub drop_actors-requires-clause-after : goal.drop_actors-requires-clause-after
drop_actors-requires-clause-after c =
    let inside = c.self.inside in
    let before = inside.held.now.office in
    rw c.as_slice.ensures
    (doomed_later before inside.actor inside.parts.items inside.notes c.self.invariant c.args.id c.in_ok-subtree.subtree (child_named (put before inside.parts.items) inside.actor c.args.id) refl (rw (← c.self.view_is) at c.in_ok-subtree.ensures))

pub invariant_of-result : goal.invariant_of-result
invariant_of-result c =
    let inside = c.self.inside in
    let before = inside.held.now.office in
    let subtree = c.in_ok-subtree.subtree in
    let parts : c.push.new.self.items ≡ inside.parts.items ++ part.Stop inside.actor c.args.id subtree ∷ [] = c.in_ok-push.ensures.items in
    subst (λ (ps : List Part). IsAhead before inside.actor ps c.set_kid.new.self) (sym parts)
    (stopped before inside.actor inside.parts.items inside.notes c.self.invariant c.args.id subtree c.drop_actors.new.self c.set_kid.new.self (rw (← c.self.view_is) at c.in_ok-subtree.ensures)
    (rw c.as_slice.ensures at c.in_ok-drop_actors.ensures.noted) (rw c.as_slice.ensures at c.in_ok-drop_actors.ensures.gone) c.in_ok-drop_actors.ensures.machines c.in_ok-set_kid.ensures)

pub returns : goal.returns
returns c =
    let inside = c.self.inside in
    let before = inside.held.now.office in
    let after : OfficeState → AheadOffice = λ (office : OfficeState). record { before = before; actor = inside.actor; office = office } in
    rw (← c.self.view_is) (ap after (ap (put before) c.in_ok-push.ensures.items ∙ put_push before inside.parts.items (part.Stop inside.actor c.args.id c.in_ok-subtree.subtree)))
