use Rattle.std.proofs.Common.{◌≡◌, ◌∙◌, ◌∷◌, [], ◌++◌, List, None, ℕ, ap, refl, subst, sym}
use Rattle.std.specs.Prelude.{IfSome, Option, unwrap_or}
use Rattle.office_types.specs.declared.office.OfficeState.{OfficeState}
use Rattle.office_types.specs.Effects.{with_kid}
use Rattle.office_types.specs.Records.{with_actor}
use Rattle.office_types.specs.SystemNames.{holder_of}
use Rattle.actor_tree.specs.declared.part.Part.{Part}
use Rattle.actor_tree.specs.declared.part.Part.TheVariants as part
use Rattle.actor_tree.specs.Changes.{AheadOffice}
use Rattle.actor_tree.specs.Notes.{IsAhead}
use Rattle.actor_tree.specs.Parts.{put, with_newcomer}
use Rattle.actor_tree.proofs.AheadSpawnLemmas.{spawned, unheld}
use Rattle.actor_tree.proofs.PartLemmas.{put_push}
use Rattle.actor_tree.proofs.ahead.Ahead.spawn.Goals as goal

pub make-requires-clause-free : goal.make-requires-clause-free
make-requires-clause-free c =
    let inside = c.self.inside in
    let child = c.requires.child in
    subst (λ (o : Option (List ℕ)). IfSome o (λ name. holder_of name inside.notes.names.names ≡ None)) (sym (child.2.complete.name ∙ child.2.system_is))
    (unheld inside.held.now.office inside.actor inside.parts.items inside.notes c.self.invariant child.1 (rw (← c.self.view_is) at child.3.name_free))

pub invariant_of-result : goal.invariant_of-result
invariant_of-result c =
    let inside = c.self.inside in
    let before = inside.held.now.office in
    let child = c.requires.child in
    let parts : c.push-2.new.self.items ≡ (inside.parts.items ++ part.Make c.args.child ∷ []) ++ part.Join inside.actor c.args.id inside.notes.counts.next_actor ∷ [] =
    c.in_ok-push-2.ensures.items ∙ ap (λ (ps : List Part). ps ++ part.Join inside.actor c.args.id inside.notes.counts.next_actor ∷ []) c.in_ok-push.ensures.items in
    subst (λ (ps : List Part). IsAhead before inside.actor ps c.set_kid.new.self) (sym parts)
    (spawned before inside.actor inside.parts.items inside.notes c.self.invariant c.args.child c.args.id child.0 child.1 c.make.new.self c.set_kid.new.self c.unwrap_or-first.result
    (rw (← c.self.view_is) at child.2) (rw (← c.self.view_is) at child.3) (rw (← c.self.view_is) at c.requires.item) c.in_ok-make.ensures (c.unwrap_or-first.ensures ∙ ap (λ (o : Option ℕ). unwrap_or o inside.notes.counts.next_actor) (rw (← c.self.view_is) at c.child_named.ensures.child)) c.in_ok-set_kid.ensures)

pub returns : goal.returns
returns c =
    let inside = c.self.inside in
    let before = inside.held.now.office in
    let after : OfficeState → AheadOffice = λ (office : OfficeState). record { before = before; actor = inside.actor; office = office } in
    let join : ℕ → OfficeState = λ (n : ℕ). with_actor (with_newcomer (put before inside.parts.items) c.args.child) inside.actor (with_kid c.args.id n) in
    rw (← c.self.view_is)
    (ap after
    (ap (put before) (c.in_ok-push-2.ensures.items ∙ ap (λ (ps : List Part). ps ++ part.Join inside.actor c.args.id inside.notes.counts.next_actor ∷ []) c.in_ok-push.ensures.items)
    ∙ put_push before (inside.parts.items ++ part.Make c.args.child ∷ []) (part.Join inside.actor c.args.id inside.notes.counts.next_actor)
    ∙ ap (λ (o : OfficeState). with_actor o inside.actor (with_kid c.args.id inside.notes.counts.next_actor)) (put_push before inside.parts.items (part.Make c.args.child))
    ∙ ap join c.self.invariant.told.counts.next_actor))
