use Rattle.std.proofs.Common.{◌≡◌, ◌∙◌, ◌∷◌, [], ◌++◌, List, ap, refl, subst, sym}
use Rattle.office_types.specs.declared.office.ActorRecord.{ActorRecord}
use Rattle.office_types.specs.declared.office.OfficeState.{OfficeState}
use Rattle.office_types.specs.Ends.{error_record}
use Rattle.actor_tree.specs.declared.part.Part.{Part}
use Rattle.actor_tree.specs.declared.part.Part.TheVariants as part
use Rattle.actor_tree.specs.Changes.{AheadOffice}
use Rattle.actor_tree.specs.Notes.{AreLettersNoted, IsEnded}
use Rattle.actor_tree.specs.Parts.{put}
use Rattle.actor_tree.proofs.EndedLemmas.{ended}
use Rattle.actor_tree.proofs.GrantLemmas.{error_keeps}
use Rattle.actor_tree.proofs.PartLemmas.{put_push}
use Rattle.actor_tree.proofs.ahead.Ahead.fail.Goals as goal

pub new-requires : goal.new-requires
new-requires c =
    let inside = c.self.inside in
    let before = inside.held.now.office in
    let is = c.self.invariant in
    let office = put before inside.parts.items in
    let subtree = c.in_ok-subtree.subtree in
    let one = part.Fail inside.actor c.args.error subtree in
    let parts : c.push.new.self.items ≡ inside.parts.items ++ one ∷ [] = c.in_ok-push.ensures.items in
    let found = rw (← c.self.view_is) at c.in_ok-subtree.ensures in
    let letters : AreLettersNoted before inside.actor inside.notes office.actors = record { records = is.told.records; waiting = is.told.counts.waiting; fits = is.told.counts.fits } in
    subst (λ (ps : List Part). IsEnded before inside.actor ps c.drop_mailboxes.new.self.counts) (sym parts)
    (ended before inside.actor inside.parts.items inside.notes c.drop_mailboxes.new.self one (error_record c.args.error) is.begins is.fits is.told is.gone (error_keeps c.args.error) (λ a. refl) refl found
    (rw (← found, ← c.as_slice.ensures) (c.in_ok-drop_mailboxes.ensures.noted office.actors letters)) c.in_ok-drop_mailboxes.ensures.next)

pub returns : goal.returns
returns c =
    let inside = c.self.inside in
    let before = inside.held.now.office in
    let after : OfficeState → AheadOffice = λ (office : OfficeState). record { before = before; actor = inside.actor; office = office } in
    rw (← c.self.view_is) (c.new.ensures ∙ ap after (ap (put before) c.in_ok-push.ensures.items ∙ put_push before inside.parts.items (part.Fail inside.actor c.args.error c.in_ok-subtree.subtree)))
