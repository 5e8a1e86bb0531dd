use Rattle.std.proofs.Common.{◌≡◌, ◌∙◌, ◌∷◌, [], ◌++◌, List, ap, subst, sym}
use Rattle.actor_tree.specs.declared.part.Part.{Part}
use Rattle.actor_tree.specs.declared.part.Part.TheVariants as part
use Rattle.actor_tree.specs.Changes.{AheadOffice}
use Rattle.actor_tree.specs.Notes.{AreNoted}
use Rattle.actor_tree.specs.Parts.{CanPutAll, put}
use Rattle.actor_tree.proofs.NotesLemmas.{own_noted}
use Rattle.actor_tree.proofs.PartLemmas.{fits_push, put_push}
use Rattle.office_types.specs.declared.office.OfficeState.{OfficeState}
use Rattle.actor_tree.proofs.ahead.Ahead.own.Goals as goal

pub invariant_of-result : goal.invariant_of-result
invariant_of-result c =
    let inside = c.self.inside in
    let before = inside.held.now.office in
    let is = c.self.invariant in
    let one = part.Own inside.actor c.args.own in
    let parts : c.push.new.self.items ≡ inside.parts.items ++ one ∷ [] = c.in_ok-push.ensures.items in
    record {
      begins = is.begins;
      fits = subst (CanPutAll before) (sym parts) (fits_push before inside.parts.items one is.fits tt);
      told = subst (λ (ps : List Part). AreNoted before inside.actor inside.notes (put before ps)) (sym parts)
          (subst (AreNoted before inside.actor inside.notes) (sym (put_push before inside.parts.items one)) (own_noted before inside.actor inside.notes (put before inside.parts.items) is.begins is.gone is.told c.args.own));
      gone = is.gone;
    }

pub returns : goal.returns
returns c =
    let inside = c.self.inside in
    let before = inside.held.now.office in
    let after : OfficeState → AheadOffice = λ (office : OfficeState). record { before = before; actor = inside.actor; office = office } in
    rw (← c.self.view_is) (ap after (ap (put before) c.in_ok-push.ensures.items ∙ put_push before inside.parts.items (part.Own inside.actor c.args.own)))
