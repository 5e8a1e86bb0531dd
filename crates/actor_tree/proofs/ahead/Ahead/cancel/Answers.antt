use Rattle.std.proofs.Common.{◌≡◌, ◌∙◌, ◌∷◌, [], ◌++◌, List, Bool, ap, arith, refl, subst, sym, true, ℕ, length}
use Rattle.office_types.specs.declared.office.OfficeState.{OfficeState}
use Rattle.office_types.specs.declared.office.Origin.TheVariants as origin
use Rattle.office_types.specs.declared.office.Timer.{Timer}
use Rattle.actor_tree.specs.declared.notes.Notes.{Notes}
use Rattle.actor_tree.specs.declared.part.Part.{Part}
use Rattle.actor_tree.specs.declared.part.Part.TheVariants as part
use Rattle.actor_tree.specs.Changes.{AheadOffice}
use Rattle.actor_tree.specs.Notes.{AreNoted, noted}
use Rattle.actor_tree.specs.Noted.{AreGone}
use Rattle.actor_tree.specs.Parts.{CanPutAll, put}
use Rattle.actor_tree.proofs.NotesLemmas.{cancel_noted}
use Rattle.actor_tree.proofs.PartLemmas.{fits_push, put_push}
use Rattle.actor_tree.proofs.ahead.Ahead.cancel.Goals as goal

pub invariant_of-result : goal.invariant_of-result
invariant_of-result c =
    let inside = c.self.inside in
    let before = inside.held.now.office in
    let is = c.self.invariant in
    let one = part.Cancel inside.actor c.args.id in
    let parts : c.push.new.self.items ≡ inside.parts.items ++ one ∷ [] = c.in_ok-push.ensures.items in
    record {
      begins = is.begins;
      fits = subst (CanPutAll before) (sym parts) (fits_push before inside.parts.items one is.fits (tt));
      told = subst (λ (ps : List Part). AreNoted before inside.actor c.drop_timer.new.self (put before ps)) (sym parts)
          (subst (AreNoted before inside.actor c.drop_timer.new.self) (sym (put_push before inside.parts.items one)) (cancel_noted before inside.actor inside.notes (put before inside.parts.items) is.begins is.gone is.told c.drop_timer.new.self c.args.id c.has_timer-stands.result c.in_ok-drop_timer.ensures (rw (← c.self.view_is) at c.has_timer-stands.ensures)));
      gone = subst (λ (notes : Notes). AreGone before inside.actor (noted notes)) (sym c.in_ok-drop_timer.ensures.same) (record { after = is.gone.after; below = is.gone.below });
    }

pub returns : goal.returns
returns c =
    let inside = c.self.inside in
    let before = inside.held.now.office in
    let after : OfficeState → AheadOffice = λ (office : OfficeState). record { before = before; actor = inside.actor; office = office } in
    rw (← c.self.view_is) (ap after (ap (put before) c.in_ok-push.ensures.items ∙ put_push before inside.parts.items (part.Cancel inside.actor c.args.id)))
