use Rattle.std.proofs.Common.{◌≡◌, ◌∙◌, ◌∷◌, [], ◌++◌, List, Bool, ap, arith, refl, subst, sym, true, ℕ, length}
use Rattle.office_types.specs.declared.office.OfficeState.{OfficeState}
use Rattle.office_types.specs.declared.office.Origin.TheVariants as origin
use Rattle.office_types.specs.declared.office.Timer.{Timer}
use Rattle.actor_tree.specs.declared.notes.Notes.{Notes}
use Rattle.actor_tree.specs.declared.part.Part.{Part}
use Rattle.actor_tree.specs.declared.part.Part.TheVariants as part
use Rattle.actor_tree.specs.Changes.{AheadOffice}
use Rattle.actor_tree.specs.Notes.{AreNoted, noted}
use Rattle.actor_tree.specs.Noted.{AreGone}
use Rattle.actor_tree.specs.Parts.{CanPutAll, put}
use Rattle.actor_tree.proofs.NotesLemmas.{mail_noted, room_left}
use Rattle.actor_tree.proofs.PartLemmas.{fits_push, put_push}
use Rattle.actor_tree.proofs.ahead.Ahead.mail.Goals as goal

pub add_letter-requires-clause-few : goal.add_letter-requires-clause-few
add_letter-requires-clause-few c = c.self.invariant.told.few c.args.receiver

pub add_letter-requires-clause-room : goal.add_letter-requires-clause-room
add_letter-requires-clause-room c =
    let inside = c.self.inside in
    let rooms = room_left (put inside.held.now.office inside.parts.items) 1 (rw (← c.self.view_is) at c.requires.room) in
    omega (arith, rooms.1, c.self.invariant.told.counts.next_letter)

pub add_letter-requires-clause-waiting : goal.add_letter-requires-clause-waiting
add_letter-requires-clause-waiting c = omega (arith, c.self.invariant.told.counts.fits)

pub invariant_of-result : goal.invariant_of-result
invariant_of-result c =
    let inside = c.self.inside in
    let before = inside.held.now.office in
    let is = c.self.invariant in
    let one = part.Mail (origin.Actor inside.actor) c.args.receiver c.args.event in
    let parts : c.push.new.self.items ≡ inside.parts.items ++ one ∷ [] = c.in_ok-push.ensures.items in
    record {
      begins = is.begins;
      fits = subst (CanPutAll before) (sym parts) (fits_push before inside.parts.items one is.fits (rw (← c.self.view_is) at c.requires.room));
      told = subst (λ (ps : List Part). AreNoted before inside.actor c.add_letter.new.self (put before ps)) (sym parts)
          (subst (AreNoted before inside.actor c.add_letter.new.self) (sym (put_push before inside.parts.items one)) (mail_noted before inside.actor inside.notes (put before inside.parts.items) is.begins is.gone is.told c.add_letter.new.self (origin.Actor inside.actor) c.args.receiver c.args.event c.in_ok-add_letter.ensures (rw (← c.self.view_is) at c.requires.receiver) (rw (← c.self.view_is) at c.requires.room)));
      gone = subst (λ (notes : Notes). AreGone before inside.actor (noted notes)) (sym c.in_ok-add_letter.ensures.same) (record { after = is.gone.after; below = is.gone.below });
    }

pub returns : goal.returns
returns c =
    let inside = c.self.inside in
    let before = inside.held.now.office in
    let after : OfficeState → AheadOffice = λ (office : OfficeState). record { before = before; actor = inside.actor; office = office } in
    rw (← c.self.view_is) (ap after (ap (put before) c.in_ok-push.ensures.items ∙ put_push before inside.parts.items (part.Mail (origin.Actor inside.actor) c.args.receiver c.args.event)))
