use Rattle.std.proofs.Common.{◌≡◌, ◌∙◌, ◌∷◌, ◌++◌, [], List, ap, subst, sym}
use Rattle.office_types.specs.declared.office.Origin.TheVariants as origin
use Rattle.actor_tree.specs.declared.part.Part.{Part}
use Rattle.actor_tree.specs.declared.part.Part.TheVariants as part
use Rattle.actor_tree.specs.Parts.{CanPutAll}
use Rattle.actor_tree.proofs.PartLemmas.{fits_push}
use Rattle.actor_tree.proofs.ended.Ended.mail.Goals as goal

pub returns-clause-fits : goal.returns-clause-fits
returns-clause-fits c =
    let inside = c.self.inside in
    let before = inside.held.now.office in
    let one = part.Mail (origin.Actor inside.actor) c.args.receiver c.args.event in
    rw (← c.self.view_is)
    (subst (CanPutAll before) (sym (c.from_vec.ensures ∙ c.in_ok-push.ensures.items)) (fits_push before inside.parts.items one c.self.invariant.fits (rw (← c.self.view_is) at c.requires.room)))
