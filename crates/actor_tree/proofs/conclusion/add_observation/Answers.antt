use Rattle.std.proofs.Common.{◌≡◌, ◌∙◌, Bool, Ok, ap, sym, true}
use Rattle.std.specs.Prelude.{if◌then◌else◌}
use Rattle.office_types.specs.Ends.{after_telling_parent}
use Rattle.office_types.specs.Fitting.{Fitted}
use Rattle.office_types.specs.Mailboxes.{has_letter_room}
use Rattle.office_types.specs.Observation.{is_observed, short_snapshot_event, snapshot_of}
use Rattle.action_table.specs.Definitions.{office_definitions}
use Rattle.actor_tree.proofs.ConclusionLemmas.{told_parts}
use Rattle.actor_tree.proofs.conclusion.add_observation.Goals as goal

pub returns : goal.returns
returns c =
    let old = c.args.ahead in
    let definitions = office_definitions c.args.defs.now in
    let event = short_snapshot_event (snapshot_of definitions c.args.own.now) in
    let room : has_letter_room old.office 1 ≡ true = cc in
    let observed : is_observed definitions old.office old.actor ≡ true = cc in
    let mailed = rw (c.in_ok-event.ensures, c.child_id.ensures) at c.in_ok-ahead.ensures in
    let tells = told_parts old c.in_ok-ahead.ahead c.into_parts-2.result event c.in-Some.parent (sym c.parent.ensures.parent ∙ c.in-Some.is) room mailed
    c.into_parts-2.ensures.office c.into_parts-2.ensures.fits in
    let either : Bool → Fitted = λ (b : Bool). if b then after_telling_parent old.office old.actor event else Ok old.office in
    record { concludes = (ap either observed ∙ tells.0, tells.1) }
