use Rattle.std.proofs.Common.{◌≡◌, ◌∙◌, Some, ap, rules, sym}
use Rattle.std.specs.Prelude.{slice_get}
use Rattle.actor_tree.proofs.ObservationLemmas.{observed_through}
use Rattle.actor_tree.proofs.conclusion.observes_at.Goals as goal

pub returns-in_default-get : goal.returns-in_default-get
returns-in_default-get c =
    let machine : slice_get c.args.defs.now.defs c.args.machine ≡ Some c.deref.result.now = rw (c.in-Some.is, ← c.deref.ensures) at (sym c.get.ensures) in
    rw (observed_through c.args.defs.now c.args.machine c.args.node c.args.id.now c.deref.result.now machine, ← c.get-2.ensures, c.in_default-get.is) (search rules)

pub returns : goal.returns
returns c =
    let machine : slice_get c.args.defs.now.defs c.args.machine ≡ Some c.deref.result.now = rw (c.in-Some.is, ← c.deref.ensures) at (sym c.get.ensures) in
    rw (observed_through c.args.defs.now c.args.machine c.args.node c.args.id.now c.deref.result.now machine, ← c.get-2.ensures, c.in-Some-get.is) (search rules)
