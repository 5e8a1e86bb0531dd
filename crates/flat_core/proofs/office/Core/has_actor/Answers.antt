use Rattle.std.proofs.Common.{◌≡◌, length, ap, ◌∙◌, leb, arith}
use Rattle.flat_core.proofs.QueueLemmas.{given-test}
use Rattle.flat_core.proofs.office.Core.has_actor.Goals as goal

pub returns-then-actor-gt0 : goal.returns-then-actor-gt0
returns-then-actor-gt0 c =
    let long : c.len.result ≡ length c.self.inside.flat_actors.items = omega (arith, c.self.inside.flat_actors.ok.0) in
    rw (← c.self.view_is)
    (ap (leb c.args.actor) long ∙ given-test c.self.inside.flat_actors.items c.self.inside.queue.items c.self.inside.next_letter c.args.actor c.if-actor-gt0.true)
