use Rattle.std.proofs.Common.{Some, ap}
use Rattle.std.proofs.lemmas.Bool.{eq-eqb, eqb-true}
use Rattle.snapshot_text.proofs.validity.configurations.is_next.Goals as goal

pub returns-in-Some : goal.returns-in-Some
returns-in-Some c =
    let tells = c.in-Some.ensures c.args.next in (
      (λ yes. tells.0 (ap Some (eqb-true c.in-Some.after c.args.next yes))),
      (λ is. eq-eqb c.in-Some.after c.args.next (let same = tells.1 is in cc)),
    )

pub returns-in-None : goal.returns-in-None
returns-in-None c = ((λ yes. absurd cc), (λ is. absurd (let same = (c.in-None.ensures c.args.next).1 is in cc)))
