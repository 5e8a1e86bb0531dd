use Rattle.std.proofs.Common.{true, List, ℕ, ap, ◌∙◌, arith}
use Rattle.office_run.specs.Input.{Taken}
use Rattle.office_run.proofs.input.Input.look_past.Goals as goal

pub returns-in-End-clause-fills : goal.returns-in-End-clause-fills
returns-in-End-clause-fills g c =
    let gives = c.in-End.ensures.gives in
    let ended : Taken → Taken = λ t. record { used = t.used; pending = t.pending; ended = true } in
    let emptied : List ℕ → Taken = λ pending. record { used = c.args.self.now.used; pending = pending; ended = true } in
    record {
      left = gives.0;
      at_end = gives.1;
      input = ap ended c.self.view_is ∙ ap emptied c.requires.empty;
      taken = omega (arith, c.in-End.ensures.taken);
    }
