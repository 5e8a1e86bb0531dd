use Rattle.std.proofs.Common.{take, refl, ap, ◌∙◌, inl, arith}
use Rattle.std.specs.Io.KnownBytes.{append_known}
use Rattle.office_run.proofs.StepLemmas.{next-kept, steps-too_much}
use Rattle.office_run.proofs.program.take_line.Goals as goal

pub returns-in-TooMuch-clause-steps : goal.returns-in-TooMuch-clause-steps
returns-in-TooMuch-clause-steps g c =
    steps-too_much _ _ _ _ _ _ c.in-TooMuch.ensures.gives.gives refl c.print.ensures.left c.in-TooMuch.ensures.written c.print.ensures.written

pub returns-clause-steps : goal.returns-clause-steps
returns-clause-steps g c =
    let gives = c.in-Line.ensures.gives in
    let lines = c.in-Ok.ensures.answers gives.gives.0 gives.gives.1 in
    let wrote = c.in-Err.ensures.adds in
    let bytes = c.as_bytes.ensures.value ∙ lines.2 in
    let leaves = g.met.W.Both.write_leaves _ c.next_line.new.source c.write.new.self c.write.ensures.relation in
    inl (record {
      bytes = gives.gives.0;
      line = lines.0;
      takes = record {
        next = next-kept _ _ _ _ gives.gives.2 refl leaves.0;
        is_line = lines.1;
        counted = omega (arith, leaves.1, gives.counted);
        limited = gives.limited;
      };
      count = wrote.0;
      written = wrote.1 ∙ ap (λ w. append_known w (take wrote.0 c.as_bytes.result.now)) c.in-Line.ensures.written
          ∙ ap (λ b. append_known (g.W.Sink.written c.args.station.now) (take wrote.0 b)) bytes;
    })
