use Rattle.std.proofs.Common.{◌≡◌, subst, sym, ◌∙◌, arith, rules}
use Rattle.std.specs.Prelude.{Some}
use Rattle.std.proofs.lemmas.List.{length_push}
use Rattle.xs_outside.specs.declared.Side.TheVariants.{A, B}
use Rattle.xs_outside.specs.Disk.{on, Changes}
use Rattle.gate_journal.specs.declared.parts.TheConstants.{OPEN}
use Rattle.gate_journal.specs.Gate.{IsOpening, StandsBehind}
use Rattle.gate_journal.specs.Sides.{held_content}
use Rattle.gate_journal.specs.Journal.{Knows, added}
use Rattle.gate_journal.proofs.HoldLemmas.{behind_gate, append_image, append_done, still_ready, held_is_open, text_length-added, text_length-without_added}
use Rattle.gate_journal.proofs.OkLemmas.{not_failed}
use Rattle.gate_journal.proofs.journal.Journal.append.Goals as goal

pub returns-then-is_err-2-clause-images : goal.returns-then-is_err-2-clause-images
returns-then-is_err-2-clause-images g c held honest stands moment image from to left =
    let content = (g.D.Disk.state c.args.self.now.disk).content in
    let knows = subst (Knows (Some held)) c.in-Some.is stands.knows in
    let text : c.deref.result.now ≡ behind_gate c.args.payload.now = c.deref.ensures.value ∙ not_failed c.fill_record.result (search rules) c.fill_record.ensures in
    let changes = c.open_gate.ensures.images honest moment image from to left in
    append_image held c.args.payload.now c.requires.size content stands.sides c.in-Some.current.end knows.end image
    (subst (λ s. Changes s (IsOpening c.in-Some.current.end (behind_gate c.args.payload.now)) content image) knows.side
    (subst (λ l. Changes c.in-Some.current.side (IsOpening c.in-Some.current.end l) content image) text changes))

pub returns-clause-images : goal.returns-clause-images
returns-clause-images g c held honest stands moment image from to left =
    let content = (g.D.Disk.state c.args.self.now.disk).content in
    let knows = subst (Knows (Some held)) c.in-Some.is stands.knows in
    let text : c.deref.result.now ≡ behind_gate c.args.payload.now = c.deref.ensures.value ∙ not_failed c.fill_record.result (search rules) c.fill_record.ensures in
    let changes = c.open_gate.ensures.images honest moment image from to left in
    append_image held c.args.payload.now c.requires.size content stands.sides c.in-Some.current.end knows.end image
    (subst (λ s. Changes s (IsOpening c.in-Some.current.end (behind_gate c.args.payload.now)) content image) knows.side
    (subst (λ l. Changes c.in-Some.current.side (IsOpening c.in-Some.current.end l) content image) text changes))

pub returns-clause-added : goal.returns-clause-added
returns-clause-added g c held honest stands =
    let old = (g.D.Disk.state c.args.self.now.disk).content in
    let new = (g.D.Disk.state c.open_gate.new.disk).content in
    let knows = subst (Knows (Some held)) c.in-Some.is stands.knows in
    let text : c.deref.result.now ≡ behind_gate c.args.payload.now = c.deref.ensures.value ∙ not_failed c.fill_record.result (search rules) c.fill_record.ensures in
    let stood = not_failed c.open_gate.result (search rules) c.open_gate.ensures.stands honest in
    let changes =
    subst (λ s. Changes s (StandsBehind OPEN c.in-Some.current.end (behind_gate c.args.payload.now)) old new) knows.side
    (subst (λ l. Changes c.in-Some.current.side (StandsBehind OPEN c.in-Some.current.end l) old new) text stood) in
    let done = append_done held c.args.payload.now c.requires.size old stands.sides c.in-Some.current.end knows.end new changes in
    let before = held_is_open (held_content held) (on held.side old) stands.sides.holds in
    let after = held_is_open (held_content (added held c.args.payload.now)) (on held.side new) done.holds in record {
      open_for_calls = stands.open_for_calls;
      settled = not_failed c.open_gate.result (search rules) c.open_gate.ensures.settled honest;
      sides = done;
      knows = record {
        side = knows.side;
        generation = knows.generation;
        end = omega (arith, knows.end, text_length-added held c.args.payload.now);
        last = (omega (arith, length_push held.records c.args.payload.now), knows.end ∙ sym (text_length-without_added held c.args.payload.now));
      };
      ready_a = still_ready held.side A old new c.args.self.now.a_is_ready before after changes.1 stands.ready_a;
      ready_b = still_ready held.side B old new c.args.self.now.b_is_ready before after changes.1 stands.ready_b;
    }
