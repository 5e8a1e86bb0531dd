use Rattle.std.proofs.Common.{◌≡◌, ◌+◌, ◌<◌, ◌≤◌, length, subst, sym, arith, rules, [], ◌∷◌}
use Rattle.std.specs.Prelude.{Some, IfSome}
use Rattle.xs_outside.specs.declared.Side.TheVariants.{A, B}
use Rattle.xs_outside.specs.Disk.{on, Changes, Torn, Written}
use Rattle.gate_journal.specs.declared.parts.TheConstants.{CLOSED}
use Rattle.gate_journal.specs.Sides.{held_content}
use Rattle.gate_journal.specs.Journal.{Knows, without_last, text_length}
use Rattle.gate_journal.proofs.HoldLemmas.{still_ready, held_is_open}
use Rattle.gate_journal.proofs.DropLemmas.{drop_image, drop_done, last_inside}
use Rattle.gate_journal.proofs.OkLemmas.{not_failed}
use Rattle.gate_journal.proofs.journal.Journal.drop_last.Goals as goal

pub write_through-requires-clause-place : goal.write_through-requires-clause-place
write_through-requires-clause-place g c honest =
    let held = (c.requires.stands honest).0 in
    let stands = (c.requires.stands honest).1 in
    let knows = subst (Knows (Some held)) c.in-Some.is stands.knows in
    let last = subst (λ l. IfSome l (λ place. (0 < length held.records) × (place ≡ text_length (without_last held)))) c.in-Some-last.is knows.last in
    let inside = last_inside held last.0 (on held.side (g.D.Disk.state c.args.self.now.disk).content) stands.sides.holds c.in-Some-last.place last.1 in
    let there = subst (λ s. c.in-Some-last.place + 1 ≤ length (on s (g.D.Disk.state c.args.self.now.disk).content)) (sym knows.side) inside in
    omega (arith, there)

pub returns-then-is_err-clause-images : goal.returns-then-is_err-clause-images
returns-then-is_err-clause-images g c held honest stands moment image from to left =
    let content = (g.D.Disk.state c.args.self.now.disk).content in
    let knows = subst (Knows (Some held)) c.in-Some.is stands.knows in
    let last = subst (λ l. IfSome l (λ place. (0 < length held.records) × (place ≡ text_length (without_last held)))) c.in-Some-last.is knows.last in
    drop_image held last.0 content stands.sides c.in-Some-last.place last.1 image
    (subst (λ s. Changes s (Torn c.in-Some-last.place 1) content image) knows.side (c.write_through.ensures.images honest moment image from to left))

pub returns-clause-images : goal.returns-clause-images
returns-clause-images g c held honest stands moment image from to left =
    let content = (g.D.Disk.state c.args.self.now.disk).content in
    let knows = subst (Knows (Some held)) c.in-Some.is stands.knows in
    let last = subst (λ l. IfSome l (λ place. (0 < length held.records) × (place ≡ text_length (without_last held)))) c.in-Some-last.is knows.last in
    drop_image held last.0 content stands.sides c.in-Some-last.place last.1 image
    (subst (λ s. Changes s (Torn c.in-Some-last.place 1) content image) knows.side (c.write_through.ensures.images honest moment image from to left))

pub returns-clause-dropped : goal.returns-clause-dropped
returns-clause-dropped g c held honest stands =
    let old = (g.D.Disk.state c.args.self.now.disk).content in
    let new = (g.D.Disk.state c.write_through.new.disk).content in
    let knows = subst (Knows (Some held)) c.in-Some.is stands.knows in
    let last = subst (λ l. IfSome l (λ place. (0 < length held.records) × (place ≡ text_length (without_last held)))) c.in-Some-last.is knows.last in
    let written = not_failed c.write_through.result (search rules) c.write_through.ensures.written honest in
    let changes = subst (λ s. Changes s (Written c.in-Some-last.place (CLOSED ∷ [])) old new) knows.side written in
    let done = drop_done held last.0 old stands.sides c.in-Some-last.place last.1 new changes in
    let before = held_is_open (held_content held) (on held.side old) stands.sides.holds in
    let after = held_is_open (held_content (without_last held)) (on held.side new) done.holds in record {
      open_for_calls = stands.open_for_calls;
      settled = not_failed c.write_through.result (search rules) c.write_through.ensures.settled honest;
      sides = done;
      knows = record { side = knows.side; generation = knows.generation; end = last.1; last = tt };
      ready_a = still_ready held.side A old new c.args.self.now.a_is_ready before after changes.1 stands.ready_a;
      ready_b = still_ready held.side B old new c.args.self.now.b_is_ready before after changes.1 stands.ready_b;
    }
