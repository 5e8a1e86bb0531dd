use Rattle.std.proofs.Common.{◌≡◌, ◌↔◌, IsTrue, ℕ, ◌+◌, ◌^◌, ◌<◌, subst, sym, ◌∙◌, ap, arith, rules, List}
use Rattle.xs_outside.specs.declared.Side.TheVariants.{A, B}
use Rattle.xs_outside.specs.Disk.{on, Changes}
use Rattle.gate_journal.specs.Gate.{IsBeingMade, BeginsWith}
use Rattle.gate_journal.specs.Sides.{held_content}
use Rattle.gate_journal.specs.Journal.{switched, flag_after}
use Rattle.gate_journal.specs.Ready.{IsReady}
use Rattle.gate_journal.proofs.HoldLemmas.{held_is_open}
use Rattle.gate_journal.proofs.SwitchLemmas.{switch_image, switch_done, ready_made, next_of, behind_side, text_length-switched}
use Rattle.gate_journal.proofs.OkLemmas.{not_failed}
use Rattle.gate_journal.proofs.journal.Journal.switch.Goals as goal

pub returns-then-is_err-clause-images : goal.returns-then-is_err-clause-images
returns-then-is_err-clause-images g c held honest stands moment image from to left =
    let base = c.args.base.now in
    let content = (g.D.Disk.state c.args.self.now.disk).content in
    let next = next_of held c.args.self.now.current base stands.knows in
    let side : c.next_side-side.result.0 ≡ (switched held base).side = c.next_side-side.ensures.side ∙ next.0 in
    let generation : c.next_side-side.result.1 + 1 ≡ (switched held base).generation = ap (λ n. n + 1) c.next_side-side.ensures.generation ∙ next.1 in
    let text : c.deref.result.now ≡ behind_side (switched held base).generation base = c.deref.ensures.value ∙ c.in-Ok.ensures ∙ ap (λ n. behind_side n base) generation in
    let fits : (switched held base).generation < 2 ^ 64 = omega (arith, generation) in
    let changes = c.make_side.ensures.images honest moment image from to left in
    switch_image base (omega arith) held content image fits stands.sides
    (subst (λ s. Changes s (IsBeingMade (behind_side (switched held base).generation base)) content image) side
    (subst (λ (l : List ℕ). Changes c.next_side-side.result.0 (IsBeingMade l) content image) text changes))

pub returns-clause-images : goal.returns-clause-images
returns-clause-images g c held honest stands moment image from to left =
    let base = c.args.base.now in
    let content = (g.D.Disk.state c.args.self.now.disk).content in
    let next = next_of held c.args.self.now.current base stands.knows in
    let side : c.next_side-side.result.0 ≡ (switched held base).side = c.next_side-side.ensures.side ∙ next.0 in
    let generation : c.next_side-side.result.1 + 1 ≡ (switched held base).generation = ap (λ n. n + 1) c.next_side-side.ensures.generation ∙ next.1 in
    let text : c.deref.result.now ≡ behind_side (switched held base).generation base = c.deref.ensures.value ∙ c.in-Ok.ensures ∙ ap (λ n. behind_side n base) generation in
    let fits : (switched held base).generation < 2 ^ 64 = omega (arith, generation) in
    let changes = c.make_side.ensures.images honest moment image from to left in
    switch_image base (omega arith) held content image fits stands.sides
    (subst (λ s. Changes s (IsBeingMade (behind_side (switched held base).generation base)) content image) side
    (subst (λ (l : List ℕ). Changes c.next_side-side.result.0 (IsBeingMade l) content image) text changes))

pub returns-clause-switched : goal.returns-clause-switched
returns-clause-switched g c held honest stands =
    let base = c.args.base.now in
    let old = (g.D.Disk.state c.args.self.now.disk).content in
    let new = (g.D.Disk.state c.make_side.new.disk).content in
    let next = next_of held c.args.self.now.current base stands.knows in
    let side : c.next_side-side.result.0 ≡ (switched held base).side = c.next_side-side.ensures.side ∙ next.0 in
    let generation : c.next_side-side.result.1 + 1 ≡ (switched held base).generation = ap (λ n. n + 1) c.next_side-side.ensures.generation ∙ next.1 in
    let text : c.deref.result.now ≡ behind_side (switched held base).generation base = c.deref.ensures.value ∙ c.in-Ok.ensures ∙ ap (λ n. behind_side n base) generation in
    let fits : (switched held base).generation < 2 ^ 64 = omega (arith, generation) in
    let made = not_failed c.make_side.result (search rules) c.make_side.ensures.made honest in
    let changes =
    subst (λ s. Changes s (λ _. BeginsWith (behind_side (switched held base).generation base)) old new) side
    (subst (λ (l : List ℕ). Changes c.next_side-side.result.0 (λ _. BeginsWith l) old new) text made) in
    let done = switch_done base (omega arith) held old new fits stands.sides changes in
    let after = held_is_open (held_content (switched held base)) (on (switched held base).side new) done.holds in record {
      open_for_calls = stands.open_for_calls;
      settled = not_failed c.make_side.result (search rules) c.make_side.ensures.settled honest;
      sides = done;
      knows = record {
        side = side;
        generation = generation;
        end = sym (text_length-switched held base);
        last = tt;
      };
      ready_a = subst (λ f. IsTrue f ↔ IsReady new.a) (ap (λ s. flag_after A s c.args.self.now.a_is_ready) (sym side) ∙ sym c.flag_after-self.ensures) (ready_made A (switched held base).side old new c.args.self.now.a_is_ready after changes.1 stands.ready_a);
      ready_b = subst (λ f. IsTrue f ↔ IsReady new.b) (ap (λ s. flag_after B s c.args.self.now.b_is_ready) (sym side) ∙ sym c.flag_after-self-2.ensures) (ready_made B (switched held base).side old new c.args.self.now.b_is_ready after changes.1 stands.ready_b);
    }
