use Rattle.std.proofs.Common.{◌≡◌, ◌↔◌, IsTrue, ◌≤◌, length, drop, subst, sym, ◌∙◌, ap, ℕ, List}
use Rattle.xs_outside.specs.Disk.{Sides, on}
use Rattle.gate_journal.specs.declared.parts.TheConstants.{HEAD}
use Rattle.gate_journal.specs.declared.window.Window.{Window}
use Rattle.gate_journal.specs.Layout.{HasHead, IsBadAt}
use Rattle.gate_journal.specs.Opening.{IsFront, IsHeldText}
use Rattle.gate_journal.specs.Reading.{Shows}
use Rattle.gate_journal.specs.Ready.{IsReady}
use Rattle.gate_journal.proofs.FrontLemmas.{head_length}
use Rattle.gate_journal.proofs.OpeningLemmas.{bad_behind, bad_front, front_of_window, head_of_side, held_by, other_is_behind, picked_bytes, picked_place, picked_shows, picked_side, ready_on_a, ready_on_b}
use Rattle.gate_journal.proofs.opening.read_sides.Goals as goal

pub read_held-requires-clause-front : goal.read_held-requires-clause-front
read_held-requires-clause-front g c =
    let a = c.in_ok-a.a in
    let b = c.in_ok-b.b in
    let front_a = c.in_ok-a.ensures.front in
    let front_b = c.in_ok-b.ensures.front in
    let side = c.in-Held.side in
    let fronts : Sides = record { a = c.deref-3.result.now; b = c.deref-4.result.now } in
    let same : on side fronts ≡ on side (record { a = a.bytes.items; b = b.bytes.items }) = λ i. on side (record { a = c.deref-3.ensures.value i; b = c.deref-4.ensures.value i }) in
    let bytes : c.picked-window.result.bytes.items ≡ on side fronts = ap (λ (w : Window). w.bytes.items) c.picked-window.ensures ∙ picked_bytes a b front_a.0 front_b.0 side ∙ sym same in
    let long = head_length c.in-Held.generation c.in-Held.size (drop HEAD (on side fronts)) (on side fronts) c.in-Held.ensures.0 in (
      ap (λ (w : Window). w.place) c.picked-window.ensures ∙ picked_place a b front_a.0 front_b.0 side front_a.1 front_b.1,
      subst (λ (l : List ℕ). HEAD ≤ length l) (sym bytes) long,
    )

pub read_held-requires-clause-shows : goal.read_held-requires-clause-shows
read_held-requires-clause-shows g c still =
    let honest : IsTrue (g.D.Disk.state c.args.disk.now).honest = subst IsTrue (c.open-2.ensures.reads.honest ∙ c.open.ensures.reads.honest) still in
    let old = g.D.Disk.state c.args.disk.now in
    let mid = g.D.Disk.state c.open.new.disk in
    let a = c.in_ok-a.a in
    let b = c.in_ok-b.b in
    let front_a = c.in_ok-a.ensures.front in
    let front_b = c.in_ok-b.ensures.front in
    let shows_a = c.in_ok-a.ensures.shows honest in
    let shows_b = subst (λ (s : Sides). Shows s.b b) c.open.ensures.reads.content (c.in_ok-b.ensures.shows (subst IsTrue (sym c.open.ensures.reads.honest) honest)) in
    let fronts : Sides = record { a = c.deref-3.result.now; b = c.deref-4.result.now } in
    let is_front_a = subst (λ l. IsFront l old.content.a) (sym c.deref-3.ensures.value) (front_of_window old.content.a a front_a.1 front_a.2 shows_a) in
    let is_front_b = subst (λ l. IsFront l old.content.b) (sym c.deref-4.ensures.value) (front_of_window old.content.b b front_b.1 front_b.2 shows_b) in
    let side = c.in-Held.side in
    let window = c.picked-window.result in
    let side_is : window.side ≡ side = ap (λ (w : Window). w.side) c.picked-window.ensures ∙ picked_side a b front_a.0 front_b.0 side in
    let contents : (g.D.Disk.state c.open-2.new.disk).content ≡ old.content = c.open-2.ensures.reads.content ∙ c.open.ensures.reads.content in
    let head = head_of_side fronts old.content is_front_a is_front_b side c.in-Held.generation c.in-Held.size c.in-Held.ensures in
    let shown = subst (λ (w : Window). Shows (on w.side old.content) w) (sym c.picked-window.ensures) (picked_shows a b front_a.0 front_b.0 side old.content shows_a shows_b) in
    let there = subst (λ s. HasHead c.in-Held.generation c.in-Held.size (drop HEAD (on s old.content)) (on s old.content)) (sym side_is) head in (
      subst (λ (s : Sides). Shows (on window.side s) window) (sym contents) shown,
      subst (λ (s : Sides). HasHead c.in-Held.generation c.in-Held.size (drop HEAD (on window.side s)) (on window.side s)) (sym contents) there,
    )

pub returns-in-Bad-clause-bad : goal.returns-in-Bad-clause-bad
returns-in-Bad-clause-bad g c honest =
    let old = g.D.Disk.state c.args.disk.now in
    let mid = g.D.Disk.state c.open.new.disk in
    let a = c.in_ok-a.a in
    let b = c.in_ok-b.b in
    let front_a = c.in_ok-a.ensures.front in
    let front_b = c.in_ok-b.ensures.front in
    let shows_a = c.in_ok-a.ensures.shows honest in
    let shows_b = subst (λ (s : Sides). Shows s.b b) c.open.ensures.reads.content (c.in_ok-b.ensures.shows (subst IsTrue (sym c.open.ensures.reads.honest) honest)) in
    let fronts : Sides = record { a = c.deref-3.result.now; b = c.deref-4.result.now } in
    let is_front_a = subst (λ l. IsFront l old.content.a) (sym c.deref-3.ensures.value) (front_of_window old.content.a a front_a.1 front_a.2 shows_a) in
    let is_front_b = subst (λ l. IsFront l old.content.b) (sym c.deref-4.ensures.value) (front_of_window old.content.b b front_b.1 front_b.2 shows_b) in
    bad_front fronts old.content is_front_a is_front_b c.in-Bad.side c.in-Bad.ensures

pub returns-in-Ok-clause-found : goal.returns-in-Ok-clause-found
returns-in-Ok-clause-found g c honest =
    let old = g.D.Disk.state c.args.disk.now in
    let mid = g.D.Disk.state c.open.new.disk in
    let a = c.in_ok-a.a in
    let b = c.in_ok-b.b in
    let front_a = c.in_ok-a.ensures.front in
    let front_b = c.in_ok-b.ensures.front in
    let shows_a = c.in_ok-a.ensures.shows honest in
    let shows_b = subst (λ (s : Sides). Shows s.b b) c.open.ensures.reads.content (c.in_ok-b.ensures.shows (subst IsTrue (sym c.open.ensures.reads.honest) honest)) in
    let fronts : Sides = record { a = c.deref-3.result.now; b = c.deref-4.result.now } in
    let is_front_a = subst (λ l. IsFront l old.content.a) (sym c.deref-3.ensures.value) (front_of_window old.content.a a front_a.1 front_a.2 shows_a) in
    let is_front_b = subst (λ l. IsFront l old.content.b) (sym c.deref-4.ensures.value) (front_of_window old.content.b b front_b.1 front_b.2 shows_b) in
    let side = c.in-Held.side in
    let window = c.picked-window.result in
    let side_is : window.side ≡ side = ap (λ (w : Window). w.side) c.picked-window.ensures ∙ picked_side a b front_a.0 front_b.0 side in
    let contents : (g.D.Disk.state c.open-2.new.disk).content ≡ old.content = c.open-2.ensures.reads.content ∙ c.open.ensures.reads.content in
    let head = head_of_side fronts old.content is_front_a is_front_b side c.in-Held.generation c.in-Held.size c.in-Held.ensures in
    let still : IsTrue (g.D.Disk.state c.open-2.new.disk).honest = subst IsTrue (sym (c.open-2.ensures.reads.honest ∙ c.open.ensures.reads.honest)) honest in
    let raw = c.in-Ok.ensures.held still in
    let here = subst (λ (s : Sides). IsHeldText c.in-Ok.held window.side c.in-Ok.end (on window.side s)) contents raw.1 in
    let text = subst (λ s. IsHeldText c.in-Ok.held s c.in-Ok.end (on s old.content)) side_is here in
    let behind = other_is_behind fronts old.content is_front_a is_front_b side c.in-Held.generation c.in-Held.size c.in-Held.ensures in record {
      hold = held_by old.content c.in-Ok.held side c.in-Held.generation c.in-Ok.end raw.0 text behind;
      ends = text.ends;
      ready_a = ready_on_a fronts old.content is_front_a is_front_b c.is_ready-a_is_ready.result (subst (λ l. IsTrue c.is_ready-a_is_ready.result ↔ IsReady l) (c.deref.ensures.value ∙ sym c.deref-3.ensures.value) c.is_ready-a_is_ready.ensures);
      ready_b = ready_on_b fronts old.content is_front_a is_front_b c.is_ready-b_is_ready.result (subst (λ l. IsTrue c.is_ready-b_is_ready.result ↔ IsReady l) (c.deref-2.ensures.value ∙ sym c.deref-4.ensures.value) c.is_ready-b_is_ready.ensures);
    }

pub returns-in-Err-Bad-clause-bad : goal.returns-in-Err-Bad-clause-bad
returns-in-Err-Bad-clause-bad g c honest =
    let old = g.D.Disk.state c.args.disk.now in
    let mid = g.D.Disk.state c.open.new.disk in
    let a = c.in_ok-a.a in
    let b = c.in_ok-b.b in
    let front_a = c.in_ok-a.ensures.front in
    let front_b = c.in_ok-b.ensures.front in
    let shows_a = c.in_ok-a.ensures.shows honest in
    let shows_b = subst (λ (s : Sides). Shows s.b b) c.open.ensures.reads.content (c.in_ok-b.ensures.shows (subst IsTrue (sym c.open.ensures.reads.honest) honest)) in
    let fronts : Sides = record { a = c.deref-3.result.now; b = c.deref-4.result.now } in
    let is_front_a = subst (λ l. IsFront l old.content.a) (sym c.deref-3.ensures.value) (front_of_window old.content.a a front_a.1 front_a.2 shows_a) in
    let is_front_b = subst (λ l. IsFront l old.content.b) (sym c.deref-4.ensures.value) (front_of_window old.content.b b front_b.1 front_b.2 shows_b) in
    let side = c.in-Held.side in
    let window = c.picked-window.result in
    let side_is : window.side ≡ side = ap (λ (w : Window). w.side) c.picked-window.ensures ∙ picked_side a b front_a.0 front_b.0 side in
    let contents : (g.D.Disk.state c.open-2.new.disk).content ≡ old.content = c.open-2.ensures.reads.content ∙ c.open.ensures.reads.content in
    let head = head_of_side fronts old.content is_front_a is_front_b side c.in-Held.generation c.in-Held.size c.in-Held.ensures in
    let still : IsTrue (g.D.Disk.state c.open-2.new.disk).honest = subst IsTrue (sym (c.open-2.ensures.reads.honest ∙ c.open.ensures.reads.honest)) honest in
    let raw = (rw c.in-Err-Bad.field-0-is at c.in-Err-Bad.ensures.bad) still in
    let here = subst (λ (s : Sides). IsBadAt (on window.side s) c.in-Err-Bad.place) contents raw in
    let bad = subst (λ s. IsBadAt (on s old.content) c.in-Err-Bad.place) side_is here in
    bad_behind old.content side c.in-Held.generation c.in-Held.size c.in-Err-Bad.place head (other_is_behind fronts old.content is_front_a is_front_b side c.in-Held.generation c.in-Held.size c.in-Held.ensures) bad
