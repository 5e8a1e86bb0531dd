use Rattle.std.proofs.Common.{◌≡◌, IsTrue, ◌+◌, ◌-◌, ◌≤◌, ◌++◌, length, take, drop, subst, sym, ◌∙◌, ap, arith, rules, ℕ, List, length-append}
use Rattle.std.proofs.lemmas.List.{length-take-le}
use Rattle.xs_outside.specs.Disk.{on}
use Rattle.gate_journal.specs.Reading.{Shows}
use Rattle.gate_journal.proofs.WindowLemmas.{reads_on, same_text, base_grows}
use Rattle.gate_journal.proofs.reading.read_base.Goals as goal

pub returns-then-len-size-clause-base : goal.returns-then-len-size-clause-base
returns-then-len-size-clause-base g c honest =
    let text = on c.args.window.now.side (g.D.Disk.state c.args.disk.now).content in
    let part : c.min-part.result ≤ length c.pieces.window.bytes.items = search rules in
    let here : c.deref.result.now ≡ c.pieces.window.bytes.items = search rules in
    let grown = base_grows text c.pieces.base.items c.pieces.window.bytes.items c.args.window.now.place c.pieces.window.place c.min-part.result (c.pieces.invariant.base honest) (c.pieces.invariant.shows honest).bytes c.pieces.invariant.place part in
    let is : c.extend_from_slice.new.self.items ≡ c.pieces.base.items ++ take c.min-part.result c.pieces.window.bytes.items = c.in_ok-extend_from_slice.ensures.items ∙ ap (λ (l : List ℕ). c.pieces.base.items ++ take c.min-part.result l) here in
    let size : length c.extend_from_slice.new.self.items ≡ c.args.size = search rules in
    let grew : length c.extend_from_slice.new.self.items ≡ length c.pieces.base.items + c.min-part.result = omega (arith, ap length is, length-append c.pieces.base.items (take c.min-part.result c.pieces.window.bytes.items), length-take-le c.min-part.result c.pieces.window.bytes.items part) in
    is ∙ grown ∙ ap (λ n. take n (drop c.args.window.now.place text)) (sym grew ∙ size)

pub returns-then-len-size-clause-shows : goal.returns-then-len-size-clause-shows
returns-then-len-size-clause-shows g c honest = c.skip.ensures.shows _ (c.pieces.invariant.shows honest)

pub pieces-preserved : goal.pieces-preserved
pieces-preserved g c =
    let old = g.D.Disk.state c.args.disk.now in
    let text = on c.args.window.now.side old.content in
    let part : c.min-part.result ≤ length c.pieces.window.bytes.items = search rules in
    let here : c.deref.result.now ≡ c.pieces.window.bytes.items = search rules in
    let is : c.extend_from_slice.new.self.items ≡ c.pieces.base.items ++ take c.min-part.result c.pieces.window.bytes.items = c.in_ok-extend_from_slice.ensures.items ∙ ap (λ (l : List ℕ). c.pieces.base.items ++ take c.min-part.result l) here in
    let grew : length c.extend_from_slice.new.self.items ≡ length c.pieces.base.items + c.min-part.result = omega (arith, ap length is, length-append c.pieces.base.items (take c.min-part.result c.pieces.window.bytes.items), length-take-le c.min-part.result c.pieces.window.bytes.items part) in
    let reads = c.pieces.invariant.reads in
    let side = c.skip.ensures.side ∙ reads.side in
    let at : on c.skip.new.self.side (g.D.Disk.state c.pieces.disk).content ≡ text = same_text c.skip.new.self.side c.args.window.now.side (g.D.Disk.state c.pieces.disk).content old.content side reads.reads.content in
    let small : c.min-part.result ≤ c.args.size - length c.pieces.base.items = search rules in record {
      small = omega (arith, grew, small, c.pieces.invariant.small);
      place = c.in_ok-read_more.ensures.place ∙ c.skip.ensures.place ∙ omega (arith, c.pieces.invariant.place, grew);
      base = λ honest.
          is
          ∙ base_grows text c.pieces.base.items c.pieces.window.bytes.items c.args.window.now.place c.pieces.window.place c.min-part.result (c.pieces.invariant.base honest) (c.pieces.invariant.shows honest).bytes c.pieces.invariant.place part
          ∙ ap (λ n. take n (drop c.args.window.now.place text)) (sym grew);
      shows = λ honest. subst (λ t. Shows t c.read_more.new.self) at (c.in_ok-read_more.ensures.shows (subst IsTrue (sym reads.reads.honest) honest));
      reads = reads_on old (g.D.Disk.state c.pieces.disk) (g.D.Disk.state c.read_more.new.disk) c.args.window.now c.pieces.window c.skip.new.self c.read_more.new.self reads c.skip.ensures.side c.skip.ensures.length c.skip.ensures.left c.in_ok-read_more.ensures.reads;
      faults = c.in_ok-read_more.ensures.faults ∙ c.pieces.invariant.faults;
    }
