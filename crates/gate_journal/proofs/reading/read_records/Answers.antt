use Rattle.std.proofs.Common.{◌≡◌, IsTrue, ◌+◌, ◌≤◌, length, take, drop, subst, sym, ◌∙◌, ap, arith, rules, ℕ, List}
use Rattle.xs_outside.specs.Disk.{on}
use Rattle.gate_journal.specs.Reading.{Adds, AddsBetween, Shows, StopsAt}
use Rattle.gate_journal.proofs.IndexLemmas.{adds_indexed}
use Rattle.gate_journal.proofs.WindowLemmas.{adds_joined, stops_at_end, stops_at_bad, stops_at_last, reads_on, same_text}
use Rattle.gate_journal.proofs.reading.read_records.Goals as goal

pub take_records-requires : goal.take_records-requires
take_records-requires g c =
    let here : c.deref.result.now ≡ c.pieces.window.bytes.items = search rules in
    let inside : c.pieces.window.place + length c.pieces.window.bytes.items ≤ c.pieces.window.length = search rules in
    omega (arith, inside, ap length here, c.pieces.window.fits)

pub returns-in-End-clause-records : goal.returns-in-End-clause-records
returns-in-End-clause-records g c honest =
    let old = g.D.Disk.state c.args.disk.now in
    let text = on c.args.window.now.side old.content in
    let shown = c.pieces.invariant.shows honest in
    let here : c.deref.result.now ≡ c.pieces.window.bytes.items = search rules in
    let count = c.in_ok-count.count in
    let inside : c.pieces.window.place + length c.pieces.window.bytes.items ≤ c.pieces.window.length = search rules in
    let fits : count ≤ length c.pieces.window.bytes.items = omega (arith, c.in_ok-count.ensures.inside, ap length here) in
    let added = c.in_ok-count.ensures.added in
    let more = subst (λ (l : List ℕ). Adds c.pieces.window.place (take count l) added.0 c.pieces.records c.take_records.new.records c.pieces.places.items c.take_records.new.places.items) here added.1 in
    let joined = adds_joined text c.pieces.window.bytes.items c.args.window.now.place c.pieces.window.place count c.args.records.now c.pieces.records c.take_records.new.records c.args.places.now.items c.pieces.places.items c.take_records.new.places.items
    (c.pieces.invariant.added honest) shown.bytes fits (omega (arith, inside, shown.whole)) added.0 more in
    let to_here = subst (λ n. AddsBetween text c.args.window.now.place n c.args.records.now c.take_records.new.records c.args.places.now.items c.take_records.new.places.items) (sym c.skip.ensures.place) joined in
    let skipped = c.skip.ensures.shows text shown in
    let stops = subst (λ s. StopsAt s c.skip.new.self.bytes.items) c.in-End.is (subst (λ (l : List ℕ). StopsAt c.in_ok-count.stop l) (ap (λ (l : List ℕ). drop count l) here ∙ sym c.skip.ensures.bytes) c.in_ok-count.ensures.stop) in
    (to_here, stops_at_end text c.skip.new.self.bytes.items c.skip.new.self.place skipped.bytes stops)

pub returns-in-End-clause-indexed : goal.returns-in-End-clause-indexed
returns-in-End-clause-indexed g c many = adds_indexed c.pieces.window.place (take c.in_ok-count.count c.deref.result.now) c.in_ok-count.ensures.added.0 c.pieces.records c.take_records.new.records c.pieces.places.items c.take_records.new.places.items c.in_ok-count.ensures.added.1 (c.pieces.invariant.indexed many)

pub returns-in-Bad-clause-bad : goal.returns-in-Bad-clause-bad
returns-in-Bad-clause-bad g c honest =
    let old = g.D.Disk.state c.args.disk.now in
    let text = on c.args.window.now.side old.content in
    let shown = c.pieces.invariant.shows honest in
    let here : c.deref.result.now ≡ c.pieces.window.bytes.items = search rules in
    let count = c.in_ok-count.count in
    let inside : c.pieces.window.place + length c.pieces.window.bytes.items ≤ c.pieces.window.length = search rules in
    let fits : count ≤ length c.pieces.window.bytes.items = omega (arith, c.in_ok-count.ensures.inside, ap length here) in
    let added = c.in_ok-count.ensures.added in
    let more = subst (λ (l : List ℕ). Adds c.pieces.window.place (take count l) added.0 c.pieces.records c.take_records.new.records c.pieces.places.items c.take_records.new.places.items) here added.1 in
    let joined = adds_joined text c.pieces.window.bytes.items c.args.window.now.place c.pieces.window.place count c.args.records.now c.pieces.records c.take_records.new.records c.args.places.now.items c.pieces.places.items c.take_records.new.places.items
    (c.pieces.invariant.added honest) shown.bytes fits (omega (arith, inside, shown.whole)) added.0 more in
    let to_here = subst (λ n. AddsBetween text c.args.window.now.place n c.args.records.now c.take_records.new.records c.args.places.now.items c.take_records.new.places.items) (sym c.skip.ensures.place) joined in
    let skipped = c.skip.ensures.shows text shown in
    let stops = subst (λ s. StopsAt s c.skip.new.self.bytes.items) c.in-Bad.is (subst (λ (l : List ℕ). StopsAt c.in_ok-count.stop l) (ap (λ (l : List ℕ). drop count l) here ∙ sym c.skip.ensures.bytes) c.in_ok-count.ensures.stop) in
    (to_here, stops_at_bad text c.skip.new.self.bytes.items c.skip.new.self.place skipped.bytes stops)

pub returns-then-is_last-clause-bad : goal.returns-then-is_last-clause-bad
returns-then-is_last-clause-bad g c honest =
    let old = g.D.Disk.state c.args.disk.now in
    let text = on c.args.window.now.side old.content in
    let shown = c.pieces.invariant.shows honest in
    let here : c.deref.result.now ≡ c.pieces.window.bytes.items = search rules in
    let count = c.in_ok-count.count in
    let inside : c.pieces.window.place + length c.pieces.window.bytes.items ≤ c.pieces.window.length = search rules in
    let fits : count ≤ length c.pieces.window.bytes.items = omega (arith, c.in_ok-count.ensures.inside, ap length here) in
    let added = c.in_ok-count.ensures.added in
    let more = subst (λ (l : List ℕ). Adds c.pieces.window.place (take count l) added.0 c.pieces.records c.take_records.new.records c.pieces.places.items c.take_records.new.places.items) here added.1 in
    let joined = adds_joined text c.pieces.window.bytes.items c.args.window.now.place c.pieces.window.place count c.args.records.now c.pieces.records c.take_records.new.records c.args.places.now.items c.pieces.places.items c.take_records.new.places.items
    (c.pieces.invariant.added honest) shown.bytes fits (omega (arith, inside, shown.whole)) added.0 more in
    let to_here = subst (λ n. AddsBetween text c.args.window.now.place n c.args.records.now c.take_records.new.records c.args.places.now.items c.take_records.new.places.items) (sym c.skip.ensures.place) joined in
    let skipped = c.skip.ensures.shows text shown in
    let stops = subst (λ s. StopsAt s c.skip.new.self.bytes.items) c.in-More.is (subst (λ (l : List ℕ). StopsAt c.in_ok-count.stop l) (ap (λ (l : List ℕ). drop count l) here ∙ sym c.skip.ensures.bytes) c.in_ok-count.ensures.stop) in
    let last : c.skip.new.self.place + length c.skip.new.self.bytes.items ≡ c.skip.new.self.length = search (rules, arith) in
    (to_here, stops_at_last text c.skip.new.self.bytes.items c.skip.new.self.place skipped.bytes (last ∙ skipped.whole) stops)

pub pieces-preserved : goal.pieces-preserved
pieces-preserved g c =
    let old = g.D.Disk.state c.args.disk.now in
    let text = on c.args.window.now.side old.content in
    let reads = c.pieces.invariant.reads in
    let at : on c.skip.new.self.side (g.D.Disk.state c.pieces.disk).content ≡ text = same_text c.skip.new.self.side c.args.window.now.side (g.D.Disk.state c.pieces.disk).content old.content (c.skip.ensures.side ∙ reads.side) reads.reads.content in
    let adds = λ (honest : IsTrue old.honest).
    let shown = c.pieces.invariant.shows honest in
    let here : c.deref.result.now ≡ c.pieces.window.bytes.items = search rules in
    let count = c.in_ok-count.count in
    let inside : c.pieces.window.place + length c.pieces.window.bytes.items ≤ c.pieces.window.length = search rules in
    let fits : count ≤ length c.pieces.window.bytes.items = omega (arith, c.in_ok-count.ensures.inside, ap length here) in
    let added = c.in_ok-count.ensures.added in
    let more = subst (λ (l : List ℕ). Adds c.pieces.window.place (take count l) added.0 c.pieces.records c.take_records.new.records c.pieces.places.items c.take_records.new.places.items) here added.1 in
    let joined = adds_joined text c.pieces.window.bytes.items c.args.window.now.place c.pieces.window.place count c.args.records.now c.pieces.records c.take_records.new.records c.args.places.now.items c.pieces.places.items c.take_records.new.places.items
    (c.pieces.invariant.added honest) shown.bytes fits (omega (arith, inside, shown.whole)) added.0 more in
    let to_here = subst (λ n. AddsBetween text c.args.window.now.place n c.args.records.now c.take_records.new.records c.args.places.now.items c.take_records.new.places.items) (sym c.skip.ensures.place) joined in
    subst (λ n. AddsBetween text c.args.window.now.place n c.args.records.now c.take_records.new.records c.args.places.now.items c.take_records.new.places.items) (sym c.in_ok-read_more.ensures.place) to_here in record {
      added = adds;
      shows = λ honest. subst (λ t. Shows t c.read_more.new.self) at (c.in_ok-read_more.ensures.shows (subst IsTrue (sym reads.reads.honest) honest));
      reads = reads_on old (g.D.Disk.state c.pieces.disk) (g.D.Disk.state c.read_more.new.disk) c.args.window.now c.pieces.window c.skip.new.self c.read_more.new.self reads c.skip.ensures.side c.skip.ensures.length c.skip.ensures.left c.in_ok-read_more.ensures.reads;
      indexed = λ many. adds_indexed c.pieces.window.place (take c.in_ok-count.count c.deref.result.now) c.in_ok-count.ensures.added.0 c.pieces.records c.take_records.new.records c.pieces.places.items c.take_records.new.places.items c.in_ok-count.ensures.added.1 (c.pieces.invariant.indexed many);
      faults = c.in_ok-read_more.ensures.faults ∙ c.pieces.invariant.faults;
    }
