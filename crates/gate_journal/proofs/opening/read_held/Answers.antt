use Rattle.std.proofs.Common.{◌≡◌, IsTrue, ◌+◌, ◌≤◌, length, take, drop, refl, subst, sym, ◌∙◌, ap, arith, ℕ, List, []}
use Rattle.std.proofs.lemmas.Result.{err_from_is_err_and}
use Rattle.xs_outside.specs.Disk.{on}
use Rattle.gate_journal.specs.declared.held.Held.{Held}
use Rattle.gate_journal.specs.declared.parts.TheConstants.{HEAD, MAX_BASE}
use Rattle.gate_journal.specs.Layout.{IsBadAt}
use Rattle.gate_journal.specs.Reading.{AddsBetween, BreaksAt, EndsAt}
use Rattle.gate_journal.proofs.FrontLemmas.{bad_text, end_is, head_length, held_text, places_are}
use Rattle.gate_journal.proofs.OkLemmas.{if_bad_weaker}
use Rattle.gate_journal.proofs.WindowLemmas.{same_text}
use Rattle.gate_journal.proofs.opening.read_held.Goals as goal

pub returns-in_err-read_records-clause-bad : goal.returns-in_err-read_records-clause-bad
returns-in_err-read_records-clause-bad g c =
    let p = err_from_is_err_and c.from_residual-in_err-read_records.result c.from_residual-in_err-read_records.ensures.1 in
    let records = c.read_records.new.records in
    let places = c.read_records.new.places.items in
    let P : ℕ → Type 0 = λ place. IsTrue (g.D.Disk.state c.read_base.new.disk).honest
    → AddsBetween (on c.read_base.new.window.side (g.D.Disk.state c.read_base.new.disk).content) c.read_base.new.window.place place c.new-records.result records c.new-places.result.items places
    × BreaksAt (on c.read_base.new.window.side (g.D.Disk.state c.read_base.new.disk).content) place in
    let Q : ℕ → Type 0 = λ place. IsTrue (g.D.Disk.state c.args.disk.now).honest → IsBadAt (on c.args.window.side (g.D.Disk.state c.args.disk.now).content) place in
    rw (p.1, p.2) (if_bad_weaker (Unit {0}) (Held × ℕ) P Q c.in_err-read_records.field-0.0 c.in_err-read_records.ensures.bad (λ place broken honest.
    let old = g.D.Disk.state c.args.disk.now in
    let text = on c.args.window.side old.content in
    let shown = (c.requires.shows honest).0 in
    let head = (c.requires.shows honest).1 in
    let size = c.args.size in
    let place1 : c.skip.new.self.place ≡ HEAD = omega (arith, c.skip.ensures.place, c.requires.front.0) in
    let base_is : c.in_ok-base.base.items ≡ take size (drop HEAD text) =
    c.in_ok-base.ensures.base honest
    ∙ ap (λ n. take size (drop n (on c.skip.new.self.side old.content))) place1
    ∙ ap (λ s. take size (drop HEAD (on s old.content))) c.skip.ensures.side in
    let reads1 = c.read_base.ensures.reads in
    let text2_is : on c.read_base.new.window.side (g.D.Disk.state c.read_base.new.disk).content ≡ text =
    same_text c.read_base.new.window.side c.args.window.side (g.D.Disk.state c.read_base.new.disk).content old.content (reads1.side ∙ c.skip.ensures.side) reads1.reads.content in
    let place2 : c.read_base.new.window.place ≡ HEAD + size = c.in_ok-base.ensures.place ∙ ap (λ n. n + size) place1 in
    let still : IsTrue (g.D.Disk.state c.read_base.new.disk).honest = subst IsTrue (sym reads1.reads.honest) honest in
    let fits : size ≤ MAX_BASE = omega (arith, c.if-size-gt-MAX_BASE.false) in
    let long : HEAD ≤ length text = head_length c.args.generation size (drop HEAD text) text head in
    let room : HEAD + size ≤ length text = omega (arith, c.if-window-size.false, shown.whole, long) in
    let raw = broken still in
    let adds = subst (λ (l : List ℕ). AddsBetween text (HEAD + size) place [] c.read_records.new.records l c.read_records.new.places.items) c.new-places.ensures.items (subst (λ l. AddsBetween text (HEAD + size) place l c.read_records.new.records c.new-places.result.items c.read_records.new.places.items) c.new-records.ensures (subst (λ n. AddsBetween text n place c.new-records.result c.read_records.new.records c.new-places.result.items c.read_records.new.places.items) place2 (subst (λ t. AddsBetween t c.read_base.new.window.place place c.new-records.result c.read_records.new.records c.new-places.result.items c.read_records.new.places.items) text2_is (raw.0)))) in
    bad_text text c.args.generation size head fits room c.in_ok-base.base.items base_is place records places adds (subst (λ t. BreaksAt t place) text2_is raw.1)))

pub returns-clause-held : goal.returns-clause-held
returns-clause-held g c honest =
    let old = g.D.Disk.state c.args.disk.now in
    let text = on c.args.window.side old.content in
    let shown = (c.requires.shows honest).0 in
    let head = (c.requires.shows honest).1 in
    let size = c.args.size in
    let place1 : c.skip.new.self.place ≡ HEAD = omega (arith, c.skip.ensures.place, c.requires.front.0) in
    let base_is : c.in_ok-base.base.items ≡ take size (drop HEAD text) =
    c.in_ok-base.ensures.base honest
    ∙ ap (λ n. take size (drop n (on c.skip.new.self.side old.content))) place1
    ∙ ap (λ s. take size (drop HEAD (on s old.content))) c.skip.ensures.side in
    let reads1 = c.read_base.ensures.reads in
    let text2_is : on c.read_base.new.window.side (g.D.Disk.state c.read_base.new.disk).content ≡ text =
    same_text c.read_base.new.window.side c.args.window.side (g.D.Disk.state c.read_base.new.disk).content old.content (reads1.side ∙ c.skip.ensures.side) reads1.reads.content in
    let place2 : c.read_base.new.window.place ≡ HEAD + size = c.in_ok-base.ensures.place ∙ ap (λ n. n + size) place1 in
    let still : IsTrue (g.D.Disk.state c.read_base.new.disk).honest = subst IsTrue (sym reads1.reads.honest) honest in
    let fits : size ≤ MAX_BASE = omega (arith, c.if-size-gt-MAX_BASE.false) in
    let long : HEAD ≤ length text = head_length c.args.generation size (drop HEAD text) text head in
    let room : HEAD + size ≤ length text = omega (arith, c.if-window-size.false, shown.whole, long) in
    let records = c.read_records.new.records in
    let end = c.read_records.new.window.place in
    let raw = c.in_ok-read_records.ensures.records still in
    let read = subst (λ (l : List ℕ). AddsBetween text (HEAD + size) end [] c.read_records.new.records l c.read_records.new.places.items) c.new-places.ensures.items (subst (λ l. AddsBetween text (HEAD + size) end l c.read_records.new.records c.new-places.result.items c.read_records.new.places.items) c.new-records.ensures (subst (λ n. AddsBetween text n end c.new-records.result c.read_records.new.records c.new-places.result.items c.read_records.new.places.items) place2 (subst (λ t. AddsBetween t c.read_base.new.window.place end c.new-records.result c.read_records.new.records c.new-places.result.items c.read_records.new.places.items) text2_is (raw.0)))) in
    let adds = subst (λ (l : List ℕ). AddsBetween text (HEAD + size) end [] records [] l) (sym c.from_vec-2.ensures) read in
    let is = c.from_vec.ensures ∙ base_is in (
      refl,
      record {
        on_side = c.read_records.ensures.reads.side ∙ reads1.side ∙ c.skip.ensures.side;
        holds = held_text text c.args.generation size head fits room c.from_vec.result is end records c.from_vec-2.result adds (subst (λ t. EndsAt t end) text2_is raw.1);
        places = places_are text c.args.generation size head fits room c.from_vec.result is end records c.from_vec-2.result adds;
        ends = end_is text c.args.generation size head fits room c.from_vec.result is end records c.from_vec-2.result adds;
      },
    )
