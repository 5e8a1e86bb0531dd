use Rattle.std.proofs.Common.{◌≡◌, ◌-◌, ◌<◌, ◌≤◌, length, take, drop, get_or, ◌∙◌, sym, ap, arith, rules}
use Rattle.std.proofs.lemmas.List.{get_or_read}
use Rattle.std.specs.Prelude.{slice_get, Some}
use Rattle.gate_journal.specs.Pieces.{start_of}
use Rattle.gate_journal.proofs.PieceLemmas.{pieces-at, pieces-get_past, start_of-le, Ends-get}
use Rattle.gate_journal.proofs.records.Records.get.Goals as goal

pub returns-then-index-len : goal.returns-then-index-len
returns-then-index-len c =
    let past : length c.self.inside.ends.items ≤ c.args.index = search rules in
    sym (pieces-get_past c.self.inside.bytes.items 0 c.self.inside.ends.items c.args.index past) ∙ ap (λ l. slice_get l c.args.index) c.self.view_is

pub slice_bounds-result-count : goal.slice_bounds-result-count
slice_bounds-result-count c =
    let ends = c.self.inside.ends.items in
    let inside : c.args.index < length ends = search rules in
    let start : c.start_of-start.result ≡ start_of ends c.args.index = search rules in
    let end = get_or_read ends c.args.index c.index.result.now inside c.index.ensures 0 in
    omega (arith, start, end, start_of-le ends (length c.self.inside.bytes.items) c.args.index c.self.invariant inside)

pub slice_bounds-result-start : goal.slice_bounds-result-start
slice_bounds-result-start c =
    let ends = c.self.inside.ends.items in
    let inside : c.args.index < length ends = search rules in
    let start : c.start_of-start.result ≡ start_of ends c.args.index = search rules in
    let end = get_or_read ends c.args.index c.index.result.now inside c.index.ensures 0 in
    omega (arith, start, end, start_of-le ends (length c.self.inside.bytes.items) c.args.index c.self.invariant inside)

pub slice_bounds-result-end : goal.slice_bounds-result-end
slice_bounds-result-end c =
    let ends = c.self.inside.ends.items in
    let inside : c.args.index < length ends = search rules in
    let end = get_or_read ends c.args.index c.index.result.now inside c.index.ensures 0 in
    let bytes : c.deref-2.result.now ≡ c.self.inside.bytes.items = search rules in
    omega (arith, end, ap length bytes, (Ends-get 0 ends (length c.self.inside.bytes.items) c.args.index c.self.invariant inside).1)

pub returns : goal.returns
returns c =
    let ends = c.self.inside.ends.items in
    let inside : c.args.index < length ends = search rules in
    let start : c.start_of-start.result ≡ start_of ends c.args.index = search rules in
    let end = get_or_read ends c.args.index c.index.result.now inside c.index.ensures 0 in
    let bytes : c.deref-2.result.now ≡ c.self.inside.bytes.items = search rules in
    ap (λ n. Some (take (n - c.start_of-start.result) (drop c.start_of-start.result c.deref-2.result.now))) end
    ∙ ap (λ n. Some (take (get_or ends c.args.index 0 - n) (drop n c.deref-2.result.now))) start
    ∙ ap (λ l. Some (take (get_or ends c.args.index 0 - start_of ends c.args.index) (drop (start_of ends c.args.index) l))) bytes
    ∙ sym (pieces-at c.self.inside.bytes.items ends c.args.index inside)
    ∙ ap (λ l. slice_get l c.args.index) c.self.view_is
