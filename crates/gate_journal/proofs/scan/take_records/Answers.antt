use Rattle.std.proofs.Common.{◌+◌, ◌∷◌, [], ◌++◌, take, sym, ◌∙◌, ap, arith}
use Rattle.std.proofs.lemmas.List.{length-take-le, take_rest}
use Rattle.gate_journal.proofs.WindowLemmas.{whole_record, record_taken, payload_taken, adds_more}
use Rattle.gate_journal.proofs.scan.take_records.Goals as goal

pub slice_bounds-push-end : goal.slice_bounds-push-end
slice_bounds-push-end c =
    let here = c.in-Record.ensures in
    let front = sym (take_rest c.args.text.now c.records.at) ∙ here.4 in
    omega (arith, whole_record c.args.text.now c.records.at c.in-Record.size here.1 here.2 c.records.invariant.inside front here.3)

pub records-preserved : goal.records-preserved
records-preserved c =
    let here = c.in-Record.ensures in
    let text = c.args.text.now in
    let front = sym (take_rest text c.records.at) ∙ here.4 in
    let at = c.records.at in
    let size = c.in-Record.size in
    let added = c.records.invariant.added in record {
      inside = whole_record text at size here.1 here.2 c.records.invariant.inside front here.3;
      added = (
        added.0 ++ here.1 ∷ [],
        adds_more c.args.place (take at text) (take (at + 5 + size) text) here.1 added.0 c.args.records.now c.records.records c.push.new.self c.args.places.now.items c.records.places.items c.push-in-Record.new.self.items
            added.1 (omega (arith, here.0.0, here.3), omega (arith, here.0.1, here.3)) (record_taken text at size here.1 here.2 front here.3)
            (c.in_ok-push-in-Record.ensures.ok ∙ ap (λ l. c.records.records ++ l ∷ []) (payload_taken text at size here.1 here.2 front here.3))
            (c.in_ok-push-in-Record-2.ensures.items ∙ ap (λ n. c.records.places.items ++ (c.args.place + n) ∷ []) (sym (length-take-le at text c.records.invariant.inside))),
      );
    }
