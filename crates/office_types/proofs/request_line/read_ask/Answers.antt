use Rattle.std.specs.Prelude.{codes}
use Rattle.office_types.proofs.LineLemmas.{differs_from, same_as}
use Rattle.office_types.proofs.RequestLemmas.{asks_nothing, behind_word, reads_word}
use Rattle.office_types.proofs.request_line.read_ask.Goals as goal

pub returns-then-eq : goal.returns-then-eq
returns-then-eq c =
    let word = c.in_ok-word.word.now in
    reads_word c.args.text.now word c.in_ok-word.rest.now (codes "start") c.in_ok-word.ensures
    (same_as word c.as_slice.result.now (codes "start") c.eq.result c.eq.ensures c.as_slice.ensures c.if-eq.true) c.read_start.result c.read_start.ensures

pub returns-then-eq-2 : goal.returns-then-eq-2
returns-then-eq-2 c =
    let word = c.in_ok-word.word.now in
    reads_word c.args.text.now word c.in_ok-word.rest.now (codes "send") c.in_ok-word.ensures
    (same_as word c.as_slice-2.result.now (codes "send") c.eq-2.result c.eq-2.ensures c.as_slice-2.ensures c.if-eq-2.true) c.read_send.result c.read_send.ensures

pub returns-then-eq-3 : goal.returns-then-eq-3
returns-then-eq-3 c =
    let word = c.in_ok-word.word.now in
    reads_word c.args.text.now word c.in_ok-word.rest.now (codes "resolve") c.in_ok-word.ensures
    (same_as word c.as_slice-3.result.now (codes "resolve") c.eq-3.result c.eq-3.ensures c.as_slice-3.ensures c.if-eq-3.true) c.read_resolve.result c.read_resolve.ensures

pub returns-then-eq-4 : goal.returns-then-eq-4
returns-then-eq-4 c =
    let word = c.in_ok-word.word.now in
    reads_word c.args.text.now word c.in_ok-word.rest.now (codes "reject") c.in_ok-word.ensures
    (same_as word c.as_slice-4.result.now (codes "reject") c.eq-4.result c.eq-4.ensures c.as_slice-4.ensures c.if-eq-4.true) c.read_reject.result c.read_reject.ensures

pub returns-then-eq-5 : goal.returns-then-eq-5
returns-then-eq-5 c =
    let word = c.in_ok-word.word.now in
    reads_word c.args.text.now word c.in_ok-word.rest.now (codes "at") c.in_ok-word.ensures
    (same_as word c.as_slice-5.result.now (codes "at") c.eq-5.result c.eq-5.ensures c.as_slice-5.ensures c.if-eq-5.true) c.read_at.result c.read_at.ensures

pub returns : goal.returns
returns c = λ asked is.
    let word = c.in_ok-word.word.now in
    let rest = c.in_ok-word.rest.now in
    asks_nothing word rest
    (differs_from word c.as_slice.result.now (codes "start") c.eq.result c.eq.ensures c.as_slice.ensures c.if-eq.false)
    (differs_from word c.as_slice-2.result.now (codes "send") c.eq-2.result c.eq-2.ensures c.as_slice-2.ensures c.if-eq-2.false)
    (differs_from word c.as_slice-3.result.now (codes "resolve") c.eq-3.result c.eq-3.ensures c.as_slice-3.ensures c.if-eq-3.false)
    (differs_from word c.as_slice-4.result.now (codes "reject") c.eq-4.result c.eq-4.ensures c.as_slice-4.ensures c.if-eq-4.false)
    (differs_from word c.as_slice-5.result.now (codes "at") c.eq-5.result c.eq-5.ensures c.as_slice-5.ensures c.if-eq-5.false)
    asked (behind_word c.args.text.now word rest c.in_ok-word.ensures asked is)
