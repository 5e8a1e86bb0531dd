use Rattle.std.proofs.Common.{length}
use Rattle.guard_eval.proofs.LawLemmas.{is_statechart}
use Rattle.snapshot_text.proofs.ListLemmas.{if_ok_weaker}
use Rattle.snapshot_text.proofs.validity.is_valid_office.Goals as goal

pub returns-then-not-do_records_rise : goal.returns-then-not-do_records_rise
returns-then-not-do_records_rise c = ((λ holds. absurd cc), (λ valid. absurd (let good = c.do_records_rise.ensures.1 (rw c.as_slice-actors.ensures valid.actors_rise) in let bad = c.if-not-do_records_rise.true in cc)))

pub has_plain_parts-requires : goal.has_plain_parts-requires
has_plain_parts-requires c = rw c.as_slice-actors.ensures at (c.do_records_rise.ensures.0 c.if-not-do_records_rise.false)

pub has_valid_actors-requires-clause-rise : goal.has_valid_actors-requires-clause-rise
has_valid_actors-requires-clause-rise c = rw c.as_slice-actors.ensures at (c.do_records_rise.ensures.0 c.if-not-do_records_rise.false)

pub has_valid_actors-requires-clause-statecharts : goal.has_valid_actors-requires-clause-statecharts
has_valid_actors-requires-clause-statecharts c = λ k d inside. is_statechart (length c.args.defs.now.actors) _ (c.requires k d inside)

pub returns-then-not-has_plain_parts : goal.returns-then-not-has_plain_parts
returns-then-not-has_plain_parts c = (
  (λ holds. absurd cc),
  (λ valid. absurd (
      let good = c.has_plain_parts.ensures.1 (record { numbers = valid.numbers; limits = valid.limits; letters = valid.letters; timers = valid.timers; timers_rise = valid.timers_rise; names = valid.names; callers = valid.callers }) in
      let bad = c.if-not-has_plain_parts.true in
      cc)),
)

pub returns-then-not-branch : goal.returns-then-not-branch
returns-then-not-branch c = (
  (λ holds. absurd cc),
  (λ valid. absurd (
      let good = c.in_ok-stand_once.ensures.1 (record { letters = valid.letters_once; timer_ids = valid.timer_ids; names = valid.names_once; callers = valid.callers_once }) in
      let bad = c.if-not-branch.true in
      cc)),
)

pub returns : goal.returns
returns c =
    let plain = c.has_plain_parts.ensures.0 c.if-not-has_plain_parts.false in
    let once = c.in_ok-stand_once.ensures.0 c.if-not-branch.false in
    if_ok_weaker c.has_valid_actors.result c.has_valid_actors.ensures
    (λ valid tells. (
      (λ holds. record {
        numbers = plain.numbers;
        limits = plain.limits;
        actors = tells.0 holds;
        actors_rise = rw c.as_slice-actors.ensures at (c.do_records_rise.ensures.0 c.if-not-do_records_rise.false);
        letters = plain.letters;
        letters_once = once.letters;
        timers = plain.timers;
        timers_rise = plain.timers_rise;
        timer_ids = once.timer_ids;
        names = plain.names;
        names_once = once.names;
        callers = plain.callers;
        callers_once = once.callers;
      }),
      (λ is. tells.1 is.actors),
    ))
