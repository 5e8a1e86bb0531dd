use Rattle.std.proofs.Common.{List, ℕ, sym, subst}
use Rattle.std.specs.List.Sorted.{IsPermutation, IsStrictlyIncreasing}
use Rattle.office_types.specs.declared.office.ActorRecord.{ActorRecord}
use Rattle.action_table.specs.Definitions.{office_definitions}
use Rattle.snapshot_text.specs.Validity.{child_numbers}
use Rattle.snapshot_text.proofs.ParentLemmas.{kids_of_valid, listed_rise}
use Rattle.snapshot_text.proofs.validity.has_valid_actors.Goals as goal

pub returns-then-not-do_kids_have_parents : goal.returns-then-not-do_kids_have_parents
returns-then-not-do_kids_have_parents c = (
  (λ holds. absurd cc),
  (λ all. absurd (let good = c.do_kids_have_parents.ensures.1 (kids_of_valid c.args.state.now c.requires.rise (office_definitions c.args.defs.now) all) in let bad = c.if-not-do_kids_have_parents.true in cc)),
)

pub returns-then-not-do_numbers_rise : goal.returns-then-not-do_numbers_rise
returns-then-not-do_numbers_rise c = (
  (λ holds. absurd cc),
  (λ all. absurd (
      let P : List ActorRecord → Type 0 = λ actors. IsPermutation (child_numbers actors) c.in_ok-sorted.sorted.items in
      let moved = subst P c.as_slice-actors.ensures c.in_ok-sorted.ensures.permutation in
      let rise = listed_rise c.args.state.now c.requires.rise (office_definitions c.args.defs.now) all c.in_ok-sorted.sorted.items moved c.in_ok-sorted.ensures.sorted in
      let Q : List ℕ → Type 0 = λ l. IsStrictlyIncreasing l in
      let good = c.do_numbers_rise.ensures.1 (subst Q (sym c.as_slice-listed.ensures.value) rise) in
      let bad = c.if-not-do_numbers_rise.true in
      cc)),
)

pub are_actors-requires-clause-listed : goal.are_actors-requires-clause-listed
are_actors-requires-clause-listed c =
    let P : List ActorRecord → Type 0 = λ actors. IsPermutation (child_numbers actors) c.in_ok-sorted.sorted.items in
    let moved = subst P c.as_slice-actors.ensures c.in_ok-sorted.ensures.permutation in
    let R : List ℕ → Type 0 = λ l. IsPermutation (child_numbers c.args.state.now.actors) l in
    record {
      permutation = subst R (sym c.as_slice-listed.ensures.value) moved;
      rise = c.do_numbers_rise.ensures.0 c.if-not-do_numbers_rise.false;
    }
