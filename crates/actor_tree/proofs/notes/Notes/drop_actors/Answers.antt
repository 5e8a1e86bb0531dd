use Rattle.std.proofs.Common.{◌≡◌, ◌∙◌, ◌<◌, ◌||◌, Bool, true, false, refl, List, ℕ, ap, arith, get_or, nat_eq, subst, sym, take, take_all}
use Rattle.std.specs.Prelude.{fold}
use Rattle.office_types.specs.declared.office.OfficeState.{OfficeState}
use Rattle.office_types.specs.Ends.{is_among}
use Rattle.actor_tree.specs.Noted.{without_actor}
use Rattle.actor_tree.specs.Notes.{AreNoted, noted}
use Rattle.actor_tree.proofs.NoteListLemmas.{any_more, each_next, fold_more, or_joined}
use Rattle.actor_tree.proofs.notes.Notes.drop_actors.Goals as goal

pub drop_actor-requires-clause-after : goal.drop_actor-requires-clause-after
drop_actor-requires-clause-after c = (each_next (λ (number : ℕ). c.args.actor < number) c.args.numbers.now c.loop-number.number-index 0 c.loop-number-test.true c.loop-number.invariant.after).0

pub drop_actor-requires-clause-noted : goal.drop_actor-requires-clause-noted
drop_actor-requires-clause-noted c = (fold without_actor c.requires.noted.0 (take c.loop-number.number-index c.args.numbers.now), c.loop-number.invariant.told c.requires.noted.0 c.requires.noted.1)

pub loop-number-preserved : goal.loop-number-preserved
loop-number-preserved c =
    let number = get_or c.args.numbers.now c.loop-number.number-index 0 in
    let so_far = take c.loop-number.number-index c.args.numbers.now in
    record {
      told = λ office is.
          subst (AreNoted c.args.held.now.office c.args.actor c.drop_actor.new.self) (sym (fold_more without_actor office c.args.numbers.now c.loop-number.number-index 0 c.loop-number-test.true))
          (c.in_ok-drop_actor.ensures.noted (fold without_actor office so_far) (c.loop-number.invariant.told office is));
      gone = λ other.
          c.in_ok-drop_actor.ensures.gone other ∙ ap (λ (b : Bool). nat_eq other number || b) (c.loop-number.invariant.gone other)
          ∙ or_joined (nat_eq other number) (is_among so_far other) ((noted c.args.self.now).gone other)
          ∙ ap (λ (b : Bool). b || (noted c.args.self.now).gone other) (sym (any_more (nat_eq other) c.args.numbers.now c.loop-number.number-index 0 c.loop-number-test.true));
      machines = c.in_ok-drop_actor.ensures.machines ∙ c.loop-number.invariant.machines;
      after = (each_next (λ (n : ℕ). c.args.actor < n) c.args.numbers.now c.loop-number.number-index 0 c.loop-number-test.true c.loop-number.invariant.after).1;
    }

pub returns : goal.returns
returns c =
    let whole = take_all c.loop-number.number-index c.args.numbers.now c.loop-number-test.false in
    record {
      noted = λ office is. subst (λ (numbers : List ℕ). AreNoted c.args.held.now.office c.args.actor c.loop-number.self (fold without_actor office numbers)) whole (c.loop-number.invariant.told office is);
      gone = λ other. c.loop-number.invariant.gone other ∙ ap (λ (numbers : List ℕ). is_among numbers other || (noted c.args.self.now).gone other) whole;
      machines = c.loop-number.invariant.machines;
    }
