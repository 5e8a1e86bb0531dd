use Rattle.std.proofs.Common.{◌≡◌, ◌∙◌, ◌-◌, ◌+◌, ◌++◌, ◌∷◌, [], List, ℕ, ap, arith, suc, sym, refl}
use Rattle.std.proofs.lemmas.List.{append-nil}
use Rattle.actor_tree.specs.Noted.{numbers_from, staying}
use Rattle.actor_tree.specs.Notes.{noted}
use Rattle.actor_tree.proofs.NotedNumberLemmas.{no_numbers, numbers_more, staying_more}
use Rattle.actor_tree.proofs.notes.Notes.add_made.Goals as goal

pub loop-number-init : goal.loop-number-init
loop-number-init c =
    let first = c.args.held.now.office.next_actor in
    let none : c.next_actor-number.result - first ≡ 0 = omega (arith, c.next_actor-number.ensures) in
    record {
      low = omega (arith, c.next_actor-number.ensures);
      high = omega (arith, c.next_actor-number.ensures, c.requires);
      last = refl;
      so_far = sym (append-nil c.args.found.now.items)
          ∙ ap (λ (numbers : List ℕ). c.args.found.now.items ++ staying (noted c.args.self.now).gone c.args.root numbers) (sym (ap (numbers_from first) none ∙ no_numbers first));
    }

pub loop-number-preserved : goal.loop-number-preserved
loop-number-preserved c =
    let first = c.args.held.now.office.next_actor in
    let is = c.loop-number.invariant in
    let more : c.loop-number.number + 1 - first ≡ suc (c.loop-number.number - first) = omega (arith, is.low) in
    let this : first + (c.loop-number.number - first) ≡ c.loop-number.number = omega (arith, is.low) in
    record {
      low = omega (arith, is.low);
      high = omega (arith, c.loop-number-test.true);
      last = refl;
      so_far = c.in_ok-push_staying.ensures
          ∙ staying_more (noted c.args.self.now).gone c.args.root c.args.found.now.items c.loop-number.found.items (numbers_from first (c.loop-number.number - first)) c.loop-number.number is.so_far
          ∙ ap (λ (numbers : List ℕ). c.args.found.now.items ++ staying (noted c.args.self.now).gone c.args.root numbers)
          (ap (λ (n : ℕ). numbers_from first (c.loop-number.number - first) ++ n ∷ []) (sym this) ∙ sym (ap (numbers_from first) more ∙ numbers_more first (c.loop-number.number - first)));
    }

pub returns : goal.returns
returns c =
    let first = c.args.held.now.office.next_actor in
    let is = c.loop-number.invariant in
    let end : c.loop-number.number ≡ c.args.self.now.counts.next_actor = omega (arith, is.high, c.loop-number-test.false) in
    is.so_far ∙ ap (λ (n : ℕ). c.args.found.now.items ++ staying (noted c.args.self.now).gone c.args.root (numbers_from first (n - first))) end
