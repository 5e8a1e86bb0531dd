use Rattle.std.proofs.Common.{◌≡◌, ◌∙◌, ap, arith, eq-eqb, ne_eqb, sym, ℕ, Bool}
use Rattle.std.specs.Prelude.{if◌then◌else◌}
use Rattle.actor_tree.specs.Noted.{taken_by}
use Rattle.actor_tree.specs.Notes.{noted}
use Rattle.actor_tree.proofs.NotedLookLemmas.{letters_gone, letters_split}
use Rattle.actor_tree.proofs.notes.Notes.letters_of.Goals as goal
use Rattle.actor_tree.proofs.notes.Notes.letters_of.Goals.{then-number-actor, else-number-actor}

pub returns-then-contains : goal.returns-then-contains
returns-then-contains c = λ actors is.
    letters_gone c.args.held.now.office c.args.actor (noted c.args.self.now) actors is.records c.args.number (sym c.contains.ensures ∙ c.if-contains.true)

pub overflow_add-result : goal.overflow_add-result
overflow_add-result c =
    let actors = c.requires.0 in
    let is = c.requires.1 in
    let before = c.args.held.now.office in
    let told = is.records.letters c.args.number (sym c.contains.ensures ∙ c.if-contains.false) in
    let all = letters_split before c.args.actor (noted c.args.self.now) actors is.records c.args.number in
    elim c.if-number-actor.branch [
      | then-number-actor w ↦
          (let taken : taken_by c.args.actor c.args.number ≡ 1 = ap {B = ℕ} (λ (b : Bool). if b then 1 else 0) (eq-eqb c.args.number c.args.actor w.if-number-actor.true) in
          omega (arith, taken, told, all, is.waiting, is.fits, w.left-is, c.letters_of-before.ensures, c.letters_sent.ensures))
      | else-number-actor w ↦
          (let taken : taken_by c.args.actor c.args.number ≡ 0 = ap {B = ℕ} (λ (b : Bool). if b then 1 else 0) (ne_eqb c.args.number c.args.actor w.if-number-actor.false) in
          omega (arith, taken, told, all, is.waiting, is.fits, w.left-is, c.letters_of-before.ensures, c.letters_sent.ensures))
    ]
