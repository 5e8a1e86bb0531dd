use Rattle.std.proofs.Common.{◌≡◌, ℕ, Option, List, filter, not, sym, ap, ◌∙◌, subst, refl}
use Rattle.std.specs.Option.{option_or}
use Rattle.office_types.specs.Ready.{Head, first_of, is_busy}
use Rattle.action_table.specs.Definitions.{office_definitions}
use Rattle.actor_tree.specs.Heads.{HaveOwnLetters, heads_among}
use Rattle.actor_tree.proofs.ReadyLemmas.{heads_are, valid_own_letters}
use Rattle.actor_tree.proofs.forest.Forest.next.Goals as goal

pub first_but-requires : goal.first_but-requires
first_but-requires c =
    subst HaveOwnLetters (sym c.self.invariant.heads_are) (valid_own_letters (office_definitions c.self.inside.defs.value) c.self.inside.held.office c.self.invariant.valid)

pub returns : goal.returns
returns c =
    let office = c.self.inside.held.office in
    c.first_but.ensures
    ∙ rw (← c.self.view_is)
    (ap (λ (heads : List Head). option_or (first_of (filter (λ (head : Head). not (is_busy c.args.busy.now head)) heads)) (first_of heads))
    (ap heads_among c.self.invariant.heads_are ∙ heads_are office.actors office refl))
