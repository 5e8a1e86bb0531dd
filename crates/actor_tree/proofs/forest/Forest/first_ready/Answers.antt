use Rattle.std.proofs.Common.{◌≡◌, ℕ, Option, List, sym, ap, ◌∙◌, subst, refl}
use Rattle.office_types.specs.Ready.{first_of}
use Rattle.action_table.specs.Definitions.{office_definitions}
use Rattle.actor_tree.specs.Heads.{HaveOwnLetters, heads_among}
use Rattle.actor_tree.proofs.ReadyLemmas.{heads_are, valid_own_letters}
use Rattle.actor_tree.proofs.forest.Forest.first_ready.Goals as goal

pub first-requires : goal.first-requires
first-requires c =
    subst HaveOwnLetters (sym c.self.invariant.heads_are) (valid_own_letters (office_definitions c.self.inside.defs.value) c.self.inside.held.office c.self.invariant.valid)

pub returns : goal.returns
returns c =
    let office = c.self.inside.held.office in
    c.first.ensures
    ∙ rw (← c.self.view_is) (ap (λ (items : List (ℕ × Option ℕ)). first_of (heads_among items)) c.self.invariant.heads_are ∙ ap first_of (heads_are office.actors office refl))
