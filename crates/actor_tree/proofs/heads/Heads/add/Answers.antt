use Rattle.std.proofs.Common.{◌≡◌, ℕ, ◌<◌, Option, ◌-◌, ◌∙◌, ap, length, length-set, min, arith}
use Rattle.std.specs.List.{All}
use Rattle.actor_tree.specs.declared.heads.Spot.{Spot}
use Rattle.actor_tree.specs.Heads.{letters_of_spots}
use Rattle.actor_tree.proofs.NumberedLemmas.{Lower, lower_mapped}
use Rattle.actor_tree.proofs.SpotLemmas.{one_entered}
use Rattle.actor_tree.proofs.heads.Heads.add.Goals as goal

pub push-requires-clause-newer : goal.push-requires-clause-newer
push-requires-clause-newer c =
    let newer : All (Lower {X = Option ℕ} c.args.actor) (letters_of_spots c.self.inside.spots.items) = rw (← c.self.view_is) at c.requires.newer in
    lower_mapped (λ (spot : Spot). spot.letter) c.args.actor c.self.inside.spots.items newer

pub overflow_add-self : goal.overflow_add-self
overflow_add-self c =
    let inside = c.self.inside in
    let room : 0 < min inside.spots.spare (length inside.tournament - inside.next) = rw (← c.self.view_is) at c.requires.room in
    let same : length c.set.new.self ≡ length inside.tournament = ap length c.set.ensures.places ∙ length-set inside.tournament inside.next c.entrant_of.result in
    omega (arith, c.set.ensures.fits)

pub invariant_of-self : goal.invariant_of-self
invariant_of-self c =
    let inside = c.self.inside in
    let newer : All (Lower {X = Option ℕ} c.args.actor) (letters_of_spots inside.spots.items) = rw (← c.self.view_is) at c.requires.newer in
    let room : 0 < min inside.spots.spare (length inside.tournament - inside.next) = rw (← c.self.view_is) at c.requires.room in
    rw (c.push.ensures.items, c.set.ensures.places, c.entrant_of.ensures)
    (one_entered inside.next inside.spots.items inside.tournament c.self.invariant c.args.actor c.args.letter (lower_mapped (λ (spot : Spot). spot.letter) c.args.actor inside.spots.items newer) (omega arith))
