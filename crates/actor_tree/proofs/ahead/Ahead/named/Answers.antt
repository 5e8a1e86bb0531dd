use Rattle.std.proofs.Common.{◌≡◌, ◌∙◌, Some, ℕ, ap, sym}
use Rattle.std.specs.Prelude.{Option}
use Rattle.actor_tree.specs.Parts.{put}
use Rattle.actor_tree.proofs.FaceLemmas.{record_number}
use Rattle.actor_tree.proofs.NoteListLemmas.{look_number}
use Rattle.actor_tree.proofs.ahead.Ahead.named.Goals as goal

pub returns-in-Own : goal.returns-in-Own
returns-in-Own c = λ found seen.
    let inside = c.self.inside in
    let office = put inside.held.now.office inside.parts.items in
    rw c.in-Own.is (ap {B = Option ℕ} (λ (n : ℕ). Some n) (sym (look_number record_number office.actors inside.actor found (rw (← c.self.view_is) at seen))))
