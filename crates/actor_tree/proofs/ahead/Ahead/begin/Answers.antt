use Rattle.std.proofs.Common.{◌≡◌, ◌∙◌, ◌∷◌, [], ◌++◌, List, ap, subst, sym}
use Rattle.actor_tree.specs.declared.part.Part.{Part}
use Rattle.actor_tree.specs.declared.part.Part.TheVariants as part
use Rattle.actor_tree.specs.Changes.{AheadOffice}
use Rattle.actor_tree.specs.Notes.{AreNoted}
use Rattle.actor_tree.specs.Parts.{CanPutAll, put}
use Rattle.actor_tree.proofs.ahead.Ahead.begin.Goals as goal

pub invariant_of-result : goal.invariant_of-result
invariant_of-result c =
    let before = c.args.held.now.office in
    let parts : c.push.new.self.items ≡ part.TakeHead c.args.actor ∷ [] = c.in_ok-push.ensures.items ∙ ap (λ (ps : List Part). ps ++ part.TakeHead c.args.actor ∷ []) c.new-parts.ensures.items in
    record {
      begins = record { valid = c.requires.valid; ready = c.requires.ready };
      fits = subst (CanPutAll before) (sym parts) (tt, tt);
      told = subst (λ (ps : List Part). AreNoted before c.args.actor c.begin-notes.result (put before ps)) (sym parts) c.begin-notes.ensures.noted;
      gone = c.begin-notes.ensures.gone;
    }

pub returns : goal.returns
returns c =
    let before = c.args.held.now.office in
    let parts : c.push.new.self.items ≡ part.TakeHead c.args.actor ∷ [] = c.in_ok-push.ensures.items ∙ ap (λ (ps : List Part). ps ++ part.TakeHead c.args.actor ∷ []) c.new-parts.ensures.items in
    let after : List Part → AheadOffice = λ (ps : List Part). record { before = before; actor = c.args.actor; office = put before ps } in
    ap after parts
