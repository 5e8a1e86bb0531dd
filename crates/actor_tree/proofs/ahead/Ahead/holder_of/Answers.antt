use Rattle.std.proofs.Common.{◌∙◌, List, None, Some, ℕ, ap, not, sym}
use Rattle.std.specs.Prelude.{Option, if◌then◌else◌}
use Rattle.std.specs.Option.{option_and_then, option_or}
use Rattle.office_types.specs.SystemNames.{holder_of}
use Rattle.actor_tree.specs.Notes.{noted}
use Rattle.actor_tree.proofs.AheadLemmas.{holder_is}
use Rattle.actor_tree.proofs.ahead.Ahead.holder_of.Goals as goal

pub returns : goal.returns
returns c =
    let inside = c.self.inside in
    let before = inside.held.now.office in
    let left : Option ℕ → Option ℕ = option_and_then (λ (n : ℕ). if not ((noted inside.notes).gone n) then Some n else None) in
    rw (← c.self.view_is)
    (c.or.ensures
    ∙ ap (λ (o : Option ℕ). option_or o c.held.result) (c.if_left-before.ensures ∙ ap left (c.holder_of.ensures ∙ ap (λ (name : List ℕ). holder_of name before.names) c.as_bytes.ensures))
    ∙ ap (option_or (left (holder_of c.args.name.now before.names))) (c.held.ensures ∙ ap (λ (name : List ℕ). holder_of name inside.notes.names.names) c.as_bytes-2.ensures)
    ∙ sym (holder_is before inside.actor inside.parts.items inside.notes c.self.invariant c.args.name.now))
