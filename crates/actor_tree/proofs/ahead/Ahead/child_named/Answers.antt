use Rattle.std.proofs.Common.{◌≡◌, ◌∙◌, List, ℕ, None, Some, ap, sym}
use Rattle.std.specs.Prelude.{Option, unwrap_or}
use Rattle.std.specs.BTreeMap.{get_by_text}
use Rattle.std.specs.Option.{option_copied}
use Rattle.office_types.specs.Effects.{child_named}
use Rattle.actor_tree.proofs.AheadLemmas.{kid_later}
use Rattle.actor_tree.proofs.ahead.Ahead.child_named.Goals as goal

pub returns-in-Some-clause-child : goal.returns-in-Some-clause-child
returns-in-Some-clause-child c =
    let inside = c.self.inside in
    let noted : get_by_text inside.notes.kids c.args.id.now ≡ Some c.in-Some.child.now =
    ap (λ (key : List ℕ). get_by_text inside.notes.kids key) (sym c.as_str.ensures) ∙ sym c.get.ensures.value ∙ ap option_copied c.in-Some.is in
    rw (← c.self.view_is)
    (sym (c.self.invariant.told.kids.kids c.args.id.now ∙ ap (λ (o : Option (Option ℕ)). unwrap_or o (child_named inside.held.now.office inside.actor c.args.id.now)) noted))

pub returns-in-None-clause-child : goal.returns-in-None-clause-child
returns-in-None-clause-child c =
    let inside = c.self.inside in
    let noted : get_by_text inside.notes.kids c.args.id.now ≡ None =
    ap (λ (key : List ℕ). get_by_text inside.notes.kids key) (sym c.as_str.ensures) ∙ sym c.get.ensures.value ∙ ap option_copied c.in-None.is in
    rw (← c.self.view_is)
    (c.child_named.ensures ∙ ap (child_named inside.held.now.office inside.actor) c.as_bytes.ensures
    ∙ sym (c.self.invariant.told.kids.kids c.args.id.now ∙ ap (λ (o : Option (Option ℕ)). unwrap_or o (child_named inside.held.now.office inside.actor c.args.id.now)) noted))

pub returns-in-Some-clause-later : goal.returns-in-Some-clause-later
returns-in-Some-clause-later c =
    let inside = c.self.inside in
    let noted : get_by_text inside.notes.kids c.args.id.now ≡ Some c.in-Some.child.now =
    ap (λ (key : List ℕ). get_by_text inside.notes.kids key) (sym c.as_str.ensures) ∙ sym c.get.ensures.value ∙ ap option_copied c.in-Some.is in
    rw (← c.self.view_is)
    (kid_later inside.held.now.office inside.actor inside.parts.items inside.notes c.self.invariant c.args.id.now c.in-Some.child.now
    (c.self.invariant.told.kids.kids c.args.id.now ∙ ap (λ (o : Option (Option ℕ)). unwrap_or o (child_named inside.held.now.office inside.actor c.args.id.now)) noted))

pub returns-in-None-clause-later : goal.returns-in-None-clause-later
returns-in-None-clause-later c =
    let inside = c.self.inside in
    let noted : get_by_text inside.notes.kids c.args.id.now ≡ None =
    ap (λ (key : List ℕ). get_by_text inside.notes.kids key) (sym c.as_str.ensures) ∙ sym c.get.ensures.value ∙ ap option_copied c.in-None.is in
    rw (← c.self.view_is)
    (kid_later inside.held.now.office inside.actor inside.parts.items inside.notes c.self.invariant c.args.id.now c.child_named.result
    (sym (c.child_named.ensures ∙ ap (child_named inside.held.now.office inside.actor) c.as_bytes.ensures
    ∙ sym (c.self.invariant.told.kids.kids c.args.id.now ∙ ap (λ (o : Option (Option ℕ)). unwrap_or o (child_named inside.held.now.office inside.actor c.args.id.now)) noted))))
