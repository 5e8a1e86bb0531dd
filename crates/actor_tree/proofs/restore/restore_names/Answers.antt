use Rattle.std.proofs.Common.{◌<◌, ℕ, List, length, take, refl, ap, ◌∙◌}
use Rattle.std.proofs.lemmas.List.Elements.{All-from_recursion}
use Rattle.std.proofs.lemmas.Option.{slice_get_read}
use Rattle.office_types.specs.SystemNames.{holder_of}
use Rattle.actor_tree.proofs.RestoreLemmas.{earlier, keys_rise, name_new}
use Rattle.actor_tree.proofs.restore.restore_names.Goals as goal

pub hold_name-requires-clause-free : goal.hold_name-requires-clause-free
hold_name-requires-clause-free c =
    let names = c.args.names.now in
    let i = c.loop-name.name-index in
    let here = slice_get_read names (length names) i _ refl c.loop-name-test.true c.loop-name-item.is in
    rw (c.reserve.ensures.names, c.loop-name.invariant) (ap (λ (name : List ℕ). holder_of name (take i names)) c.in_ok-name.ensures ∙ name_new names i _ c.requires.once here)

pub hold_name-requires-clause-newer : goal.hold_name-requires-clause-newer
hold_name-requires-clause-newer c =
    let names = c.args.names.now in
    let i = c.loop-name.name-index in
    let here = slice_get_read names (length names) i _ refl c.loop-name-test.true c.loop-name-item.is in
    rw (c.reserve.ensures.names, c.loop-name.invariant)
    (All-from_recursion _ (take i names) (earlier (λ (a b : List ℕ × ℕ). a.1 < b.1) names i _ (keys_rise (λ (a : List ℕ × ℕ). a.1) names c.requires.rise) here))
