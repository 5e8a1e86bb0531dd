use Rattle.std.proofs.Common.{◌∙◌, ◌<◌, ◌≤◌, [], ◌∷◌, ◌++◌, ap, arith, length}
use Rattle.std.proofs.lemmas.List.{get_or_default}
use Rattle.office_types.proofs.StateValueLemmas.{added_at, added_behind, added_nowhere, sought_at, sought_nowhere}
use Rattle.office_types.proofs.state_values.wait_for_parent.Goals as goal

pub returns-in_default-binary_search-clause-added :
    goal.returns-in_default-binary_search-clause-added
returns-in_default-binary_search-clause-added c =
    rw c.in-Some.is (added_nowhere c.args.active.now c.args.waiting.now.items c.in-Some.parent c.args.child c.requires.within
    (sought_nowhere c.args.active.now c.in-Some.parent c.in_default-binary_search.field-0 c.binary_search.result c.requires.in_order c.in_default-binary_search.is c.binary_search.ensures.position))

pub returns-in-Ok-push-clause-added : goal.returns-in-Ok-push-clause-added
returns-in-Ok-push-clause-added c =
    let active = c.args.active.now in
    let waiting = c.args.waiting.now.items in
    let place = c.in-Ok.place in
    let at = sought_at active c.in-Some.parent place c.binary_search.result c.requires.in_order c.in-Ok.is c.binary_search.ensures.position in
    let before = c.if-place-len.true in
    let len = c.len.ensures in
    let held = c.args.waiting.now.ok.0 in
    let inside : place < length waiting = omega (arith, before, len, held) in
    let read = c.index_mut.ensures.value ∙ get_or_default waiting place c.index_mut.result.now [] inside in
    rw c.in-Some.is (added_at active waiting place c.in-Some.parent c.args.child c.push.new.self c.requires.in_order c.requires.within inside at.1
    (c.in-Ok-push.ensures.ok ∙ ap (λ l. l ++ c.args.child ∷ []) read))

pub returns-else-place-len-clause-added : goal.returns-else-place-len-clause-added
returns-else-place-len-clause-added c =
    let active = c.args.active.now in
    let waiting = c.args.waiting.now.items in
    let place = c.in-Ok.place in
    let at = sought_at active c.in-Some.parent place c.binary_search.result c.requires.in_order c.in-Ok.is c.binary_search.ensures.position in
    let past = c.if-place-len.false in
    let len = c.len.ensures in
    let held = c.args.waiting.now.ok.0 in
    let behind : length waiting ≤ place = omega (arith, past, len, held) in
    rw c.in-Some.is (added_behind active waiting place c.in-Some.parent c.args.child c.requires.in_order c.requires.within behind at.0 at.1)
