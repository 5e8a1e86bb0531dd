use Rattle.std.proofs.Common.{◌≡◌, ℕ, Option, List, sym, ap, ◌∙◌, subst}
use Rattle.std.specs.List.{All}
use Rattle.office_books.specs.NumberedItems.{NumbersRise, with_numbered_item}
use Rattle.actor_tree.specs.Following.{head_numbers, heads_left}
use Rattle.actor_tree.specs.Parts.{put_part}
use Rattle.actor_tree.proofs.FollowingLemmas.{newcomer_followed, newcomer_newer, one_touched, untouched}
use Rattle.actor_tree.proofs.NumberedLemmas.{Lower, rises_before}
use Rattle.actor_tree.proofs.following.put_followed.Goals as goal

pub add-requires-clause-newer : goal.add-requires-clause-newer
add-requires-clause-newer c =
    let state = c.args.held.now.office in
    rw (c.leave.ensures.items, c.requires.heads) (newcomer_newer state c.args.part c.new_number-number.result (sym c.touch_of.ensures ∙ c.in-Made.is) c.new_number-number.ensures.newer)

pub returns-in-Nobody-clause-heads : goal.returns-in-Nobody-clause-heads
returns-in-Nobody-clause-heads c =
    let state = c.args.held.now.office in
    rw (c.leave.ensures.items, c.requires.heads, c.put.ensures.office) (untouched state c.args.part c.requires.fits (sym c.touch_of.ensures ∙ c.in-Nobody.is))

pub returns-in-One-clause-heads : goal.returns-in-One-clause-heads
returns-in-One-clause-heads c =
    let state = c.args.held.now.office in
    let part = c.args.part in
    let rise : NumbersRise (heads_left part (head_numbers state.actors)) =
    subst NumbersRise (c.leave.ensures.items ∙ ap (heads_left part) c.requires.heads)
    (rises_before c.in-One.number c.head_number.result c.leave.new.heads.items (subst NumbersRise c.set.ensures.items c.set.ensures.by_number)) in
    rw (c.set.ensures.items, c.head_number.ensures, c.leave.ensures.items, c.requires.heads, c.put-in-One.ensures.office)
    (one_touched state part c.in-One.number (sym c.touch_of.ensures ∙ c.in-One.is) rise)

pub returns-in-Made-clause-heads : goal.returns-in-Made-clause-heads
returns-in-Made-clause-heads c =
    let state = c.args.held.now.office in
    rw (c.add.ensures.items, c.head_number-in-Made.ensures, c.leave.ensures.items, c.requires.heads, c.put-in-Made.ensures.office)
    (newcomer_followed state c.args.part c.new_number-number.result (sym c.touch_of.ensures ∙ c.in-Made.is) c.new_number-number.ensures.next c.new_number-number.ensures.newer)
