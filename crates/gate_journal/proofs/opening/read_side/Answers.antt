use Rattle.std.proofs.Common.{◌≡◌, IsTrue, ◌≤◌, length, drop, subst, sym, ℕ, List}
use Rattle.xs_outside.specs.Disk.{on}
use Rattle.gate_journal.specs.declared.parts.TheConstants.{HEAD}
use Rattle.gate_journal.specs.Layout.{HasHead}
use Rattle.gate_journal.specs.Reading.{Shows}
use Rattle.gate_journal.proofs.FrontLemmas.{front_head, head_length}
use Rattle.gate_journal.proofs.OpeningLemmas.{front_of_window}
use Rattle.gate_journal.proofs.WindowLemmas.{same_text}
use Rattle.gate_journal.proofs.opening.read_side.Goals as goal

pub read_held-requires-clause-front : goal.read_held-requires-clause-front
read_held-requires-clause-front g c =
    let front = c.deref.result.now in
    let long = head_length c.in-Open.generation c.in-Open.size (drop HEAD front) front c.in-Open.ensures in
    (c.in_ok-window.ensures.front.1, subst (λ (l : List ℕ). HEAD ≤ length l) c.deref.ensures.value long)

pub read_held-requires-clause-shows : goal.read_held-requires-clause-shows
read_held-requires-clause-shows g c still =
    let old = g.D.Disk.state c.args.disk.now in
    let new = g.D.Disk.state c.open.new.disk in
    let window = c.in_ok-window.window in
    let front = c.in_ok-window.ensures.front in
    let generation = c.in-Open.generation in
    let size = c.in-Open.size in
    let text = on c.args.side old.content in
    let shows = c.in_ok-window.ensures.shows (subst IsTrue c.open.ensures.reads.honest still) in
    let is : on window.side new.content ≡ text = same_text window.side c.args.side new.content old.content front.0 c.open.ensures.reads.content in
    let is_front = front_of_window text window front.1 front.2 shows in
    let there = subst (λ (l : List ℕ). HasHead generation size (drop HEAD l) l) c.deref.ensures.value c.in-Open.ensures in
    let head = front_head window.bytes.items text is_front generation size (drop HEAD window.bytes.items) there in
    (subst (λ t. Shows t window) (sym is) shows, subst (λ (t : List ℕ). HasHead generation size (drop HEAD t) t) (sym is) head)
