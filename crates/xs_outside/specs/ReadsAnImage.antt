-- What a side in memory reads is one of the images that a crash may leave of it.
use Rattle.std.proofs.Common.{◌≡◌, ℕ, ◌+◌, ◌-◌, ◌≤◌, List, [], ◌∷◌, ◌++◌, length, take, drop, reverse, refl, sym, ◌∙◌, ap, subst, arith, append_assoc, length-append, length-take, length-drop}
use Rattle.std.specs.Prelude.{IsTrue, leb}
use Rattle.std.proofs.lemmas.Bool.Decides.{nat_tests}
use Rattle.std.proofs.lemmas.Bool.{leb-true, and_parts}
use Rattle.std.proofs.lemmas.List.{take_at, drop_at}
use Rattle.xs_outside.specs.declared.memory.history.SideChange.{SideChange}
use Rattle.xs_outside.specs.declared.memory.history.SideChange.TheVariants.{Write, Sync}
use Rattle.xs_outside.specs.declared.memory.history.SideHistory.{SideHistory}
use Rattle.xs_outside.specs.declared.memory.disk_history.DiskHistory.{DiskHistory}
use Rattle.xs_outside.specs.Disk.{Torn}
use Rattle.xs_outside.specs.History.{CrashLeaves, made_by, latest, side_after_write, content_of, in_place}
use Rattle.xs_outside.specs.DiskHistory.{SideMayLeave, MayLeave, sides_of_history}

-- a history whose last change isn't later is whole
pub made_all : (moment : ℕ) (history : List SideChange) → latest history ≤ moment → made_by moment history ≡ history
made_all moment [] le = refl
made_all moment (change ∷ earlier) le = grind (arith, nat_tests, le)

-- a write that is done is one that a crash may leave
pub done_torn : (at : ℕ) (bytes old : List ℕ) → at ≤ length old → Torn at (length bytes) old (side_after_write at bytes old)
done_torn at bytes old le =
    let front : length (take at old) ≡ at = grind (arith, length-take at old) in
    let behind : length (drop (at + length bytes) old) ≡ length old - (at + length bytes) = grind (arith, length-drop (at + length bytes) old) in
    let split : side_after_write at bytes old ≡ take at old ++ (bytes ++ drop (at + length bytes) old) = append_assoc (take at old) bytes (drop (at + length bytes) old) in
    let joined : length (take at old ++ bytes) ≡ at + length bytes = omega (arith, front, length-append (take at old) bytes) in
    let size : length (side_after_write at bytes old) ≡ at + length bytes + length (drop (at + length bytes) old) = omega (arith, joined, length-append (take at old ++ bytes) (drop (at + length bytes) old)) in
    record {
      before = ap (λ (l : List ℕ). take at l) split ∙ take_at (take at old) (bytes ++ drop (at + length bytes) old) at front;
      after = drop_at (take at old ++ bytes) (drop (at + length bytes) old) (at + length bytes) joined;
      no_shorter = omega (arith, size, behind, le);
      no_longer = omega (arith, size, behind, le);
    }

-- what is read is left
pub left_content : (start : List ℕ) (history : List SideChange) → IsTrue (in_place start history) → CrashLeaves start history (content_of start history)
left_content start [] fits = refl
left_content start (Write moment at bytes ∷ earlier) fits =
    let parts = and_parts (leb at (length (content_of start earlier))) (in_place start earlier) fits in
    (content_of start earlier, left_content start earlier parts.1, done_torn at bytes (content_of start earlier) (leb-true at (length (content_of start earlier)) parts.0))
left_content start (Sync moment ∷ earlier) fits = (left_content start earlier fits, refl)

side_reads : (side : SideHistory) (clock : ℕ) → latest (reverse side.changes.items) ≤ clock → SideMayLeave side clock side.content.items
side_reads side clock le =
    let history = reverse side.changes.items in
    subst (λ l. CrashLeaves side.start.items (made_by clock history) l) (sym side.reads)
    (subst (λ h. CrashLeaves side.start.items h (content_of side.start.items history)) (sym (made_all clock history le)) (left_content side.start.items history side.fits))

pub reads_an_image : (disk : DiskHistory) → MayLeave disk disk.clock (sides_of_history disk)
reads_an_image disk = (side_reads disk.a disk.clock disk.a_in_the_past, side_reads disk.b disk.clock disk.b_in_the_past)
