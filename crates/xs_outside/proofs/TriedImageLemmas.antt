-- Each image that a disk in memory gives to try may be left by a crash now.
use Rattle.std.proofs.Common.{◌≡◌, ℕ, ◌≤◌, List, [], ◌∷◌, map, get_or, reverse, refl, sym, subst, suc, arith}
use Rattle.std.proofs.lemmas.List.Elements.{All-append, All-map}
use Rattle.std.specs.Prelude.{Result, Ok, Err, IfOk}
use Rattle.std.specs.List.{All}
use Rattle.xs_outside.specs.declared.memory.crash.Image.{Image}
use Rattle.xs_outside.specs.declared.memory.history.SideHistory.{SideHistory}
use Rattle.xs_outside.specs.declared.memory.disk_history.DiskHistory.{DiskHistory}
use Rattle.xs_outside.specs.Crash.{sides_after_crashes, images_of, side_after_crash, fates_of}
use Rattle.xs_outside.specs.History.{CrashLeaves, latest}
use Rattle.xs_outside.specs.ReadsAnImage.{made_all}
use Rattle.xs_outside.specs.DiskHistory.{SideMayLeave, MayLeave}
use Rattle.xs_outside.specs.DiskHistory.{tried_images, sides_of_image}
use Rattle.xs_outside.proofs.CrashLemmas.{treated_left}

pairs_left : (P Q : List ℕ → Type 0) (sides others : List (List ℕ)) (output : List ℕ) → All P sides → All Q others
    → All (λ image. P image.a × Q image.b × (image.output ≡ output)) (images_of sides others output)
pairs_left P Q [] others output left right = λ k d lt. absurd (omega (arith, lt))
pairs_left P Q (side ∷ sides) others output left right =
    All-append (λ image. P image.a × Q image.b × (image.output ≡ output)) (map (λ other. record { a = side; b = other; output = output }) others) (images_of sides others output)
    (All-map (λ (image : Image). P image.a × Q image.b × (image.output ≡ output)) (λ other. record { a = side; b = other; output = output }) others (λ k d lt. (left 0 side (omega arith), right k d lt, refl)))
    (pairs_left P Q sides others output (λ k d lt. left (suc k) d (omega (arith, lt))) right)

sides_left : (side : SideHistory) (clock : ℕ) → latest (reverse side.changes.items) ≤ clock → All (SideMayLeave side clock) (sides_after_crashes side.start.items (reverse side.changes.items))
sides_left side clock le =
    let history = reverse side.changes.items in
    All-map (SideMayLeave side clock) (λ fate. side_after_crash fate side.start.items history) (fates_of history)
    (λ k d lt. let fate = get_or (fates_of history) k d in subst (λ h. CrashLeaves side.start.items h (side_after_crash fate side.start.items history)) (sym (made_all clock history le)) (treated_left fate side.start.items history side.fits))

pub all_possible : (disk : DiskHistory) (output : List ℕ) → All (λ image. MayLeave disk disk.clock (sides_of_image image) × (image.output ≡ output)) (tried_images disk output)
all_possible disk output k d lt =
    let at = pairs_left (SideMayLeave disk.a disk.clock) (SideMayLeave disk.b disk.clock) (sides_after_crashes disk.a.start.items (reverse disk.a.changes.items)) (sides_after_crashes disk.b.start.items (reverse disk.b.changes.items)) output
    (sides_left disk.a disk.clock disk.a_in_the_past) (sides_left disk.b disk.clock disk.b_in_the_past) k d lt in
    ((at.0, at.1), at.2)

pub possible_if_ok : {E : Type 0} (disk : DiskHistory) (output : List ℕ) (result : Result (List Image) E) → IfOk result (λ images. images ≡ tried_images disk output)
    → IfOk result (λ images. All (λ image. MayLeave disk disk.clock (sides_of_image image) × (image.output ≡ output)) images)
possible_if_ok disk output (Ok images) is = subst (All (λ image. MayLeave disk disk.clock (sides_of_image image) × (image.output ≡ output))) (sym is) (all_possible disk output)
possible_if_ok disk output (Err e) is = tt
