-- What a crash leaves of a side in memory, before and after a change.
use Rattle.std.proofs.Common.{◌≡◌, ℕ, ◌≤◌, List, ◌∷◌, length, reverse, refl, sym, ◌∙◌, ap, subst, arith}
use Rattle.std.specs.Prelude.{Result, Ok, Err, OnOk}
use Rattle.xs_outside.specs.declared.Side.TheVariants.{A, B}
use Rattle.xs_outside.specs.declared.memory.disk_history.DiskHistory.{DiskHistory}
use Rattle.xs_outside.specs.declared.memory.history.SideChange.{SideChange}
use Rattle.xs_outside.specs.declared.memory.history.SideChange.TheVariants.{Write}
use Rattle.xs_outside.specs.declared.memory.history.SideHistory.{SideHistory}
use Rattle.xs_outside.specs.Disk.{Sides, Changes, Torn}
use Rattle.xs_outside.specs.History.{CrashLeaves, made_by, latest}
use Rattle.xs_outside.specs.ReadsAnImage.{made_all}
use Rattle.xs_outside.specs.DiskHistory.{SideMayLeave, MayLeave}

-- after a write each image is a torn one of before
pub torn_from : (old new : SideHistory) (clock moment at : ℕ) (bytes image : List ℕ) → latest (reverse old.changes.items) ≤ clock → clock ≤ moment → new.start ≡ old.start
    → reverse new.changes.items ≡ Write moment at bytes ∷ reverse old.changes.items → SideMayLeave new moment image
    → (from : List ℕ) × SideMayLeave old clock from × Torn at (length bytes) from image
torn_from old new clock moment at bytes image le later start written left =
    let after : List SideChange = Write moment at bytes ∷ reverse old.changes.items in
    let whole : made_by moment (reverse new.changes.items) ≡ after = ap (λ h. made_by moment h) written ∙ made_all moment after (omega arith) in
    let torn : CrashLeaves old.start.items after image = subst (λ h. CrashLeaves old.start.items h image) whole (subst (λ s. CrashLeaves s.items (made_by moment (reverse new.changes.items)) image) start left) in
    (torn.0, subst (λ h. CrashLeaves old.start.items h torn.0) (sym (made_all clock (reverse old.changes.items) le)) torn.1, torn.2)

-- a side that isn't changed has the images that it had
pub kept_from : (side : SideHistory) (clock moment : ℕ) (image : List ℕ) → latest (reverse side.changes.items) ≤ clock → clock ≤ moment → SideMayLeave side moment image → SideMayLeave side clock image
kept_from side clock moment image le later left =
    let history = reverse side.changes.items in
    subst (λ h. CrashLeaves side.start.items h image) (made_all moment history (omega arith) ∙ sym (made_all clock history le)) left

-- after a write on one side each image of both is a torn one of before
pub torn_on_a : {E : Type 0} (result : Result Unit E) (old : DiskHistory) (new : SideHistory) (moment at : ℕ) (bytes : List ℕ) → old.clock ≤ moment → new.start ≡ old.a.start
    → OnOk result (reverse new.changes.items ≡ Write moment at bytes ∷ reverse old.a.changes.items)
    → OnOk result ((image : Sides) → SideMayLeave new moment image.a × SideMayLeave old.b moment image.b → (from : Sides) × MayLeave old old.clock from × Changes A (Torn at (length bytes)) from image)
torn_on_a (Ok done) old new moment at bytes later start written = λ image left.
    let torn = torn_from old.a new old.clock moment at bytes image.a old.a_in_the_past later start written left.0 in
    let kept = kept_from old.b old.clock moment image.b old.b_in_the_past later left.1 in
    (record { a = torn.0; b = image.b }, (torn.1, kept), (torn.2, refl))
torn_on_a (Err error) old new moment at bytes later start written = tt

pub torn_on_b : {E : Type 0} (result : Result Unit E) (old : DiskHistory) (new : SideHistory) (moment at : ℕ) (bytes : List ℕ) → old.clock ≤ moment → new.start ≡ old.b.start
    → OnOk result (reverse new.changes.items ≡ Write moment at bytes ∷ reverse old.b.changes.items)
    → OnOk result ((image : Sides) → SideMayLeave old.a moment image.a × SideMayLeave new moment image.b → (from : Sides) × MayLeave old old.clock from × Changes B (Torn at (length bytes)) from image)
torn_on_b (Ok done) old new moment at bytes later start written = λ image left.
    let torn = torn_from old.b new old.clock moment at bytes image.b old.b_in_the_past later start written left.1 in
    let kept = kept_from old.a old.clock moment image.a old.a_in_the_past later left.0 in
    (record { a = image.a; b = torn.0 }, (kept, torn.1), (torn.2, refl))
torn_on_b (Err error) old new moment at bytes later start written = tt
