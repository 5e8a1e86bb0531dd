-- How "every image since a moment has P" goes on over the calls of a disk.
use Rattle.std.proofs.Common.{◌≡◌, inl, inr, ⊎_elim, ℕ, ◌≤◌, subst, arith}
use Rattle.std.proofs.lemmas.Bool.{cases_lt}
use Rattle.xs_outside.specs.declared.Side.{Side}
use Rattle.xs_outside.specs.declared.Side.TheVariants.{A, B}
use Rattle.xs_outside.specs.Disk.{Sides, DiskState, on, other, MayLeaveNow, NoMoreImages, SameImages, SyncedImages, Later, Passes, AllSince, Standing}

-- images that agree on a side and on the other are one
pub both_sides : (side : Side) (left right : Sides) → on side left ≡ on side right → on (other side) left ≡ on (other side) right → left ≡ right
both_sides A left right one two = λ i. record { a = one i; b = two i }
both_sides B left right one two = λ i. record { a = two i; b = one i }

-- the images of now are those since now
pub since_now : (P : Sides → Type 0) (disk : DiskState) → ((image : Sides) → MayLeaveNow disk image → P image) → AllSince disk.clock P disk
since_now P disk here moment image from to left =
    let same : moment ≡ disk.clock = omega arith in
    here image (subst (λ m. disk.may_leave m image) same left)

-- an image of now is one since any earlier moment
pub now_of_since : (start : ℕ) (P : Sides → Type 0) (disk : DiskState) → start ≤ disk.clock → AllSince start P disk → (image : Sides) → MayLeaveNow disk image → P image
now_of_since start P disk le all image left = all disk.clock image le (omega arith) left

-- one call more, after which each image of now has P
pub since_more : (start : ℕ) (P : Sides → Type 0) (old new : DiskState) → AllSince start P old → start ≤ old.clock → Passes old new → ((image : Sides) → MayLeaveNow new image → P image) → AllSince start P new
since_more start P old new all le passes here moment image from to left = elim (cases_lt old.clock moment) [
  | inr early ↦ all moment image from early ((passes.time.past moment image early).0 left)
  | inl late ↦ ⊎_elim (λ before. all old.clock image le (omega arith) before) (λ now. here image now) (passes.within moment image late to left)
]

-- a run of calls, and then another
pub since_joined : (start : ℕ) (P : Sides → Type 0) (middle new : DiskState) → AllSince start P middle → Later middle new → AllSince middle.clock P new → AllSince start P new
since_joined start P middle new all time further moment image from to left = elim (cases_lt middle.clock moment) [
  | inr early ↦ all moment image from early ((time.past moment image early).0 left)
  | inl late ↦ further moment image (omega arith) to left
]

-- time goes on over two runs of calls
pub later_still : (old middle new : DiskState) → Later old middle → Later middle new → Later old new
later_still old middle new one two = record {
  clock = omega (arith, one.clock, two.clock);
  past = λ moment image le.
      let le_two : moment ≤ middle.clock = omega (arith, le, one.clock) in (
        λ left. (one.past moment image le).0 ((two.past moment image le_two).0 left),
        λ left. (two.past moment image le_two).1 ((one.past moment image le).1 left),
      );
}

-- before the first call of a run
pub standing : (P Q : Sides → Type 0) (disk : DiskState) → ((image : Sides) → MayLeaveNow disk image → Q image) → ((image : Sides) → Q image → P image) → Standing disk.clock P Q disk
standing P Q disk here enough = record { began = omega arith; since = since_now P disk (λ image left. enough image (here image left)); now = here }

-- what holds of each image of now, in other words
pub standing_so : (start : ℕ) (P Q R : Sides → Type 0) (disk : DiskState) → Standing start P Q disk → ((image : Sides) → Q image → R image) → Standing start P R disk
standing_so start P Q R disk so_far more = record { began = so_far.began; since = so_far.since; now = λ image left. more image (so_far.now image left) }

module _ (start : ℕ) (P Q : Sides → Type 0) (old new : DiskState) (so_far : Standing start P Q old) (passes : Passes old new) where
  -- after a write, whatever it answers
  pub standing_written : (step : Sides → Sides → Type 0) (R : Sides → Type 0) → NoMoreImages step old new
      → ((from image : Sides) → Q from → step from image → R image) → ((image : Sides) → R image → P image) → Standing start P R new
  standing_written step R no_more stepped enough =
      let here : (image : Sides) → MayLeaveNow new image → R image = λ image left. let from = no_more image left in stepped from.0 image (so_far.now from.0 from.1) from.2 in
      record {
        began = omega (arith, so_far.began, passes.time.clock);
        since = since_more start P old new so_far.since so_far.began passes (λ image left. enough image (here image left));
        now = here;
      }

  -- after a call that adds no image: a sync, whatever it answers, and a length or a read, of which `same_kept` says so
  pub standing_kept : ((image : Sides) → MayLeaveNow new image → MayLeaveNow old image) → Standing start P Q new
  standing_kept kept = record {
    began = omega (arith, so_far.began, passes.time.clock);
    since = since_more start P old new so_far.since so_far.began passes (λ image left. now_of_since start P old so_far.began so_far.since image (kept image left));
    now = λ image left. so_far.now image (kept image left);
  }

  -- after a sync that answers Ok: where the other side was settled, nothing is pending
  pub standing_synced : (side : Side) → ((image : Sides) → Q image → on (other side) image ≡ on (other side) old.content) → SyncedImages side old new → Standing start P (λ image. image ≡ old.content) new
  standing_synced side beside synced =
      let after = standing_kept synced.kept in
      record { began = after.began; since = after.since; now = λ image left. both_sides side image old.content (synced.durable image left) (beside image (after.now image left)) }

-- a call that leaves the images adds none
pub same_kept : (old new : DiskState) → SameImages old new → (image : Sides) → MayLeaveNow new image → MayLeaveNow old image
same_kept old new same image left = (same image).0 left
