-- What a disk of two sides tells of itself, and what its calls do to that.
use Rattle.std.specs.Prelude.{◌≡◌, ◌↔◌, ◌⊎◌, ℕ, ◌+◌, ◌-◌, ◌^◌, ◌<◌, ◌≤◌, max, min, Bool, List, ◌++◌, length, take, drop, Result, MatchResult}
use Rattle.xs_outside.specs.declared.Side.{Side}
use Rattle.xs_outside.specs.declared.Side.TheVariants.{A, B}
use Rattle.xs_outside.specs.Beside.{Beside}
use Rattle.xs_outside.specs.Counts.{Rose, CountsFailure}

-- an image: the bytes of both sides
pub record Sides : Type 0 where
  pub a : List ℕ
  pub b : List ℕ

-- all that a disk tells: what it reads; the moment, a number that doesn't fall; which images a crash at a moment up to now
-- may have left; how often it has failed; how many bytes it has read, as far as 64 bits count; whether it is honest; and
-- what is kept beside its sides
pub record DiskState : Type 1 where
  pub content : Sides
  pub clock : ℕ
  pub may_leave : ℕ → Sides → Type 0
  pub faults : ℕ
  pub fetched : ℕ
  pub honest : Bool
  pub beside : Beside

-- ---- sides

-- the bytes of one side
abbrev pub on : Side → Sides → List ℕ
on A sides = sides.a
on B sides = sides.b

-- the other side
abbrev pub other : Side → Side
other A = B
other B = A

-- one side is changed so, and the other stays as it was
abbrev pub Changes : Side → (List ℕ → List ℕ → Type 0) → Sides → Sides → Type 0
Changes side change old new = change (on side old) (on side new) × (on (other side) new ≡ on (other side) old)

-- new is old with these bytes in the place of those that stood there, and past its end
abbrev pub Written : ℕ → List ℕ → List ℕ → List ℕ → Type 0
Written at bytes old new = new ≡ take at old ++ bytes ++ drop (at + length bytes) old

-- a write of n bytes that isn't synced: any bytes in its range and past the old end, the same elsewhere
pub record Torn (at n : ℕ) (old new : List ℕ) : Type 0 where
  pub before : take at new ≡ take at old
  pub after : drop (at + n) new ≡ drop (at + n) old
  pub no_shorter : length old ≤ length new
  pub no_longer : length new ≤ max (length old) (at + n)

-- ---- images

-- a crash now may leave this image
abbrev pub MayLeaveNow : DiskState → Sides → Type 0
MayLeaveNow disk = disk.may_leave disk.clock

-- each image of now is one from before after a step
abbrev pub NoMoreImages : (Sides → Sides → Type 0) → DiskState → DiskState → Type 0
NoMoreImages step old new = (image : Sides) → MayLeaveNow new image → (from : Sides) × MayLeaveNow old from × step from image

-- each step from an image of before gives one of now
abbrev pub NoFewerImages : (Sides → Sides → Type 0) → DiskState → DiskState → Type 0
NoFewerImages step old new = (from image : Sides) → MayLeaveNow old from → step from image → MayLeaveNow new image

-- the images of now are those of before
abbrev pub SameImages : DiskState → DiskState → Type 0
SameImages old new = (image : Sides) → MayLeaveNow new image ↔ MayLeaveNow old image

-- the images of now are those of before whose one side is what the disk reads
pub record SyncedImages (side : Side) (old new : DiskState) : Type 0 where
  pub durable : (image : Sides) → MayLeaveNow new image → on side image ≡ on side old.content
  pub kept : (image : Sides) → MayLeaveNow new image → MayLeaveNow old image
  pub left : (image : Sides) → MayLeaveNow old image → on side image ≡ on side old.content → MayLeaveNow new image

-- nothing is pending: a crash now leaves what the disk reads
abbrev pub IsSettled : DiskState → Type 0
IsSettled disk = (image : Sides) → MayLeaveNow disk image → image ≡ disk.content

-- ---- calls

-- Time goes on: nothing that was told of a moment up to then changes.
pub record Later (old new : DiskState) : Type 0 where
  pub clock : old.clock ≤ new.clock
  pub past : (moment : ℕ) (image : Sides) → moment ≤ old.clock → new.may_leave moment image ↔ old.may_leave moment image

-- One call: time goes on, and at each moment of the call a crash leaves an image from before it or from after it.
pub record Passes (old new : DiskState) : Type 0 where
  pub time : Later old new
  pub rose : Rose old.clock new.clock
  pub within : (moment : ℕ) (image : Sides) → old.clock < moment → moment ≤ new.clock → new.may_leave moment image → MayLeaveNow old image ⊎ MayLeaveNow new image

-- What every call of a disk keeps to, whatever it answers: honesty and what is beside the sides stay, the count of faults
-- rises where the call failed and only there, and time goes on.
pub record IsDiskCall {T E : Type 0} (result : Result T E) (old new : DiskState) : Type 0 where
  pub honest : new.honest ≡ old.honest
  pub beside : new.beside ≡ old.beside
  pub faults : CountsFailure result old.faults new.faults
  pub later : old.faults ≤ new.faults
  pub time : Passes old new

-- a read raises the number of bytes read by those that it gave, and one that failed leaves it
abbrev pub Fetches : {T E : Type 0} → Result T E → ℕ → DiskState → DiskState → Type 0
Fetches result count old new = MatchResult result (λ _. new.fetched ≡ min (old.fetched + count) (2 ^ 64 - 1)) (λ _. new.fetched ≡ old.fetched)

-- ---- runs of calls

-- each image that a crash from a moment on may have left has P
abbrev pub AllSince : ℕ → (Sides → Type 0) → DiskState → Type 0
AllSince start P disk = (moment : ℕ) (image : Sides) → start ≤ moment → moment ≤ disk.clock → disk.may_leave moment image → P image

-- How far a run of calls has come: each image since its start has P, and each image of now has Q.
pub record Standing (start : ℕ) (P Q : Sides → Type 0) (disk : DiskState) : Type 0 where
  pub began : start ≤ disk.clock
  pub since : AllSince start P disk
  pub now : (image : Sides) → MayLeaveNow disk image → Q image
