-- How a run of reads goes on.
use Rattle.std.proofs.Common.{◌≡◌, refl, ◌∙◌, arith}
use Rattle.xs_outside.specs.Disk.{DiskState, SameImages, Passes, MayLeaveNow}
use Rattle.xs_outside.proofs.ImageLemmas.{since_now, since_more, since_joined, later_still}
use Rattle.gate_journal.specs.Reads.{OnlyReads}

-- one call
pub one_read : (old new : DiskState) → new.content ≡ old.content → new.honest ≡ old.honest → new.beside ≡ old.beside → SameImages old new → Passes old new → OnlyReads old new
one_read old new content honest beside images time = record {
  content = content;
  honest = honest;
  beside = beside;
  images = images;
  since = since_more old.clock (MayLeaveNow old) old new (since_now (MayLeaveNow old) old (λ image left. left)) (omega arith) time (λ image left. (images image).0 left);
  time = time.time;
}

-- no call
pub no_read : (disk : DiskState) → OnlyReads disk disk
no_read disk = record {
  content = refl;
  honest = refl;
  beside = refl;
  images = λ image. (λ left. left, λ left. left);
  since = since_now (MayLeaveNow disk) disk (λ image left. left);
  time = record { clock = omega arith; past = λ moment image le. (λ left. left, λ left. left) };
}

-- one run and another
pub reads_joined : (old middle new : DiskState) → OnlyReads old middle → OnlyReads middle new → OnlyReads old new
reads_joined old middle new one two = record {
  content = two.content ∙ one.content;
  honest = two.honest ∙ one.honest;
  beside = two.beside ∙ one.beside;
  images = λ image. (λ left. (one.images image).0 ((two.images image).0 left), λ left. (two.images image).1 ((one.images image).1 left));
  since = since_joined old.clock (MayLeaveNow old) middle new one.since two.time (λ moment image from to left. (one.images image).0 (two.since moment image from to left));
  time = later_still old middle new one.time two.time;
}
