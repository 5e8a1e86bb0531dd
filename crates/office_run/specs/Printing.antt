-- What a call that prints did.
use Rattle.std.specs.Prelude.{◌≡◌, ◌⊎◌, ℕ, List, take, Option}
use Rattle.std.specs.Io.KnownBytes.{append_known}
use Rattle.xs_outside.specs.Counts.{Rose}
use Rattle.office_run.specs.declared.status.Status.{Status}
use Rattle.office_run.specs.declared.status.Status.TheVariants.{WriteFault, Memory}

-- a front part of the bytes, or all
abbrev pub IsPart : List ℕ → List ℕ → Type 0
IsPart whole part = (count : ℕ) × (part ≡ take count whole)

-- a front part of the bytes, or all, was written
abbrev pub WritesPart : Option (List ℕ) → Option (List ℕ) → List ℕ → Type 0
WritesPart old new whole = (count : ℕ) × (new ≡ append_known old (take count whole))

-- what passes between a call that prints and its sink: what was written before and after, and the counts of faults
pub record Printing : Type 0 where
  pub before : Option (List ℕ)
  pub after : Option (List ℕ)
  pub faults_before : ℕ
  pub faults_after : ℕ

-- a text is out, and the end is the one that was to come; or a front part of it is, and the sink failed
abbrev pub PrintsText : Status → List ℕ → Status → Printing → Type 0
PrintsText status text result p =
    ((result ≡ status) × (p.after ≡ append_known p.before text) × (p.faults_after ≡ p.faults_before))
    ⊎ ((result ≡ WriteFault) × WritesPart p.before p.after text × Rose p.faults_before p.faults_after)

-- nothing is printed, for want of memory
pub record PrintsNothing (result : Status) (p : Printing) : Type 0 where
  pub memory : result ≡ Memory
  pub written : p.after ≡ p.before
  pub faults : p.faults_after ≡ p.faults_before
