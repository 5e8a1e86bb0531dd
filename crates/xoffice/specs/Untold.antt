-- A disk over files tells counts alone: not what the files hold, nor what a crash leaves of them, nor that nobody else
-- writes them.
use Rattle.std.proofs.Common.{ℕ, ◌≡◌, ◌≤◌, [], false, refl, inl}
use Rattle.std.proofs.lemmas.List.Elements.{All-nil}
use Rattle.std.specs.Prelude.{None}
use Rattle.xs_outside.specs.Beside.{Beside, Stamped}
use Rattle.xs_outside.specs.Counts.{Rose}
use Rattle.xs_outside.specs.Disk.{DiskState, Passes}
use Rattle.xs_outside.specs.Station.{KeepsDisk, TellsOutput}

-- what stands beside such a disk: how much was taken of the input, and the counts of faults of input and output
abbrev pub counts : ℕ → ℕ → ℕ → Beside
counts taken read_faults write_faults = record {
  left = None;
  taken = taken;
  read_faults = read_faults;
  write_faults = write_faults;
  output = None;
  moments = [];
}

-- such a disk with its clock, its count of faults and the number of bytes read: any image may be left
abbrev pub untold : ℕ → ℕ → ℕ → Beside → DiskState
untold clock faults fetched beside = record {
  content = record { a = []; b = [] };
  clock = clock;
  may_leave = λ _ _. Unit {0};
  faults = faults;
  fetched = fetched;
  honest = false;
  beside = beside;
}

-- a call takes time
pub record TakesTime (before now : ℕ) : Type 0 where
  pub later : before ≤ now
  pub rose : Rose before now

-- ---- what the laws of a station ask

pub passes : (before now : ℕ) (faults faults' fetched fetched' : ℕ) (beside beside' : Beside) → TakesTime before now
    → Passes (untold before faults fetched beside) (untold now faults' fetched' beside')
passes before now faults faults' fetched fetched' beside beside' time = record {
  time = record { clock = time.later; past = λ moment image _. (λ h. h, λ h. h) };
  rose = time.rose;
  within = λ moment image _ _ h. inl h;
}

pub keeps_disk : (before now faults faults' fetched fetched' : ℕ) (beside beside' : Beside) → TakesTime before now
    → faults' ≡ faults → fetched' ≡ fetched → KeepsDisk (untold before faults fetched beside) (untold now faults' fetched' beside')
keeps_disk before now faults faults' fetched fetched' beside beside' time same_faults same_fetched = record {
  content = refl;
  images = λ image. (λ h. h, λ h. h);
  honest = refl;
  faults = same_faults;
  fetched = same_fetched;
  time = passes before now faults faults' fetched fetched' beside beside' time;
}

pub none_stamped : (before now : ℕ) → Stamped before now [] []
none_stamped before now = ([], refl, All-nil _)

pub tells_output : (clock faults fetched taken read_faults write_faults : ℕ)
    → TellsOutput None write_faults (untold clock faults fetched (counts taken read_faults write_faults))
tells_output clock faults fetched taken read_faults write_faults = record {
  output = refl;
  write_faults = refl;
  moments = record { each = tt; past = All-nil _ };
}
