-- What the calls of a file system may have answered.
use Rattle.std.specs.Prelude.{ℕ, List, Result}
use Rattle.std.specs.declared.io.Error.{Error}
use Rattle.xoffice.specs.declared.file_system.Access.{Access}

-- bytes at a place of a file
pub record Transfer : Type 0 where
  pub at : ℕ
  pub bytes : List ℕ

-- For each call, on what it was made: it may have answered so. And: some call answered an error. Nothing but a call gives
-- one of these.
pub record Calls (F : Type 0) : Type 1 where
  pub opens : Access → List ℕ → Result F Error → Type 0
  pub measures : F → Result ℕ Error → Type 0
  pub reads : Transfer → Result Unit Error → F → F → Type 0
  pub writes : Transfer → Result Unit Error → F → F → Type 0
  pub syncs : F → Result Unit Error → Type 0
  pub syncs_entry : List ℕ → Result Unit Error → Type 0
  pub failed : Type 0

-- nothing is told
abbrev pub untold_calls : {F : Type 0} → Calls F
untold_calls = record {
  opens = λ _ _ _. Unit {0};
  measures = λ _ _. Unit {0};
  reads = λ _ _ _ _. Unit {0};
  writes = λ _ _ _ _. Unit {0};
  syncs = λ _ _. Unit {0};
  syncs_entry = λ _ _. Unit {0};
  failed = Unit {0};
}
