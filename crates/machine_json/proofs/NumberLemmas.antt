-- The first of the faults that there are at numbers.
use Rattle.std.proofs.Common.{◌≡◌, ◌⊎◌, ℕ, ◌<◌, ◌+◌, None, Option, arith, inl, inr, subst}
use Rattle.std.proofs.lemmas.Bool.{cases_lt}
use Rattle.machine_json.specs.declared.fault.MachineFault.{MachineFault}
use Rattle.machine_json.specs.FirstPass.{TellsFirst, earlier}
use Rattle.machine_json.proofs.FirstLemmas.{as_set, both}

-- a fault at one of the first so many numbers
abbrev pub IsBelowNumber : (ℕ → MachineFault → Type 0) → ℕ → MachineFault → Type 0
IsBelowNumber Has n fault = (k : ℕ) × (k < n) × Has k fault

pub below_no_number : (Has : ℕ → MachineFault → Type 0) → TellsFirst None (IsBelowNumber Has 0)
below_no_number Has = λ fault is. absurd (omega (arith, is.1))

pub below_next_number : (Has : ℕ → MachineFault → Type 0) (i : ℕ) (a b : Option MachineFault)
    → TellsFirst a (IsBelowNumber Has i) → TellsFirst b (Has i) → TellsFirst (earlier a b) (IsBelowNumber Has (i + 1))
below_next_number Has i a b first next =
    as_set (earlier a b) (λ f. IsBelowNumber Has i f ⊎ Has i f) (IsBelowNumber Has (i + 1))
    (λ f is. elim is [
      | inl before ↦ (before.0, omega (arith, before.1), before.2)
      | inr here ↦ (i, omega arith, here)
    ])
    (λ f is. elim (cases_lt is.0 i) [
      | inl before ↦ inl (is.0, before, is.2)
      | inr from ↦
          let upto : is.0 < i + 1 = is.1 in
          let same : is.0 ≡ i = omega arith in
          let P : ℕ → Type 0 = λ k. Has k f in inr (subst P same is.2)
    ])
    (both a b (IsBelowNumber Has i) (Has i) first next)
