-- The least place of a machine whose id an earlier one has.
use Rattle.std.proofs.Common.{◌≡◌, ℕ, zero, suc, ◌<◌, Bool, true, false, cond, ◌⊎◌, inl, inr, List, [], ◌∷◌, ◌++◌, Option, None, Some, refl, sym, ap, ◌∙◌, subst, arith, append_assoc}
use Rattle.std.specs.Prelude.{is_some, slice_get, bytes_eq, if◌then◌else◌}
use Rattle.std.proofs.lemmas.List.{append-nil}
use Rattle.std.proofs.lemmas.Slice.Eq.{bytes_eq-Decides}
use Rattle.xs_model.specs.Rising.{get}
use Rattle.machine_json.specs.declared.machine.Machine.{Machine}
use Rattle.action_table.specs.DefNames.{ids_of_machines}
use Rattle.action_table.specs.TablePlaces.{IsLeastOf, least_of}
use Rattle.action_table.specs.Twice.{ids_after, twice_after, with_id}
use Rattle.action_table.specs.Uses.{IsTwice}
use Rattle.action_table.proofs.FirstLemmas.{least-of, least-same}

-- ---- the ids that are held

-- an id is held
abbrev Holds : List (List ℕ × ℕ) → List ℕ → Type 0
Holds ids id = is_some (get id ids) ≡ true

held-split : (ids : List (List ℕ × ℕ)) (name id : List ℕ) (place : ℕ) → Holds (ids ++ (name, place) ∷ []) id → Holds ids id ⊎ (id ≡ name)
held-split [] name id place = by-test (bytes_eq id name) refl
  where
    by-test : (b : Bool) → bytes_eq id name ≡ b → is_some (cond b (Some place) None) ≡ true → Holds [] id ⊎ (id ≡ name)
    by-test true is holds = inr ((bytes_eq-Decides id name).0 is)
    by-test false is holds = absurd (cc)
held-split (row ∷ ids) name id place =
    elim (bytes_eq id row.0) as (λ b. is_some (cond b (Some row.1) (get id (ids ++ (name, place) ∷ []))) ≡ true → (is_some (cond b (Some row.1) (get id ids)) ≡ true) ⊎ (id ≡ name)) [
      | true ↦ λ holds. inl refl
      | false ↦ λ holds. held-split ids name id place holds
    ]

held-left : (ids : List (List ℕ × ℕ)) (name id : List ℕ) (place : ℕ) → Holds ids id → Holds (ids ++ (name, place) ∷ []) id
held-left [] name id place = λ holds. absurd (cc)
held-left (row ∷ ids) name id place =
    elim (bytes_eq id row.0) as (λ b. is_some (cond b (Some row.1) (get id ids)) ≡ true → is_some (cond b (Some row.1) (get id (ids ++ (name, place) ∷ []))) ≡ true) [
      | true ↦ λ holds. refl
      | false ↦ λ holds. held-left ids name id place holds
    ]

held-last : (ids : List (List ℕ × ℕ)) (name : List ℕ) (place : ℕ) → Holds (ids ++ (name, place) ∷ []) name
held-last [] name place = ap (λ b. is_some (cond b (Some place) None)) ((bytes_eq-Decides name name).1 refl)
held-last (row ∷ ids) name place =
    elim (bytes_eq name row.0) as (λ b. is_some (cond b (Some row.1) (get name (ids ++ (name, place) ∷ []))) ≡ true) [
      | true ↦ refl
      | false ↦ held-last ids name place
    ]

-- the ids with that of a machine: those from before, and its own
with-id-split : (ids : List (List ℕ × ℕ)) (machine : Machine) (id : List ℕ) → Holds (with_id ids machine) id → Holds ids id ⊎ (id ≡ machine.name)
with-id-split ids machine id = by-test (is_some (get machine.name ids))
  where
    by-test : (b : Bool) → Holds (if b then ids else ids ++ (machine.name, machine.place) ∷ []) id → Holds ids id ⊎ (id ≡ machine.name)
    by-test true holds = inl holds
    by-test false holds = held-split ids machine.name id machine.place holds

with-id-left : (ids : List (List ℕ × ℕ)) (machine : Machine) (id : List ℕ) → Holds ids id → Holds (with_id ids machine) id
with-id-left ids machine id holds = by-test (is_some (get machine.name ids))
  where
    by-test : (b : Bool) → Holds (if b then ids else ids ++ (machine.name, machine.place) ∷ []) id
    by-test true = holds
    by-test false = held-left ids machine.name id machine.place holds

with-id-own : (ids : List (List ℕ × ℕ)) (machine : Machine) → Holds (with_id ids machine) machine.name
with-id-own ids machine = by-test (is_some (get machine.name ids)) refl
  where
    by-test : (b : Bool) → is_some (get machine.name ids) ≡ b → Holds (if b then ids else ids ++ (machine.name, machine.place) ∷ []) machine.name
    by-test true is = is
    by-test false is = held-last ids machine.name machine.place

-- ---- the machines whose ids are held, or an earlier machine's

-- the id of machine k is held, or an earlier one's
abbrev IsKnown : List (List ℕ × ℕ) → List Machine → ℕ → Machine → Type 0
IsKnown ids machines k machine =
    Holds ids machine.name ⊎ ((earlier : ℕ) × (other : Machine) × (earlier < k) × (slice_get machines earlier ≡ Some other) × (machine.name ≡ other.name))

abbrev IsTwiceAfter : List (List ℕ × ℕ) → List Machine → ℕ → Type 0
IsTwiceAfter ids machines place =
    (k : ℕ) × (machine : Machine) × (slice_get machines k ≡ Some machine) × IsKnown ids machines k machine × (machine.place ≡ place)

-- the id of the first machine is held
abbrev IsFirstTwice : List (List ℕ × ℕ) → Machine → ℕ → Type 0
IsFirstTwice ids machine place = Holds ids machine.name × (machine.place ≡ place)

first-least : (ids : List (List ℕ × ℕ)) (machine : Machine) → IsLeastOf (IsFirstTwice ids machine) (if is_some (get machine.name ids) then Some machine.place else None)
first-least ids machine = by-test (is_some (get machine.name ids)) refl
  where
    by-test : (b : Bool) → is_some (get machine.name ids) ≡ b → IsLeastOf (IsFirstTwice ids machine) (if b then Some machine.place else None)
    by-test true is = record { there = (is, refl); no_earlier = λ other it. omega (arith, it.1) }
    by-test false is = λ place it. let both : true ≡ false = sym it.0 ∙ is in absurd (cc)

known-later : (ids : List (List ℕ × ℕ)) (first : Machine) (machines : List Machine) (k : ℕ) (machine : Machine) → IsKnown (with_id ids first) machines k machine → IsKnown ids (first ∷ machines) (suc k) machine
known-later ids first machines k machine (inl holds) = elim (with-id-split ids first machine.name holds) [
  | inl before ↦ inl before
  | inr own ↦ inr (0, first, omega arith, refl, own)
]
known-later ids first machines k machine (inr (earlier, other, less, at, same)) = inr (suc earlier, other, omega (arith, less), at, same)

later-known : (ids : List (List ℕ × ℕ)) (first : Machine) (machines : List Machine) (k : ℕ) (machine : Machine) → IsKnown ids (first ∷ machines) (suc k) machine → IsKnown (with_id ids first) machines k machine
later-known ids first machines k machine (inl holds) = inl (with-id-left ids first machine.name holds)
later-known ids first machines k machine (inr (zero, other, less, at, same)) =
    let own : other ≡ first = cc in
    inl (subst (Holds (with_id ids first)) (sym (same ∙ ap (λ (m : Machine). m.name) own)) (with-id-own ids first))
later-known ids first machines k machine (inr (suc earlier, other, less, at, same)) = inr (earlier, other, omega (arith, less), at, same)

twice-split : (ids : List (List ℕ × ℕ)) (first : Machine) (machines : List Machine) (place : ℕ) → IsTwiceAfter ids (first ∷ machines) place → IsFirstTwice ids first place ⊎ IsTwiceAfter (with_id ids first) machines place
twice-split ids first machines place (zero, machine, at, inl holds, is) =
    let own : machine ≡ first = cc in
    inl (subst (λ (m : Machine). Holds ids m.name × (m.place ≡ place)) own (holds, is))
twice-split ids first machines place (zero, machine, at, inr known, is) = absurd (omega (arith, known.2))
twice-split ids first machines place (suc k, machine, at, known, is) = inr (k, machine, at, later-known ids first machines k machine known, is)

pub twice-after-least : (ids : List (List ℕ × ℕ)) (machines : List Machine) → IsLeastOf (IsTwiceAfter ids machines) (twice_after ids machines)
twice-after-least ids [] = λ place it. let never : None ≡ Some it.1 = it.2 in absurd (cc)
twice-after-least ids (first ∷ machines) =
    least-of (IsFirstTwice ids first) (IsTwiceAfter (with_id ids first) machines) (IsTwiceAfter ids (first ∷ machines))
    (if is_some (get first.name ids) then Some first.place else None) (twice_after (with_id ids first) machines)
    (first-least ids first) (twice-after-least (with_id ids first) machines)
    (λ place it. (0, first, refl, inl it.0, it.1))
    (λ place it. (suc it.0, it.1, it.2, known-later ids first machines it.0 it.1 it.3, it.4))
    (λ place it. twice-split ids first machines place it)

-- no id is held at first
twice-from : (machines : List Machine) (place : ℕ) → IsTwiceAfter [] machines place → IsTwice machines place
twice-from machines place (k, machine, at, inl holds, is) = absurd (cc)
twice-from machines place (k, machine, at, inr (earlier, other, less, before, same), is) = (k, earlier, machine, other, less, at, before, same, is)

twice-to : (machines : List Machine) (place : ℕ) → IsTwice machines place → IsTwiceAfter [] machines place
twice-to machines place (k, earlier, machine, other, less, at, before, same, is) = (k, machine, at, inr (earlier, other, less, before, same), is)

pub twice-least : (machines : List Machine) → IsLeastOf (IsTwice machines) (twice_after [] machines)
twice-least machines = least-same (IsTwiceAfter [] machines) (IsTwice machines) (twice_after [] machines) (twice-after-least [] machines) (twice-from machines) (twice-to machines)

-- ---- the ids where none stands twice

none-first : (a b : Option ℕ) → least_of a b ≡ None → (a ≡ None) × (b ≡ None)
none-first None b is = (refl, is)
none-first (Some p) None is = absurd (cc)
none-first (Some p) (Some q) is = absurd (cc)

not-held : (b : Bool) (place : ℕ) → (if b then Some place else None) ≡ None → b ≡ false
not-held true place is = absurd (cc)
not-held false place is = refl

ids-after : (ids : List (List ℕ × ℕ)) (machines : List Machine) → twice_after ids machines ≡ None → ids_after ids machines ≡ ids ++ ids_of_machines machines
ids-after ids [] none = sym (append-nil ids)
ids-after ids (first ∷ machines) none =
    let parts = none-first (if is_some (get first.name ids) then Some first.place else None) (twice_after (with_id ids first) machines) none in
    let new : is_some (get first.name ids) ≡ false = not-held (is_some (get first.name ids)) first.place parts.0 in
    let entered : with_id ids first ≡ ids ++ (first.name, first.place) ∷ [] = ap (λ (b : Bool). if b then ids else ids ++ (first.name, first.place) ∷ []) new in
    ids-after (with_id ids first) machines parts.1
    ∙ ap (λ l. l ++ ids_of_machines machines) entered ∙ append_assoc ids ((first.name, first.place) ∷ []) (ids_of_machines machines)

pub ids-are : (machines : List Machine) → twice_after [] machines ≡ None → ids_after [] machines ≡ ids_of_machines machines
ids-are machines none = ids-after [] machines none
