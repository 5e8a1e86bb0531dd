-- Nodes that are entered one after the other.
use Rattle.std.proofs.Common.{◌≡◌, ◌<◌, ◌≤◌, ◌+◌, ◌-◌, ℕ, suc, List, [], ◌∷◌, ◌++◌, length, get_or, take, drop, Ok, Err, refl, sym, subst, arith, inl, inr, ◌∙◌}
use Rattle.std.specs.Prelude.{Result}
use Rattle.std.specs.List.{All, AllZip, Contains, flat_map}
use Rattle.std.specs.List.Sorted.{IsStrictlyIncreasing}
use Rattle.std.proofs.lemmas.Bool.{cases_lt}
use Rattle.std.proofs.lemmas.Grind.{flat_map-append}
use Rattle.std.proofs.lemmas.List.{append-nil, get_or_default, get_or-drop, length-drop, take-append-drop, take_all}
use Rattle.std.proofs.lemmas.List.Elements.{Contains-get_or}
use Rattle.std.proofs.lemmas.List.Kept.{AllPairs-from_increasing}
use Rattle.node_tree.proofs.RisingLemmas.{rises}
use Rattle.node_tree.specs.Nodes.{IsTree}
use Rattle.step_sets.specs.Configuration.{IsLegal}
use Rattle.step_sets.specs.Statechart.{IsStatechart}
use Rattle.guard_eval.specs.declared.def.Def.{Def}
use Rattle.office_types.specs.declared.outcome.FaultName.{FaultName}
use Rattle.xs_model.specs.declared.value.Value.{Value}
use Rattle.microstep.specs.declared.micro.StepFault.{StepFault}
use Rattle.microstep.specs.declared.progress.Progress.{Progress}
use Rattle.microstep.specs.Acts.{Act, after_act, after_acts, entry_acts}
use Rattle.microstep.specs.Climbing.{IsActiveYet, parallel_done}
use Rattle.microstep.specs.DoneEvents.{AreDoneActs, EndsParent, IsClimb, ends, node_id, output_of}
use Rattle.microstep.specs.Parts.{Stepped}
use Rattle.microstep.specs.Progressing.{Becomes}
use Rattle.microstep.specs.Working.{AreActsOf, BecomesBy, IsActiveUpTo, IsGivenBy}
use Rattle.microstep.proofs.ActLemmas.{turn-append, turn-first, turn-wrong}
use Rattle.microstep.proofs.ClimbLemmas.{entry-along, entry-there}
use Rattle.microstep.proofs.ExitLemmas.{AllZip-more}

-- ---- which nodes are active when one has just been entered

pub yet-up-to : (configuration entered : List ℕ) (i m : ℕ) → IsStrictlyIncreasing entered → i < length entered
    → IsActiveYet configuration (drop (i + 1) entered) m → IsActiveUpTo configuration entered (get_or entered i 0) m
yet-up-to configuration entered i m rising inside (has, out) = (
  has,
  λ (k, in-k, is).
      let at : get_or entered k 0 ≡ m = get_or_default entered k 0 m in-k ∙ is in
      elim (cases_lt i k) [
        | inr le ↦ (let upto = rises entered rising k i le inside in omega (arith, upto, at))
        | inl lt ↦ absurd (out (subst (λ x. Contains (drop (i + 1) entered) x) (behind k lt in-k ∙ at)
            (Contains-get_or (drop (i + 1) entered) (k - (i + 1)) 0 (omega (arith, length-drop (i + 1) entered, lt, in-k)))))
      ],
)
  where
    behind : (k : ℕ) → i < k → k < length entered → get_or (drop (i + 1) entered) (k - (i + 1)) 0 ≡ get_or entered k 0
    behind k lt in-k =
        let same : i + 1 + (k - (i + 1)) ≡ k = omega (arith, lt) in
        get_or-drop (i + 1) entered (k - (i + 1)) 0 ∙ rw same refl

pub up-to-yet : (configuration entered : List ℕ) (i m : ℕ) → IsStrictlyIncreasing entered → i < length entered
    → IsActiveUpTo configuration entered (get_or entered i 0) m → IsActiveYet configuration (drop (i + 1) entered) m
up-to-yet configuration entered i m rising inside (has, upto) = (
  has,
  λ (k, in-k, is).
      let within : i + 1 + k < length entered = omega (arith, length-drop (i + 1) entered, in-k) in
      let at : get_or entered (i + 1 + k) 0 ≡ m = sym (get_or-drop (i + 1) entered k 0) ∙ (get_or_default (drop (i + 1) entered) k 0 m in-k ∙ is) in
      let le = upto (i + 1 + k, within, get_or_default entered (i + 1 + k) m 0 within ∙ at) in
      let lt : get_or entered i 0 < get_or entered (i + 1 + k) 0 = AllPairs-from_increasing entered rising i (i + 1 + k) 0 (omega arith) within in
      absurd (omega (arith, le, lt, at)),
)

-- ---- entries

module _ (R : ℕ → List Act → Type 0) where
  AllZip-append : (xs xs2 : List ℕ) (ys ys2 : List (List Act)) → AllZip R xs ys → AllZip R xs2 ys2 → AllZip R (xs ++ xs2) (ys ++ ys2)
  AllZip-append [] xs2 [] ys2 all rest = rest
  AllZip-append [] xs2 (y ∷ ys) ys2 all rest = absurd all
  AllZip-append (x ∷ xs) xs2 [] ys2 all rest = absurd all
  AllZip-append (x ∷ xs) xs2 (y ∷ ys) ys2 all rest = (all.0, AllZip-append xs xs2 ys ys2 all.1 rest)

  -- what there is for each node there is for a list of nodes
  pub all-there : (xs : List ℕ) → ((k : ℕ) → k < length xs → (y : List Act) × R (get_or xs k 0) y) → (ys : List (List Act)) × AllZip R xs ys
  all-there [] each = ([], tt)
  all-there (x ∷ xs) each =
      let (y, r) = each 0 (omega arith) in
      let (ys, all) = all-there xs (λ k inside. each (suc k) (omega (arith, inside))) in
      (y ∷ ys, (r, all))

  abbrev pub AreEntriesOf : List ℕ → List Act → Type 0
  AreEntriesOf xs acts = (entries : List (List Act)) × AllZip R xs entries × (acts ≡ flat_map (λ (entry : List Act). entry) entries)

  -- one entry more
  pub entered-more : (event : Value) (start : Progress) (expected : Stepped Progress) (xs : List ℕ) (i : ℕ) (now : Progress) → i < length xs
      → IsGivenBy (AreEntriesOf (take i xs)) event start (Ok now) → IsGivenBy (R (get_or xs i 0)) event now expected → IsGivenBy (AreEntriesOf (take (i + 1) xs)) event start expected
  entered-more event start expected xs i now inside (acts, (entries, all, is), gives) (more, r, then-gives) = (
    flat_map (λ (entry : List Act). entry) (entries ++ more ∷ []),
    (entries ++ more ∷ [], AllZip-more R xs entries i 0 more inside all r, refl),
    (let flat : flat_map (λ (entry : List Act). entry) (entries ++ more ∷ []) ≡ acts ++ more =
        flat_map-append (λ (entry : List Act). entry) entries (more ∷ []) ∙ rw (is, append-nil more) refl in
        rw (flat, turn-append (after_act event) acts more start, gives) then-gives),
  )

  -- a fault at one entry
  pub entered-fault : (event : Value) (start : Progress) (name : FaultName) (xs : List ℕ) (i : ℕ) → i ≤ length xs
      → ((k : ℕ) → k < length xs → (y : List Act) × R (get_or xs k 0) y)
      → IsGivenBy (AreEntriesOf (take i xs)) event start (Err name) → IsGivenBy (AreEntriesOf xs) event start (Err name)
  entered-fault event start name xs i upto each (acts, (entries, all, is), gives) =
      let (later, rest) = all-there (drop i xs) (λ k inside. rw (get_or-drop i xs k 0) (each (i + k) (omega (arith, length-drop i xs, inside)))) in (
        flat_map (λ (entry : List Act). entry) (entries ++ later),
        (entries ++ later, subst (λ (ns : List ℕ). AllZip R ns (entries ++ later)) (take-append-drop i xs) (AllZip-append (take i xs) (drop i xs) entries later all rest), refl),
        (let flat : flat_map (λ (entry : List Act). entry) (entries ++ later) ≡ acts ++ flat_map (λ (entry : List Act). entry) later =
            flat_map-append (λ (entry : List Act). entry) entries later ∙ rw is refl in
            rw (flat, turn-append (after_act event) acts (flat_map (λ (entry : List Act). entry) later) start, gives) refl),
      )

  pub entered-all : (event : Value) (start : Progress) (expected : Stepped Progress) (xs : List ℕ) (i : ℕ) → length xs ≤ i
      → IsGivenBy (AreEntriesOf (take i xs)) event start expected → IsGivenBy (AreEntriesOf xs) event start expected
  entered-all event start expected xs i past given = rw (take_all i xs past) at given

  pub entered-none : (event : Value) (start : Progress) → IsGivenBy (AreEntriesOf []) event start (Ok start)
  entered-none event start = ([], ([], tt, refl), refl)

-- acts of another kind that are the same
pub given-along : {A B : List Act → Type 0} (event : Value) (start : Progress) (expected : Stepped Progress) → ((acts : List Act) → A acts → B acts) → IsGivenBy A event start expected → IsGivenBy B event start expected
given-along event start expected to (acts, are, gives) = (acts, to acts are, gives)

-- no entry yet
pub entered-start : (R : ℕ → List Act → Type 0) (event : Value) (start : Progress) (xs : List ℕ) → IsGivenBy (AreEntriesOf R (take 0 xs)) event start (Ok start)
entered-start R event start [] = entered-none R event start
entered-start R event start (x ∷ xs) = entered-none R event start

-- ---- the acts of entered nodes

-- there are acts of each entered node
pub entries-each : (def : Def) → IsTree def.tree → IsStatechart def.tree → (configuration entered : List ℕ) → IsLegal def.tree (Contains configuration) → IsStrictlyIncreasing entered → All (Contains configuration) entered
    → (k : ℕ) → k < length entered → (acts : List Act) × AreActsOf def (IsActiveUpTo configuration entered (get_or entered k 0)) (get_or entered k 0) acts
entries-each def tree chart configuration entered legal rising active k inside =
    let n = get_or entered k 0 in
    let (acts, are) = entry-there def tree chart configuration (drop (k + 1) entered) legal n (active k 0 inside) in (
      acts,
      entry-along def (IsActiveYet configuration (drop (k + 1) entered)) (IsActiveUpTo configuration entered n) (λ m yet. yet-up-to configuration entered k m rising inside yet)
          (λ m upto. up-to-yet configuration entered k m rising inside upto) n acts are,
    )

-- the acts of an entry, where it is told from the nodes entered later which nodes are active
pub entry-upto : (def : Def) (configuration entered : List ℕ) (i : ℕ) (event : Value) (start : Progress) (expected : Stepped Progress) → IsStrictlyIncreasing entered → i < length entered
    → IsGivenBy (AreActsOf def (IsActiveYet configuration (drop (i + 1) entered)) (get_or entered i 0)) event start expected
    → IsGivenBy (AreActsOf def (IsActiveUpTo configuration entered (get_or entered i 0)) (get_or entered i 0)) event start expected
entry-upto def configuration entered i event start expected rising inside given =
    let n = get_or entered i 0 in
    given-along event start expected
    (λ acts are. entry-along def (IsActiveYet configuration (drop (i + 1) entered)) (IsActiveUpTo configuration entered n) (λ m yet. yet-up-to configuration entered i m rising inside yet)
    (λ m upto. up-to-yet configuration entered i m rising inside upto) n acts are)
    given

-- the same, of a slice of the nodes entered later
pub entry-given : (def : Def) (configuration entered : List ℕ) (i : ℕ) (event : Value) (start : Progress) (expected : Stepped Progress) → IsStrictlyIncreasing entered → i < length entered
    → IsGivenBy (AreActsOf def (IsActiveYet configuration (take (length entered - (i + 1)) (drop (i + 1) entered))) (get_or entered i 0)) event start expected
    → IsGivenBy (AreActsOf def (IsActiveUpTo configuration entered (get_or entered i 0)) (get_or entered i 0)) event start expected
entry-given def configuration entered i event start expected rising inside given =
    let whole : take (length entered - (i + 1)) (drop (i + 1) entered) ≡ drop (i + 1) entered = take_all (length entered - (i + 1)) (drop (i + 1) entered) (omega (arith, length-drop (i + 1) entered)) in
    let P : List ℕ → Type 0 = λ later. IsGivenBy (AreActsOf def (IsActiveYet configuration later) (get_or entered i 0)) event start expected in
    entry-upto def configuration entered i event start expected rising inside (subst P whole given)

-- ---- a node, and then its done events

module _ (def : Def) (Active : ℕ → Type 0) (n : ℕ) (event : Value) (start : Progress) where
  pub entered-wrong : (name : FaultName) → after_acts event (entry_acts def n) start ≡ Err name → ((acts : List Act) × AreActsOf def Active n acts) → IsGivenBy (AreActsOf def Active n) event start (Err name)
  entered-wrong name is (acts, (done, are, at)) = (acts, (done, are, at), rw (at, turn-append (after_act event) (entry_acts def n) done start, is) refl)

  pub entered-then : (mid : Progress) (expected : Stepped Progress) → after_acts event (entry_acts def n) start ≡ Ok mid → IsGivenBy (AreDoneActs def Active n) event mid expected
      → IsGivenBy (AreActsOf def Active n) event start expected
  entered-then mid expected is (done, are, gives) = (entry_acts def n ++ done, (done, are, refl), rw (turn-append (after_act event) (entry_acts def n) done start, is) gives)

  pub entered-becomes : {X : Type 0} (result : Result X StepFault) (mid after : Progress) → after_acts event (entry_acts def n) start ≡ Ok mid → BecomesBy (AreDoneActs def Active n) event result mid after
      → BecomesBy (AreActsOf def Active n) event result start after
  entered-becomes (Ok x) mid after is given = entered-then mid (Ok after) is given
  entered-becomes (Err fault) mid after is given = λ name at. entered-then mid (Err name) is (given name at)

-- ---- a done event, and then those above

module _ (def : Def) (Active : ℕ → Type 0) (n parent initial : ℕ) (event : Value) (start : Progress) (is : EndsParent def.tree n parent initial) (nodes : List ℕ)
    (climb : IsClimb def Active parent (parallel_done def nodes)) where
  abbrev OwnDone : Act
  OwnDone = Act.RaiseDone (node_id def.tree parent) (output_of def n)

  pub raised-wrong : (name : FaultName) → after_act event OwnDone start ≡ Err name → IsGivenBy (AreDoneActs def Active n) event start (Err name)
  raised-wrong name wrong = (OwnDone ∷ parallel_done def nodes, ends is climb, turn-wrong (after_act event) OwnDone (parallel_done def nodes) start name wrong)

  pub raised-then : {X : Type 0} (result : Result X StepFault) (mid after : Progress) → after_act event OwnDone start ≡ Ok mid → Becomes result after (after_acts event (parallel_done def nodes) mid)
      → BecomesBy (AreDoneActs def Active n) event result start after
  raised-then (Ok x) mid after first given = (OwnDone ∷ parallel_done def nodes, ends is climb, turn-first (after_act event) OwnDone (parallel_done def nodes) start mid first ∙ given)
  raised-then (Err fault) mid after first given =
      λ name at. (OwnDone ∷ parallel_done def nodes, ends is climb, turn-first (after_act event) OwnDone (parallel_done def nodes) start mid first ∙ given name at)
