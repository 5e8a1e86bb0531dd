-- What is looked up in the notes of a step.
use Rattle.std.proofs.Common.{◌≡◌, ◌≢◌, inl, inr, ℕ, suc, zero, ◌+◌, ◌-◌, ◌<◌, ◌≤◌, Bool, true, false, cond, ◌&&◌, ◌||◌, not, true≢false, List, [], ◌∷◌, length, refl, sym, ap, subst, ◌∙◌, arith}
use Rattle.std.specs.Prelude.{Option, None, Some, is_some, nat_eq, nat_lt, slice_get, sum_by, unwrap_or, if◌then◌else◌}
use Rattle.std.specs.Option.{option_map_or}
use Rattle.std.specs.Ordering.{MatchOrdering, is_eq, nat_cmp}
use Rattle.std.specs.declared.cmp.Ordering.{Ordering}
use Rattle.std.specs.declared.cmp.Ordering.TheVariants.{Less, Equal, Greater}
use Rattle.std.proofs.lemmas.Cmp.{ranked}
use Rattle.std.proofs.lemmas.Bool.{cases_lt, eq-eqb, eqb-true, ltb-true, lt-ltb, ne_eqb}
use Rattle.office_types.specs.declared.office.ActorRecord.{ActorRecord}
use Rattle.office_types.specs.declared.office.OfficeState.{OfficeState}
use Rattle.office_types.specs.Records.{is_active}
use Rattle.actor_tree.specs.Noted.{AreRecordsNoted, Face, Noted, face_of, is_gone_too, letters_at, next_of}
use Rattle.actor_tree.proofs.FaceLemmas.{actors_rise, made_face, no_record, record_number, word_before, word_gone, word_made}
use Rattle.actor_tree.proofs.NoteListLemmas.{look, sum_without, without}

not_less : (a b : ℕ) → b ≤ a → nat_lt a b ≡ false
not_less a b more = by_test (nat_lt a b) refl where
  by_test : (c : Bool) → nat_lt a b ≡ c → c ≡ false
  by_test true is = absurd (let less : a < b = ltb-true a b is in omega arith)
  by_test false is = refl

there : (xs : List Bool) (k : ℕ) → option_map_or (λ (x : Bool). true) (slice_get xs k) false ≡ nat_lt k (length xs)
there [] k = sym (not_less k 0 (omega arith))
there (x ∷ xs) zero = sym (lt-ltb 0 (length (x ∷ xs)) (omega arith))
there (x ∷ xs) (suc k) = there xs k ∙ elim (cases_lt k (length xs)) [
  | inl less ↦ lt-ltb k (length xs) less ∙ sym (lt-ltb (suc k) (length (x ∷ xs)) (omega arith))
  | inr more ↦ not_less k (length xs) more ∙ sym (not_less (suc k) (length (x ∷ xs)) (omega arith))
]

module _ (before : OfficeState) (actor : ℕ) (notes : Noted) (actors : List ActorRecord) (is : AreRecordsNoted before actor notes actors) where
  pub active_gone : (n : ℕ) → notes.gone n ≡ true → false ≡ option_map_or is_active (look record_number actors n) false
  active_gone n gone = sym (word_gone before actor notes actors is (λ (face : Face). face.active) false n gone)

  pub active_before : (n : ℕ) → notes.gone n ≡ false → n < before.next_actor → option_map_or is_active (look record_number before.actors n) false ≡ option_map_or is_active (look record_number actors n) false
  active_before n left less = sym (word_before before actor notes actors is (λ (face : Face). face.active) false n left less)

  pub active_made : (n : ℕ) → notes.gone n ≡ false → before.next_actor ≤ n → nat_lt n (next_of before notes) ≡ option_map_or is_active (look record_number actors n) false
  active_made n left from =
      elim (cases_lt n (next_of before notes)) [
        | inl less ↦ lt-ltb n (next_of before notes) less ∙ sym (lt-ltb (n - before.next_actor) (length notes.machines) (omega arith))
        | inr more ↦ not_less n (next_of before notes) more ∙ sym (not_less (n - before.next_actor) (length notes.machines) (omega arith))
      ] ∙ sym (there notes.machines (n - before.next_actor)) ∙ sym (word_made before actor notes actors is (λ (face : Face). face.active) false n left from)

  pub machine_gone : (n : ℕ) → notes.gone n ≡ true → false ≡ option_map_or (λ (a : ActorRecord). is_active a && is_some a.own) (look record_number actors n) false
  machine_gone n gone = sym (word_gone before actor notes actors is (λ (face : Face). face.active && face.machine) false n gone)

  pub machine_before : (n : ℕ) → notes.gone n ≡ false → n < before.next_actor
      → option_map_or (λ (a : ActorRecord). is_active a && is_some a.own) (look record_number before.actors n) false ≡ option_map_or (λ (a : ActorRecord). is_active a && is_some a.own) (look record_number actors n) false
  machine_before n left less = sym (word_before before actor notes actors is (λ (face : Face). face.active && face.machine) false n left less)

  pub machine_made : (n : ℕ) → notes.gone n ≡ false → before.next_actor ≤ n
      → option_map_or (λ (machine : Bool). machine) (slice_get notes.machines (n - before.next_actor)) false ≡ option_map_or (λ (a : ActorRecord). is_active a && is_some a.own) (look record_number actors n) false
  machine_made n left from = sym (word_made before actor notes actors is (λ (face : Face). face.active && face.machine) false n left from)

  pub letters_gone : (n : ℕ) → notes.gone n ≡ true → 0 ≡ letters_at actors n
  letters_gone n gone = sym (ap (λ (o : Option ActorRecord). option_map_or (λ (a : ActorRecord). length a.mailbox) o 0) (no_record before actor notes actors is n gone))

  -- the letters in the other mailboxes, and in this one
  pub letters_split : (n : ℕ) → sum_by (λ (a : ActorRecord). length a.mailbox) (without record_number n actors) + letters_at actors n ≡ sum_by (λ (a : ActorRecord). length a.mailbox) actors
  letters_split n = sum_without record_number (λ (a : ActorRecord). length a.mailbox) n actors (actors_rise before actor notes actors is)

-- ---- what a set and a map have after an insertion

same_number : (a b : ℕ) → is_eq (nat_cmp a b) ≡ nat_eq b a
same_number a b = by_order (nat_cmp a b) (ranked a b (nat_cmp a b) refl) where
  by_order : (o : Ordering) → MatchOrdering o (a < b) (a ≡ b) (b < a) → is_eq o ≡ nat_eq b a
  by_order Less is = sym (ne_eqb b a (λ e. omega arith))
  by_order Equal is = sym (eq-eqb b a (sym is))
  by_order Greater is = sym (ne_eqb b a (λ e. omega arith))

-- one more is in a set
pub gone_more : (new old : ℕ → Bool) (n : ℕ) → ((q : ℕ) → new q ≡ cond (is_eq (nat_cmp n q)) true (old q)) → (q : ℕ) → new q ≡ is_gone_too old n q
gone_more new old n updates q = updates q ∙ ap (λ (b : Bool). cond b true (old q)) (same_number n q) ∙ either (nat_eq q n) where
  either : (b : Bool) → cond b true (old q) ≡ (b || old q)
  either true = refl
  either false = refl

-- a number has another value in a map
pub value_at : (new old : ℕ → Option ℕ) (n value : ℕ) → ((q : ℕ) → new q ≡ cond (is_eq (nat_cmp n q)) (Some value) (old q)) → (q : ℕ) → unwrap_or (new q) 0 ≡ (if nat_eq q n then value else unwrap_or (old q) 0)
value_at new old n value updates q = ap (λ (o : Option ℕ). unwrap_or o 0) (updates q ∙ ap (λ (b : Bool). cond b (Some value) (old q)) (same_number n q)) ∙ either (nat_eq q n) where
  either : (b : Bool) → unwrap_or (cond b (Some value) (old q)) 0 ≡ (if b then value else unwrap_or (old q) 0)
  either true = refl
  either false = refl

-- a number has one more in a map
pub value_more : (new old : ℕ → Option ℕ) (n value : ℕ) → value ≡ unwrap_or (old n) 0 + 1 → ((q : ℕ) → new q ≡ cond (is_eq (nat_cmp n q)) (Some value) (old q)) → (q : ℕ)
    → unwrap_or (new q) 0 ≡ unwrap_or (old q) 0 + (if nat_eq q n then 1 else 0)
value_more new old n value is updates q = value_at new old n value updates q ∙ by_test (nat_eq q n) refl where
  by_test : (b : Bool) → nat_eq q n ≡ b → (if b then value else unwrap_or (old q) 0) ≡ unwrap_or (old q) 0 + (if b then 1 else 0)
  by_test true e = is ∙ ap (λ (m : ℕ). unwrap_or (old m) 0 + 1) (sym (eqb-true q n e))
  by_test false e = omega arith
