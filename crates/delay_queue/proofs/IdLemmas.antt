-- Whether an owner has a timer of an id, as a search by owner and id tells.
use Rattle.std.proofs.Common.{◌≡◌, ℕ, Bool, true, false, ◌||◌, List, [], ◌∷◌, Result, Ok, Err, IfOk, IfErr, Some, refl, sym, ap, ◌∙◌, inl, inr}
use Rattle.std.specs.List.{list_any}
use Rattle.std.specs.Result.{is_ok}
use Rattle.std.proofs.lemmas.Slice.Eq.{bytes_eq-Decides}
use Rattle.office_types.specs.declared.office.Timer.{Timer}
use Rattle.office_types.specs.Timers.{has_id}
use Rattle.office_books.specs.KeyIndex.{IsIn}
use Rattle.office_books.proofs.KeyIndexLemmas.{stands}
use Rattle.delay_queue.specs.Queue.{HasIndexes}
use Rattle.delay_queue.specs.TimerKeys.{IsOwnerAt, IsOwnerGap, keyed, owner_key, owner_key_of}
use Rattle.delay_queue.proofs.QueueLemmas.{has_key, held_key}

or_true : (b : Bool) → (b || true) ≡ true
or_true true = refl
or_true false = refl

module _ (owner : ℕ) (id : List ℕ) where
  -- a timer of this key is one of the id
  any_held : (timers : List Timer) (order : ℕ) → IsIn (owner_key owner (Some id) 0, order) (keyed owner_key_of timers) → list_any (has_id owner id) timers ≡ true
  any_held [] order held = absurd held
  any_held (timer ∷ timers) order (inl e) =
      let this : has_id owner id timer ≡ true = has_key owner id timer ∙ (bytes_eq-Decides _ _).1 (sym (ap (λ (p : List ℕ × ℕ). p.0) e)) in
      rw this refl
  any_held (timer ∷ timers) order (inr later) = rw (any_held timers order later) (or_true (has_id owner id timer))

  -- a timer of the id has this key
  any_in : (timers : List Timer) → list_any (has_id owner id) timers ≡ true → (order : ℕ) × IsIn (owner_key owner (Some id) 0, order) (keyed owner_key_of timers)
  any_in [] = λ e. absurd (cc)
  any_in (timer ∷ timers) = cases (any_in timers) (has_id owner id timer) refl
    where
      cases : (list_any (has_id owner id) timers ≡ true → (order : ℕ) × IsIn (owner_key owner (Some id) 0, order) (keyed owner_key_of timers)) → (b : Bool) → has_id owner id timer ≡ b → (b || list_any (has_id owner id) timers) ≡ true → (order : ℕ) × IsIn (owner_key owner (Some id) 0, order) (keyed owner_key_of (timer ∷ timers))
      cases later true this e =
          let same : owner_key owner (Some id) 0 ≡ owner_key_of timer = (bytes_eq-Decides _ _).0 (sym (has_key owner id timer) ∙ this) in
          (timer.order, inl (ap (λ (k : List ℕ). (k, timer.order)) (sym same)))
      cases later false this e = let rest = later e in (rest.0, inr rest.1)

  module _ (timers : List Timer) (by_due by_owner : List ℕ) (indexes : HasIndexes timers by_due by_owner) where
    pub id_searched : (r : Result ℕ ℕ) → IfOk r (IsOwnerAt timers by_owner owner (Some id) 0) → IfErr r (IsOwnerGap timers by_owner owner (Some id) 0)
        → is_ok r ≡ list_any (has_id owner id) timers
    id_searched (Ok rank) at gap = sym (any_held timers _ (held_key timers by_due by_owner indexes owner id rank 0 at))
    id_searched (Err rank) at gap = cases (list_any (has_id owner id) timers) refl
      where
        cases : (b : Bool) → list_any (has_id owner id) timers ≡ b → false ≡ b
        cases true e = let one = any_in timers e in absurd (stands (keyed owner_key_of timers) by_owner indexes.owner (owner_key owner (Some id) 0) rank one.0 one.1 gap)
        cases false e = refl
