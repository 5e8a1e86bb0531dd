-- What a step adds keeps what is done so far allowed.
use Rattle.std.proofs.Common.{◌≡◌, ◌≢◌, ◌<◌, ◌≤◌, ◌||◌, ℕ, zero, suc, Bool, true, false, not, IsTrue, List, [], ◌∷◌, ◌++◌, length, fold, filter, get_or, Option, IfSome, if◌then◌else◌, refl, sym, ap, ◌∙◌, subst, arith}
use Rattle.std.specs.List.{list_any}
use Rattle.std.specs.Str.{bytes_eq}
use Rattle.std.proofs.lemmas.List.Elements.{All-filter, All-push}
use Rattle.std.proofs.lemmas.List.Kept.{AllPairs-filter}
use Rattle.std.proofs.lemmas.List.Quantifiers.{all_pairs_push}
use Rattle.std.proofs.lemmas.List.Sums.{fold-append}
use Rattle.std.proofs.lemmas.Map.Views.{any-filter_same}
use Rattle.std.proofs.lemmas.Slice.Eq.{bytes_eq-Decides}
use Rattle.xs_model.specs.declared.value.Value.{Value}
use Rattle.office_types.specs.declared.limits.TheConstants.{MAX_NEXT_NUMBER}
use Rattle.office_types.specs.declared.outcome.Effect.{Effect}
use Rattle.office_types.specs.declared.outcome.Effect.TheVariants as effect
use Rattle.office_types.specs.declared.outcome.Own.{Own}
use Rattle.office_types.specs.Definitions.{OfficeDefinitions}
use Rattle.office_types.specs.Limits.{is_name, is_short}
use Rattle.office_types.specs.Outcomes.{AreAllowedEffects, IsAllowedEffect, children_after}
use Rattle.office_types.specs.OwnParts.{AreChildIds, IsContext}
use Rattle.microstep.specs.Allowed.{IsAllowedSoFar}
use Rattle.microstep.specs.declared.progress.Progress.{Progress}
use Rattle.microstep.specs.Progress.{with_child, with_effect, with_raised, with_stop}

-- ---- ids

same-bytes : (xs : List ℕ) → bytes_eq xs xs ≡ true
same-bytes xs = (bytes_eq-Decides xs xs).1 refl

or-right : (b c : Bool) → c ≡ true → (b || c) ≡ true
or-right true c is = refl
or-right false c is = is

found-at : (ids : List (List ℕ)) (id : List ℕ) (k : ℕ) (d : List ℕ) → k < length ids → get_or ids k d ≡ id → list_any (bytes_eq id) ids ≡ true
found-at [] id k d within same = absurd (omega (arith, within))
found-at (x ∷ ids) id zero d within same =
    let head : bytes_eq id x ≡ true = (bytes_eq-Decides id x).1 (sym same) in
    rw head refl
found-at (x ∷ ids) id (suc k) d within same = or-right (bytes_eq id x) _ (found-at ids id k d (omega (arith, within)) same)

pub stopped-ids : (ids : List (List ℕ)) (id : List ℕ) → AreChildIds ids → AreChildIds (children_after ids (effect.Stop id))
stopped-ids ids id are = record {
  names = All-filter (λ (other : List ℕ). not (bytes_eq other id)) (λ (name : List ℕ). IsTrue (is_name name)) ids are.names;
  distinct = AllPairs-filter (λ (a b : List ℕ). a ≢ b) (λ (other : List ℕ). not (bytes_eq other id)) ids are.distinct;
}

spawned-ids : (ids : List (List ℕ)) (id : List ℕ) → AreChildIds ids → IsTrue (is_name id) → list_any (bytes_eq id) ids ≡ false → AreChildIds (ids ++ id ∷ [])
spawned-ids ids id are name free = record {
  names = All-push (λ (other : List ℕ). IsTrue (is_name other)) ids id are.names name;
  distinct = all_pairs_push (λ (a b : List ℕ). a ≢ b) ids id are.distinct (λ k d within same. let found = found-at ids id k d within same in absurd (cc (found, free)));
}

not-other : (id k : List ℕ) → bytes_eq id k ≡ true → not (bytes_eq k id) ≡ false
not-other id k is =
    let same : id ≡ k = (bytes_eq-Decides id k).0 is in
    ap not ((bytes_eq-Decides k id).1 (sym same))

free-stopped : (ids : List (List ℕ)) (id : List ℕ) → list_any (bytes_eq id) (filter (λ (other : List ℕ). not (bytes_eq other id)) ids) ≡ false
free-stopped ids id = any-filter_same (bytes_eq id) (λ (other : List ℕ). not (bytes_eq other id)) false (not-other id) ids

module _ (definitions : OfficeDefinitions) (own : Own) where
  abbrev pub SoFar : Progress → Type 0
  SoFar progress = IsAllowedSoFar definitions own progress

  -- ---- effects

  allowed-push : (ids : List (List ℕ)) (effects : List Effect) (e : Effect) → AreAllowedEffects definitions ids effects → IsAllowedEffect definitions (fold children_after ids effects) e
      → AreAllowedEffects definitions ids (effects ++ e ∷ [])
  allowed-push ids [] e all here = (here, tt)
  allowed-push ids (first ∷ others) e all here = (all.0, allowed-push (children_after ids first) others e all.1 here)

  pub with-effect : (p : Progress) (e : Effect) → SoFar p → IsAllowedEffect definitions p.children e → AreChildIds (children_after p.children e) → SoFar (with_effect p e)
  with-effect p e before allowed ids =
      let P : List (List ℕ) → Type 0 = λ ids. IsAllowedEffect definitions ids e in
      let after : List (List ℕ) → List (List ℕ) = λ ids. children_after ids e in
      record {
        effects = allowed-push own.children p.effects e before.effects (subst P before.children allowed);
        children = ap after before.children ∙ sym (fold-append children_after own.children p.effects (e ∷ []));
        context = before.context;
        ids = ids;
        unnamed = before.unnamed;
        numbers = before.numbers;
      }

  pub with-raised : (p : Progress) (event : Value) → SoFar p → SoFar (with_raised p event)
  with-raised p event before = record {
    effects = before.effects;
    children = before.children;
    context = before.context;
    ids = before.ids;
    unnamed = before.unnamed;
    numbers = before.numbers;
  }

  pub with-context : (p : Progress) (context : Value) → SoFar p → IsContext context → SoFar (record p { context = context })
  with-context p context before within = record {
    effects = before.effects;
    children = before.children;
    context = within;
    ids = before.ids;
    unnamed = before.unnamed;
    numbers = before.numbers;
  }

  pub with-unnamed : (p : Progress) (unnamed : ℕ) → SoFar p → p.unnamed ≤ unnamed → unnamed ≤ MAX_NEXT_NUMBER → SoFar (record p { unnamed = unnamed })
  with-unnamed p unnamed before more within = record {
    effects = before.effects;
    children = before.children;
    context = before.context;
    ids = before.ids;
    unnamed = omega (arith, before.unnamed, more);
    numbers = within;
  }

  -- ---- children

  stop-by : (b : Bool) (p : Progress) (id : List ℕ) → list_any (bytes_eq id) p.children ≡ b → SoFar p → SoFar (if b then with_effect p (effect.Stop id) else p)
  stop-by true p id held before = with-effect p (effect.Stop id) before held (stopped-ids p.children id before.ids)
  stop-by false p id held before = before

  pub with-stop : (p : Progress) (id : List ℕ) → SoFar p → SoFar (with_stop p id)
  with-stop p id before = stop-by (list_any (bytes_eq id) p.children) p id refl before

  free-by : (b : Bool) (p : Progress) (id : List ℕ) → list_any (bytes_eq id) p.children ≡ b → list_any (bytes_eq id) (if b then with_effect p (effect.Stop id) else p).children ≡ false
  free-by true p id held = free-stopped p.children id
  free-by false p id held = held

  pub with-child : (p : Progress) (id : List ℕ) (src : ℕ) (input : Value) (system : Option (List ℕ)) → SoFar p → IsTrue (is_name id) → src < length definitions.actors
      → IsTrue (is_short input) → IfSome system (λ name. IsTrue (is_name name)) → SoFar (with_child p id src input system)
  with-child p id src input system before name row short system_name =
      let free = free-by (list_any (bytes_eq id) p.children) p id refl in
      let stopped = with-stop p id before in
      with-effect (with_stop p id) (effect.Spawn id src input system) stopped
      (record { name = name; free = free; row = row; short = short; system_name = system_name })
      (spawned-ids (with_stop p id).children id stopped.ids name free)
