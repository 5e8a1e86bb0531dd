-- Named values beside the entries that hold them.
use Rattle.std.proofs.Common.{◌≡◌, ℕ, zero, suc, ◌+◌, not, nat_lt, length, arith, Bool, true, false, cond, List, [], ◌∷◌, ◌++◌, Option, Some, None, Global, bytes_eq, map, position, refl, sym, ap, subst}
use Rattle.std.specs.List.{slice_get, position_or_len}
use Rattle.std.specs.Map.{keys_of, lookup, remove_entry}
use Rattle.std.proofs.lemmas.Bool.Decides.{nat_tests}
use Rattle.std.specs.Option.{option_map}
use Rattle.std.specs.Str.{IsUtf8}
use Rattle.std.specs.Prelude.{String}
use Rattle.std.specs.String.{string_bytes}
use Rattle.std.proofs.lemmas.Bool.{false_from_ne_true}
use Rattle.std.proofs.lemmas.Slice.Eq.{bytes_eq-Decides}
use Rattle.std.proofs.lemmas.Str.{IsUtf8-string_bytes}
use Rattle.indexmap.specs.IndexMap.{insert_entry}
use Rattle.xs_model.specs.Rising.{get}
use Rattle.xs_model.specs.Names.{named_values, without}

-- the entries of a map whose keys are names
abbrev Held : Type 0 → Type 0
Held X = List (String Global × X)

-- whether an entry has this name
abbrev has_name : List ℕ → String Global → Bool
has_name key name = bytes_eq key (string_bytes name)

past_end : (n : ℕ) → cond (nat_lt n n) (Some n) None ≡ None
past_end n = grind (arith, nat_tests)

-- a name is a text, so no name has other bytes
other_name : (key : List ℕ) → (IsUtf8 key → ⊥) → (name : String Global) → has_name key name ≡ false
other_name key no_text name = false_from_ne_true _ (λ same. no_text (subst IsUtf8 (sym ((bytes_eq-Decides key (string_bytes name)).0 same)) (IsUtf8-string_bytes name)))

module _ {X : Type 0} where
  some_is_none : {x : X} → ◌≡◌ {A = Option X} (Some x) None → ⊥
  some_is_none e = cc

  pub get-named_values : (key : List ℕ) (entries : Held X) → lookup (has_name key) entries ≡ get key (named_values entries)
  get-named_values key [] = refl
  get-named_values key (e ∷ entries) = ap (cond (has_name key e.0) (Some e.1)) (get-named_values key entries)

  pub remove-named_values : (key : List ℕ) (entries : Held X) → named_values (remove_entry (has_name key) entries) ≡ without key (named_values entries)
  remove-named_values key [] = refl
  remove-named_values key (e ∷ entries) = cases (remove-named_values key entries) (has_name key e.0)
    where
      cases : named_values (remove_entry (has_name key) entries) ≡ without key (named_values entries) → (b : Bool)
          → named_values (cond b entries (e ∷ remove_entry (has_name key) entries)) ≡ cond b (named_values entries) ((string_bytes e.0, e.1) ∷ without key (named_values entries))
      cases rest true = refl
      cases rest false = ap (λ pairs. (string_bytes e.0, e.1) ∷ pairs) rest

  pub insert-named_values : (entries : Held X) (name : String Global) (x : X) → get (string_bytes name) (named_values entries) ≡ None
      → named_values (insert_entry (λ k l. bytes_eq (string_bytes k) (string_bytes l)) entries name x) ≡ named_values entries ++ (string_bytes name, x) ∷ []
  insert-named_values [] name x none = refl
  insert-named_values (e ∷ entries) name x none = cases (insert-named_values entries name x) (has_name (string_bytes name) e.0) none
    where
      cases : (get (string_bytes name) (named_values entries) ≡ None → named_values (insert_entry (λ k l. bytes_eq (string_bytes k) (string_bytes l)) entries name x) ≡ named_values entries ++ (string_bytes name, x) ∷ []) → (b : Bool)
          → cond b (Some e.1) (get (string_bytes name) (named_values entries)) ≡ None
          → named_values (cond b ((e.0, x) ∷ entries) (e ∷ insert_entry (λ k l. bytes_eq (string_bytes k) (string_bytes l)) entries name x)) ≡ (string_bytes e.0, e.1) ∷ (named_values entries ++ (string_bytes name, x) ∷ [])
      cases rest true none = absurd (some_is_none none)
      cases rest false none = ap (λ pairs. (string_bytes e.0, e.1) ∷ pairs) (rest none)

  pub at-named_values : (entries : Held X) (place : ℕ) → option_map (λ e. (string_bytes e.0, e.1)) (slice_get entries place) ≡ slice_get (named_values entries) place
  at-named_values [] place = refl
  at-named_values (e ∷ entries) zero = refl
  at-named_values (e ∷ entries) (suc place) = at-named_values entries place

  place_or_len : (key : List ℕ) (entries : Held X) → position_or_len (has_name key) (keys_of entries) ≡ position_or_len (λ pair. bytes_eq key pair.0) (named_values entries)
  place_or_len key [] = refl
  place_or_len key (e ∷ entries) = ap (λ place. cond (not (has_name key e.0)) (1 + place) 0) (place_or_len key entries)

  length-keys_of : (entries : Held X) → length (keys_of entries) ≡ length (named_values entries)
  length-keys_of [] = refl
  length-keys_of (e ∷ entries) = ap suc (length-keys_of entries)

  pub place-named_values : (key : List ℕ) (entries : Held X) → position (has_name key) (keys_of entries) ≡ position (λ pair. bytes_eq key pair.0) (named_values entries)
  place-named_values key entries i =
      let place = place_or_len key entries i in cond (nat_lt place (length-keys_of entries i)) (Some place) None

  module _ (key : List ℕ) (no_text : IsUtf8 key → ⊥) where
    pub get-no_text : (entries : Held X) → get key (named_values entries) ≡ None
    get-no_text [] = refl
    get-no_text (e ∷ entries) = rw (other_name key no_text e.0) (get-no_text entries)

    nowhere : (entries : Held X) → position_or_len (λ pair. bytes_eq key pair.0) (named_values entries) ≡ length (named_values entries)
    nowhere [] = refl
    nowhere (e ∷ entries) = rw (other_name key no_text e.0, nowhere entries) (omega arith)

    pub place-no_text : (entries : Held X) → position (λ pair. bytes_eq key pair.0) (named_values entries) ≡ None
    place-no_text entries = rw (nowhere entries) (past_end (length (named_values entries)))

    pub without-no_text : (entries : Held X) → without key (named_values entries) ≡ named_values entries
    without-no_text [] = refl
    without-no_text (e ∷ entries) = rw (other_name key no_text e.0) (ap (λ pairs. (string_bytes e.0, e.1) ∷ pairs) (without-no_text entries))
