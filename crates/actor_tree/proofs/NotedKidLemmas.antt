-- What the notes of a step say of its actor's children, and of those above it.
use Rattle.std.proofs.Common.{◌≡◌, ◌≢◌, inl, inr, ℕ, suc, ◌+◌, ◌<◌, ◌≤◌, Bool, true, false, cond, not, true≢false, List, [], ◌∷◌, ◌++◌, length, map, refl, sym, ap, subst, ◌∙◌, arith}
use Rattle.std.specs.Prelude.{Option, None, Some, filter, nat_eq, unwrap_or, if◌then◌else◌}
use Rattle.std.specs.Map.{lookup}
use Rattle.std.specs.Option.{option_and_then, option_map, option_or}
use Rattle.std.specs.Str.{bytes_eq}
use Rattle.std.proofs.lemmas.Bool.{cases_Bool, eqb-true, eq-eqb, ne_eqb}
use Rattle.std.proofs.lemmas.Slice.Eq.{bytes_eq-Decides}
use Rattle.office_types.specs.declared.office.ActorRecord.{ActorRecord}
use Rattle.office_types.specs.declared.office.OfficeState.{OfficeState}
use Rattle.office_types.specs.Effects.{with_kid, without_kid}
use Rattle.actor_tree.specs.Noted.{AreKidsNoted, Kin, Noted, kid_among, kin_of, next_of, without_record}
use Rattle.actor_tree.proofs.FaceLemmas.{record_number}
use Rattle.actor_tree.proofs.NoteListLemmas.{change_at, look, look_at, look_beside, look_filter, look_join}

-- ---- where the records up to the actor stay as they are to their kin

kid_of : (id : List ℕ) → Option Kin → Option ℕ
kid_of id o = option_and_then (λ (kin : Kin). lookup (bytes_eq id) kin.kids) o

by_kin : (id : List ℕ) (o : Option ActorRecord) → option_and_then (λ (a : ActorRecord). lookup (bytes_eq id) a.kids) o ≡ option_and_then (λ (kin : Kin). lookup (bytes_eq id) kin.kids) (option_map kin_of o)
by_kin id None = refl
by_kin id (Some a) = refl

module _ (before : OfficeState) (actor : ℕ) (notes other : Noted) (actors others : List ActorRecord) (is : AreKidsNoted before actor notes actors) where
  pub kids_kept : next_of before notes ≤ next_of before other → ((id : List ℕ) → other.kids id ≡ notes.kids id) → ((m : ℕ) → m ≤ actor → option_map kin_of (look record_number others m) ≡ option_map kin_of (look record_number actors m)) → AreKidsNoted before actor other others
  kids_kept more kids same = record {
    above = λ m less. same m (omega arith) ∙ is.above m less;
    kids = λ id.
        by_kin id (look record_number others actor) ∙ ap (option_and_then (λ (kin : Kin). lookup (bytes_eq id) kin.kids)) (same actor (omega arith)) ∙ sym (by_kin id (look record_number actors actor))
        ∙ is.kids id ∙ ap (λ (o : Option (Option ℕ)). unwrap_or o (kid_among before.actors actor id)) (sym (kids id));
    after = λ id m e. (let before' = is.after id m (sym (kids id) ∙ e) in (before'.0, omega (arith, before'.1)));
  }

  -- where the actor's children change
  pub kids_changed : ((m : ℕ) → m < actor → look record_number others m ≡ look record_number actors m)
      → ((id : List ℕ) → kid_among others actor id ≡ unwrap_or (other.kids id) (kid_among before.actors actor id)) → ((id : List ℕ) (m : ℕ) → other.kids id ≡ Some (Some m) → (actor < m) × (m < next_of before other))
      → AreKidsNoted before actor other others
  kids_changed same kids after = record { above = λ m less. ap (option_map kin_of) (same m less) ∙ is.above m less; kids = kids; after = after }

-- ---- one less, and one made

pub kin_dropped : (n : ℕ) (actors : List ActorRecord) (m : ℕ) → m ≢ n → look record_number (without_record n actors) m ≡ look record_number actors m
kin_dropped n actors m other =
    look_filter record_number (λ (k : ℕ). not (nat_eq k n)) actors m ∙ ap (λ (b : Bool). if not b then look record_number actors m else None) (ne_eqb m n other)

pub kin_pushed : (fresh : ActorRecord) (actors : List ActorRecord) (m : ℕ) → m ≢ fresh.number → look record_number (actors ++ fresh ∷ []) m ≡ look record_number actors m
kin_pushed fresh actors m other =
    look_join record_number actors (fresh ∷ []) m
    ∙ ap (λ (b : Bool). option_or (look record_number actors m) (cond b (Some fresh) None)) (ne_eqb fresh.number m (λ e. other (sym e))) ∙ or_none (look record_number actors m) where
      or_none : (o : Option ActorRecord) → option_or o None ≡ o
      or_none None = refl
      or_none (Some x) = refl

-- ---- a change that kin don't see

pub kin_changed : (n : ℕ) (change : ActorRecord → ActorRecord) (actors : List ActorRecord) (m : ℕ) → ((a : ActorRecord) → (change a).number ≡ a.number) → ((a : ActorRecord) → kin_of (change a) ≡ kin_of a)
    → option_map kin_of (look record_number (map (change_at record_number n change) actors) m) ≡ option_map kin_of (look record_number actors m)
kin_changed n change actors m number kin = elim (cases_Bool (nat_eq m n)) [
  | inl same ↦
      subst (λ (k : ℕ). option_map kin_of (look record_number (map (change_at record_number n change) actors) k) ≡ option_map kin_of (look record_number actors k)) (sym (eqb-true m n same))
      (ap (option_map kin_of) (look_at record_number n change number actors) ∙ read (look record_number actors n))
  | inr differs ↦ ap (option_map kin_of) (look_beside record_number n m change number actors (λ e. true≢false (sym (eq-eqb m n e) ∙ differs)))
] where
  read : (o : Option ActorRecord) → option_map kin_of (option_map change o) ≡ option_map kin_of o
  read None = refl
  read (Some a) = ap (λ (kin : Kin). Some kin) (kin a)

-- ---- the child of an id

pub same_bytes : (a b : List ℕ) → bytes_eq a b ≡ true → a ≡ b
same_bytes a b is = (bytes_eq-Decides a b).0 is

pub bytes_same : (a b : List ℕ) → a ≡ b → bytes_eq a b ≡ true
bytes_same a b is = (bytes_eq-Decides a b).1 is

pub lookup_push : {X : Type 0} (id other : List ℕ) (x : X) (kids : List (List ℕ × X)) → lookup (bytes_eq id) (kids ++ (other, x) ∷ []) ≡ option_or (lookup (bytes_eq id) kids) (if bytes_eq id other then Some x else None)
lookup_push id other x [] = refl
lookup_push {X} id other x (kid ∷ kids) = by_test (lookup_push id other x kids) (bytes_eq id kid.0) where
  by_test : lookup (bytes_eq id) (kids ++ (other, x) ∷ []) ≡ option_or (lookup (bytes_eq id) kids) (if bytes_eq id other then Some x else None) → (b : Bool)
      → cond b (Some kid.1) (lookup (bytes_eq id) (kids ++ (other, x) ∷ [])) ≡ option_or (cond b (Some kid.1) (lookup (bytes_eq id) kids)) (if bytes_eq id other then Some x else None)
  by_test rest true = refl
  by_test rest false = rest

lookup_without : (id other : List ℕ) (kids : List (List ℕ × ℕ)) → lookup (bytes_eq id) (filter (λ (kid : List ℕ × ℕ). not (bytes_eq kid.0 other)) kids) ≡ (if bytes_eq other id then None else lookup (bytes_eq id) kids)
lookup_without id other [] = nothing (bytes_eq other id) where
  nothing : (b : Bool) → ◌≡◌ {A = Option ℕ} None (cond b None None)
  nothing true = refl
  nothing false = refl
lookup_without id other (kid ∷ kids) = by_tests (lookup_without id other kids) (bytes_eq kid.0 other) (bytes_eq id kid.0) (bytes_eq other id) refl refl refl where
  by_tests : lookup (bytes_eq id) (filter (λ (k : List ℕ × ℕ). not (bytes_eq k.0 other)) kids) ≡ (if bytes_eq other id then None else lookup (bytes_eq id) kids)
      → (b c d : Bool) → bytes_eq kid.0 other ≡ b → bytes_eq id kid.0 ≡ c → bytes_eq other id ≡ d
      → lookup (bytes_eq id) (cond (not b) (kid ∷ filter (λ (k : List ℕ × ℕ). not (bytes_eq k.0 other)) kids) (filter (λ (k : List ℕ × ℕ). not (bytes_eq k.0 other)) kids)) ≡ (if d then None else cond c (Some kid.1) (lookup (bytes_eq id) kids))
  by_tests rest true true true at here same = rest ∙ ap (λ (x : Bool). if x then None else lookup (bytes_eq id) kids) same
  by_tests rest true true false at here same = absurd (true≢false (sym (bytes_same other id (sym (same_bytes id kid.0 here ∙ same_bytes kid.0 other at))) ∙ same))
  by_tests rest true false true at here same = rest ∙ ap (λ (x : Bool). if x then None else lookup (bytes_eq id) kids) same
  by_tests rest true false false at here same = rest ∙ ap (λ (x : Bool). if x then None else lookup (bytes_eq id) kids) same
  by_tests rest false true true at here same = absurd (true≢false (sym (bytes_same kid.0 other (sym (same_bytes other id same ∙ same_bytes id kid.0 here))) ∙ at))
  by_tests rest false true false at here same = ap (λ (x : Bool). cond x (Some kid.1) (lookup (bytes_eq id) (filter (λ (k : List ℕ × ℕ). not (bytes_eq k.0 other)) kids))) here
  by_tests rest false false true at here same =
      ap (λ (x : Bool). cond x (Some kid.1) (lookup (bytes_eq id) (filter (λ (k : List ℕ × ℕ). not (bytes_eq k.0 other)) kids))) here ∙ rest ∙ ap (λ (x : Bool). if x then None else lookup (bytes_eq id) kids) same
  by_tests rest false false false at here same =
      ap (λ (x : Bool). cond x (Some kid.1) (lookup (bytes_eq id) (filter (λ (k : List ℕ × ℕ). not (bytes_eq k.0 other)) kids))) here ∙ rest ∙ ap (λ (x : Bool). if x then None else lookup (bytes_eq id) kids) same

module _ (actor : ℕ) (actors : List ActorRecord) (id : List ℕ) where
  -- a child more
  pub kid_joined : (n : ℕ) (other : List ℕ) → kid_among (map (change_at record_number actor (with_kid id n)) actors) actor other
      ≡ option_or (kid_among actors actor other) (option_and_then (λ (a : ActorRecord). if bytes_eq other id then Some n else None) (look record_number actors actor))
  kid_joined n other = ap (option_and_then (λ (a : ActorRecord). lookup (bytes_eq other) a.kids)) (look_at record_number actor (with_kid id n) (λ a. refl) actors) ∙ read (look record_number actors actor) where
    read : (o : Option ActorRecord) → option_and_then (λ (a : ActorRecord). lookup (bytes_eq other) a.kids) (option_map (with_kid id n) o)
        ≡ option_or (option_and_then (λ (a : ActorRecord). lookup (bytes_eq other) a.kids) o) (option_and_then (λ (a : ActorRecord). if bytes_eq other id then Some n else None) o)
    read None = refl
    read (Some a) = lookup_push other id n a.kids

  -- a child less
  pub kid_left : (other : List ℕ) → kid_among (map (change_at record_number actor (without_kid id)) actors) actor other ≡ (if bytes_eq id other then None else kid_among actors actor other)
  kid_left other = ap (option_and_then (λ (a : ActorRecord). lookup (bytes_eq other) a.kids)) (look_at record_number actor (without_kid id) (λ a. refl) actors) ∙ read (look record_number actors actor) where
    nothing : (b : Bool) → ◌≡◌ {A = Option ℕ} None (cond b None None)
    nothing true = refl
    nothing false = refl

    read : (o : Option ActorRecord) → option_and_then (λ (a : ActorRecord). lookup (bytes_eq other) a.kids) (option_map (without_kid id) o) ≡ (if bytes_eq id other then None else option_and_then (λ (a : ActorRecord). lookup (bytes_eq other) a.kids) o)
    read None = nothing (bytes_eq id other)
    read (Some a) = lookup_without other id a.kids
