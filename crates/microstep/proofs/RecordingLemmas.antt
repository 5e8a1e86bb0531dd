-- What is recorded beside what was recorded before.
use Rattle.std.proofs.Common.{◌≡◌, ◌≢◌, ◌<◌, ◌∙◌, ℕ, List, [], ◌∷◌, ◌++◌, length, Option, Some, None, arith, eq-eqb, inl, inr, refl, sym, ap, subst}
use Rattle.std.specs.BTreeMap.{insert_entry}
use Rattle.std.specs.List.Sorted.{IsStrictlyIncreasing}
use Rattle.std.specs.Option.{IsSomeAnd, option_or}
use Rattle.std.specs.Ordering.{nat_cmp}
use Rattle.std.proofs.lemmas.Bool.{cases_eq, ne_eqb}
use Rattle.std.proofs.lemmas.List.Elements.{All-pop}
use Rattle.node_tree.specs.Kinds.{Nodes}
use Rattle.node_tree.specs.Nodes.{AreNodes}
use Rattle.step_sets.specs.Goals.{History, record_of}
use Rattle.step_sets.specs.History.{IsRemembered, RecordsHistory, RecordsNodes, history_nodes}
use Rattle.step_sets.specs.Sets.{IsSetOf}
use Rattle.step_sets.proofs.HistoryLemmas.{All-insert, record_of-insert_other, record_of-insert_same}

-- a record
abbrev Record : Type 0
Record = ℕ × List ℕ

pub or-none : {X : Type 0} (o : Option X) → option_or o None ≡ o
or-none None = refl
or-none (Some x) = refl

-- ---- putting records one by one, the last one first

or-with : {X : Type 0} (a b c : Option X) → option_or (option_or a b) c ≡ option_or a (option_or b c)
or-with None b c = refl
or-with (Some x) b c = refl

here : (r : Record) (h : ℕ) → r.0 ≡ h → record_of (r ∷ []) h ≡ Some r.1
here r h is = rw (eq-eqb r.0 h is) refl

past : (r : Record) (h : ℕ) → r.0 ≢ h → record_of (r ∷ []) h ≡ None
past r h other = rw (ne_eqb r.0 h other) refl

record_of-append : (rs ss : History) (h : ℕ) → record_of (rs ++ ss) h ≡ option_or (record_of rs h) (record_of ss h)
record_of-append [] ss h = refl
record_of-append (r ∷ rs) ss h = elim (cases_eq r.0 h) [
  | inl is ↦ rw (eq-eqb r.0 h is) refl
  | inr other ↦ rw (ne_eqb r.0 h other) (record_of-append rs ss h)
]

record_of-put : (r : Record) (rs : History) (h : ℕ) → record_of (insert_entry nat_cmp rs r.0 r.1) h ≡ option_or (record_of (r ∷ []) h) (record_of rs h)
record_of-put r rs h = elim (cases_eq r.0 h) [
  | inl is ↦ (let At : ℕ → Type 0 = λ n. record_of (insert_entry nat_cmp rs r.0 r.1) n ≡ Some r.1 in
      subst At is (record_of-insert_same rs r.0 r.1) ∙ ap (λ o. option_or o (record_of rs h)) (sym (here r h is)))
  | inr other ↦ record_of-insert_other rs r.0 r.1 h other ∙ ap (λ o. option_or o (record_of rs h)) (sym (past r h other))
]

-- the last record is put in the place of what was there
pub put-last : (rest : History) (r : Record) (rs : History) (h : ℕ)
    → option_or (record_of rest h) (record_of (insert_entry nat_cmp rs r.0 r.1) h) ≡ option_or (record_of (rest ++ r ∷ []) h) (record_of rs h)
put-last rest r rs h =
    ap (λ o. option_or (record_of rest h) o) (record_of-put r rs h)
    ∙ (sym (or-with (record_of rest h) (record_of (r ∷ []) h) (record_of rs h)) ∙ ap (λ o. option_or o (record_of rs h)) (sym (record_of-append rest (r ∷ []) h)))

-- so far these are left to be put, and these are there
pub record IsPut (history before rest now : History) : Type 0 where
  pub same : (h : ℕ) → option_or (record_of rest h) (record_of now h) ≡ option_or (record_of history h) (record_of before h)
  pub named : (nodes : Nodes) → RecordsNodes nodes history → RecordsNodes nodes before → RecordsNodes nodes rest × RecordsNodes nodes now

pub put-start : (history before rest : History) → rest ≡ history → IsPut history before rest before
put-start history before rest is = rw is (record { same = λ h. refl; named = λ nodes a b. (a, b) })

pub put-more : (history before rest left now after : History) (r : Record) → rest ≡ left ++ r ∷ [] → after ≡ insert_entry nat_cmp now r.0 r.1
    → IsPut history before rest now → IsPut history before left after
put-more history before rest left now after r popped put was = record {
  same = λ h. ap (λ list. option_or (record_of left h) (record_of list h)) put ∙ (put-last left r now h ∙ (ap (λ list. option_or (record_of list h) (record_of now h)) (sym popped) ∙ was.same h));
  named = λ nodes a b.
      let P : Record → Type 0 = λ x. (x.0 < length nodes) × AreNodes nodes x.1 in
      let both = was.named nodes a b in
      let split = All-pop P rest left (Some r) popped both.0 in
      (split.0, rw put (All-insert P now r.0 r.1 split.1 both.1));
}

pub all-put : (history before rest now : History) → rest ≡ [] → IsPut history before rest now → (h : ℕ) → record_of now h ≡ option_or (record_of history h) (record_of before h)
all-put history before rest now none was = λ h. ap (λ list. option_or (record_of list h) (record_of now h)) (sym none) ∙ was.same h

-- first the old ones and then the new ones
pub both-put : (old new start first second all : History) → start ≡ [] → ((h : ℕ) → record_of first h ≡ option_or (record_of old h) (record_of start h))
    → ((h : ℕ) → record_of second h ≡ option_or (record_of new h) (record_of first h)) → all ≡ second → (h : ℕ) → record_of all h ≡ option_or (record_of new h) (record_of old h)
both-put old new start first second all none put_old put_new is h =
    ap (λ list. record_of list h) is
    ∙ (put_new h ∙ ap (λ o. option_or (record_of new h) o) (put_old h ∙ (ap (λ list. option_or (record_of old h) (record_of list h)) none ∙ or-none (record_of old h))))

pub none-named : (nodes : Nodes) → RecordsNodes nodes []
none-named nodes = λ k d inside. absurd (omega (arith, inside))

-- ---- the history afterwards

-- where nothing is new, it is as it was
pub nothing-new : (nodes : Nodes) (active exits : List ℕ) (old new : History) → IsStrictlyIncreasing (history_nodes old) → new ≡ []
    → RecordsHistory nodes (record { active = active; exits = exits; recorded = [] }) new → RecordsHistory nodes (record { active = active; exits = exits; recorded = old }) old
nothing-new nodes active exits old new rising none records = record {
  in_order = rising;
  each = λ h. record {
    recorded = λ now. (let At : History → Type 0 = λ list. IsSomeAnd (record_of list h) (IsSetOf (IsRemembered nodes active h)) in absurd (subst At none ((records.each h).recorded now)));
    kept = λ _. refl;
  };
}

-- else what is new, and beside it what was
pub new-beside-old : (nodes : Nodes) (active exits : List ℕ) (old new all : History) → IsStrictlyIncreasing (history_nodes all) → ((h : ℕ) → record_of all h ≡ option_or (record_of new h) (record_of old h))
    → RecordsHistory nodes (record { active = active; exits = exits; recorded = [] }) new → RecordsHistory nodes (record { active = active; exits = exits; recorded = old }) all
new-beside-old nodes active exits old new all rising both records = record {
  in_order = rising;
  each = λ h. record {
    recorded = λ now.
        let P : List ℕ → Type 0 = IsSetOf (IsRemembered nodes active h) in
        let At : Option (List ℕ) → Type 0 = λ o. IsSomeAnd o P in
        subst At (sym (both h)) (first P (record_of new h) (record_of old h) ((records.each h).recorded now));
    kept = λ out. both h ∙ ap (λ o. option_or o (record_of old h)) ((records.each h).kept out);
  };
}
  where
    first : (P : List ℕ → Type 0) (a b : Option (List ℕ)) → IsSomeAnd a P → IsSomeAnd (option_or a b) P
    first P None b some = absurd some
    first P (Some x) b some = some
