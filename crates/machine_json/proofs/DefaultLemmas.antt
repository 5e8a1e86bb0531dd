-- The rows of a tree with the defaults that its text names.
use Rattle.std.proofs.Common.{◌≡◌, ◌≢◌, ◌↔◌, ◌+◌, ◌<◌, ◌≤◌, ℕ, zero, suc, Bool, true, false, List, [], ◌∷◌, ◌++◌, Option, None, Some, length, refl, sym, ap, ◌∙◌, subst, arith, inl, inr, length-set, length-append}
use Rattle.std.specs.Prelude.{IfSome, IsTrue, option_map, slice_get, slice_set}
use Rattle.std.proofs.lemmas.Bool.{cases_lt}
use Rattle.std.proofs.lemmas.Bool.Decides.{eqb_tells}
use Rattle.std.proofs.lemmas.Option.{slice_get_cases, slice_get_past, slice_get_within, same_Some}
use Rattle.node_tree.specs.declared.node.Kind.{Kind}
use Rattle.node_tree.specs.declared.node.Kind.TheVariants.{Atomic, Compound, Parallel, Final, Shallow, Deep}
use Rattle.node_tree.specs.declared.node.Node.{Node}
use Rattle.node_tree.specs.Kinds.{IsHistoryKind, with_default}
use Rattle.node_tree.specs.Nodes.{HaveNewIds, id_of}
use Rattle.machine_json.specs.declared.fault.MachineFault.{MachineFault}
use Rattle.machine_json.specs.declared.fault.MachineFault.TheVariants.{DoubleId}
use Rattle.machine_json.specs.Machines.{IsTreeOf, named_default, row_with_default, with_named_default}
use Rattle.machine_json.specs.Nodes.{NodeParts}
use Rattle.machine_json.specs.Rows.{id_place, open_rows}
use Rattle.machine_json.specs.SecondPass.{IsDoubleId}
use Rattle.machine_json.proofs.DocumentLemmas.{slice_get-left}
use Rattle.machine_json.proofs.InvocationLemmas.{push_cases}
use Rattle.machine_json.proofs.OutlineLemmas.{item_at, length_rows}
use Rattle.machine_json.proofs.RowLemmas.{slice_get-set_other, slice_get-set_same}

-- ---- one row

-- a kind that is no history node's has no default
kept_kind : (kind : Kind) (is_history : Bool) (d : ℕ) → IsTrue is_history ↔ IsHistoryKind kind → is_history ≡ false → with_default kind d ≡ kind
kept_kind Atomic b d tells is = refl
kept_kind (Compound initial) b d tells is = refl
kept_kind Parallel b d tells is = refl
kept_kind Final b d tells is = refl
kept_kind (Shallow default) true d tells is = cc
kept_kind (Shallow default) false d tells is = let both : false ≡ true = tells.1 tt in absurd (cc)
kept_kind (Deep default) true d tells is = cc
kept_kind (Deep default) false d tells is = let both : false ≡ true = tells.1 tt in absurd (cc)

set_same : (rows : List Node) (n : ℕ) (row : Node) → slice_get rows n ≡ Some row → rows ≡ slice_set rows n row
set_same [] n row at = refl
set_same (x ∷ rows) zero row at = ap (λ (r : Node). r ∷ rows) (same_Some x row at)
set_same (x ∷ rows) (suc n) row at = ap (λ (l : List Node). x ∷ l) (set_same rows n row at)

-- a row that is no history node's stays
pub no_history_set : (rows : List Node) (n d : ℕ) (row node : Node) (named : Option ℕ) (is_history : Bool) → slice_get rows n ≡ Some row → slice_get rows n ≡ Some node
    → named ≡ Some d → IsTrue is_history ↔ IsHistoryKind node.kind → is_history ≡ false → rows ≡ slice_set rows n (row_with_default named row)
no_history_set rows n d row node named b row_is node_is is_named tells is =
    let same : node ≡ row = same_Some node row (sym node_is ∙ row_is) in
    let kept : IsTrue b ↔ IsHistoryKind row.kind = subst (λ (r : Node). IsTrue b ↔ IsHistoryKind r.kind) same tells in
    let row_kept : row_with_default named row ≡ row =
    ap (λ (o : Option ℕ). row_with_default o row) is_named ∙ ap (λ (k : Kind). record row { kind = k }) (kept_kind row.kind b d kept is) in
    set_same rows n row row_is ∙ ap (slice_set rows n) (sym row_kept)

-- a row without a named default stays
pub unnamed_set : (rows : List Node) (n : ℕ) (row : Node) (named : Option ℕ) → slice_get rows n ≡ Some row → named ≡ None
    → rows ≡ slice_set rows n (row_with_default named row)
unnamed_set rows n row named row_is none_is =
    set_same rows n row row_is ∙ ap (λ (o : Option ℕ). slice_set rows n (row_with_default o row)) (sym none_is)

-- ---- one row after another

-- the rows up to a place have their defaults
pub record HaveDefaultsUpTo (rows : List Node) (defaults : List (Option ℕ)) (n : ℕ) (now : List Node) : Type 0 where
  pub count : length now ≡ length rows
  pub done : (k : ℕ) (row : Node) (d : Option ℕ) → k < n → slice_get rows k ≡ Some row → slice_get defaults k ≡ Some d
      → slice_get now k ≡ Some (row_with_default d row)
  pub left : (k : ℕ) → n ≤ k → slice_get now k ≡ slice_get rows k

pub none_set : (rows : List Node) (defaults : List (Option ℕ)) → HaveDefaultsUpTo rows defaults 0 rows
none_set rows defaults = record {
  count = refl;
  done = λ k row d before at d_at. absurd (omega arith);
  left = λ k from. refl;
}

-- a row of a list that has one at the place
row_there : (rows : List Node) (n : ℕ) → n < length rows → (row : Node) × (slice_get rows n ≡ Some row)
row_there rows n inside = elim (slice_get_cases rows n).1 [ inl found ↦ (found.0, found.2) | inr past ↦ absurd (omega (arith, past.0)) ]

pub one_more_set : (rows now new : List Node) (defaults : List (Option ℕ)) (n : ℕ) (named : Option ℕ) → n < length rows → slice_get defaults n ≡ Some named
    → HaveDefaultsUpTo rows defaults n now
    → ((row : Node) → slice_get now n ≡ Some row → new ≡ slice_set now n (row_with_default named row))
    → HaveDefaultsUpTo rows defaults (n + 1) new
one_more_set rows now new defaults n named inside named_at before sets =
    let there = row_there rows n inside in
    let here : slice_get now n ≡ Some there.0 = before.left n (omega arith) ∙ there.1 in
    let is_new : new ≡ slice_set now n (row_with_default named there.0) = sets there.0 here in
    let in_now : n < length now = rw before.count inside in
    record {
      count = ap length is_new ∙ length-set now n (row_with_default named there.0) ∙ before.count;
      done = λ k row d upto at d_at. elim (eqb_tells k n) [
        | inl own ↦
            let row_is : there.0 ≡ row = same_Some there.0 row (sym there.1 ∙ ap (slice_get rows) (sym own.1) ∙ at) in
            let d_is : named ≡ d = same_Some named d (sym named_at ∙ ap (slice_get defaults) (sym own.1) ∙ d_at) in
            ap (slice_get new) own.1 ∙ ap (λ (l : List Node). slice_get l n) is_new
            ∙ slice_get-set_same now n (row_with_default named there.0) in_now
            ∙ ap (λ (o : Option ℕ). Some (row_with_default o there.0)) d_is ∙ ap (λ (r : Node). Some (row_with_default d r)) row_is
        | inr other ↦
            let apart : k ≢ n = other.1 in
            let earlier : k < n = elim (cases_lt k n) [ inl less ↦ less | inr more ↦ absurd (apart (omega arith)) ] in
            ap (λ (l : List Node). slice_get l k) is_new ∙ slice_get-set_other now n k (row_with_default named there.0) apart
            ∙ before.done k row d earlier at d_at
      ];
      left = λ k from.
          let apart : k ≢ n = λ same. let same_is : k ≡ n = same in omega arith in
          ap (λ (l : List Node). slice_get l k) is_new ∙ slice_get-set_other now n k (row_with_default named there.0) apart ∙ before.left k (omega arith);
    }

-- ---- ids

-- a default changes no id
id_kept : (row : Node) (d : Option ℕ) → (row_with_default d row).id ≡ row.id
id_kept row None = refl
id_kept row (Some d) = refl

default_there : (defaults : List (Option ℕ)) (n : ℕ) → n < length defaults → (d : Option ℕ) × (slice_get defaults n ≡ Some d)
default_there defaults n inside = elim (slice_get_cases defaults n).1 [ inl found ↦ (found.0, found.2) | inr past ↦ absurd (omega (arith, past.0)) ]

ids_kept : (rows now : List Node) (defaults : List (Option ℕ)) (n : ℕ) → length rows ≤ n → length defaults ≡ length rows → HaveDefaultsUpTo rows defaults n now
    → (k : ℕ) → id_of now k ≡ id_of rows k
ids_kept rows now defaults n past count have k = elim (cases_lt k (length rows)) [
  | inl inside ↦
      let row = row_there rows k inside in
      let d = default_there defaults k (omega arith) in
      ap (option_map (λ (r : Node). r.id)) (have.done k row.0 d.0 (omega arith) row.1 d.1) ∙ ap Some (id_kept row.0 d.0)
      ∙ sym (ap (option_map (λ (r : Node). r.id)) row.1)
  | inr outside ↦
      let now_past : length now ≤ k = rw have.count outside in
      ap (option_map (λ (r : Node). r.id)) (slice_get_past now k now_past ∙ sym (slice_get_past rows k outside))
]

pub new_ids_kept : (rows now : List Node) (defaults : List (Option ℕ)) (n : ℕ) → length rows ≤ n → length defaults ≡ length rows → HaveDefaultsUpTo rows defaults n now
    → HaveNewIds rows → HaveNewIds now
new_ids_kept rows now defaults n past count have new k inside earlier before same =
    let in_rows : k < length rows = subst (λ m. k < m) have.count inside in
    new k in_rows earlier before (sym (ids_kept rows now defaults n past count have earlier) ∙ same ∙ ids_kept rows now defaults n past count have k)

-- where no id stands twice, each is new
pub ids_new : (nodes : List NodeParts) → ((fault : MachineFault) → IsDoubleId nodes fault → ⊥) → HaveNewIds (open_rows nodes)
ids_new nodes none n inside earlier before same =
    let at = item_at nodes n (subst (λ m. n < m) (length_rows nodes) inside) in
    none (DoubleId (id_place at.0)) (n, earlier, at.0, before, at.1, sym same, refl)

-- ---- the tree

pub tree_made : (nodes : List NodeParts) (rows now : List Node) (defaults : List (Option ℕ)) (n : ℕ) → rows ≡ open_rows nodes → length rows ≤ n
    → HaveDefaultsUpTo rows defaults n now
    → ((k : ℕ) (node : NodeParts) → slice_get nodes k ≡ Some node → slice_get defaults k ≡ Some (named_default rows k node))
    → IsTreeOf nodes now
tree_made nodes rows now defaults n is_rows past have named = record {
  count = have.count ∙ ap length is_rows ∙ length_rows nodes;
  rows = λ k node row node_at row_at.
      let in_rows : slice_get rows k ≡ Some row = ap (λ (l : List Node). slice_get l k) is_rows ∙ row_at in
      let inside : k < length rows = slice_get_within rows k row in_rows in
      have.done k row (named_default rows k node) (omega arith) in_rows (named k node node_at)
      ∙ ap (λ (l : List Node). Some (with_named_default l k row node)) is_rows;
}

-- ---- the named defaults, one after another

-- those up to a place
pub record AreNamedUpTo (rows : List Node) (nodes : List NodeParts) (n : ℕ) (defaults : List (Option ℕ)) : Type 0 where
  pub count : length defaults ≡ n
  pub each : (k : ℕ) (node : NodeParts) → k < n → slice_get nodes k ≡ Some node → slice_get defaults k ≡ Some (named_default rows k node)
  pub inside : (k d : ℕ) → slice_get defaults k ≡ Some (Some d) → d < length rows

slice_get-pushed : {X : Type 0} (xs : List X) (x : X) → slice_get (xs ++ x ∷ []) (length xs) ≡ Some x
slice_get-pushed [] x = refl
slice_get-pushed (y ∷ xs) x = slice_get-pushed xs x

pub one_more_named : (rows : List Node) (nodes : List NodeParts) (n : ℕ) (node : NodeParts) (defaults new : List (Option ℕ)) (named : Option ℕ) → slice_get nodes n ≡ Some node
    → new ≡ defaults ++ named ∷ [] → named ≡ named_default rows n node → IfSome named (λ d. d < length rows)
    → AreNamedUpTo rows nodes n defaults → AreNamedUpTo rows nodes (n + 1) new
one_more_named rows nodes n node defaults new named at is_new is_named inside before = record {
  count = ap length is_new ∙ length-append defaults (named ∷ []) ∙ ap (λ m. m + 1) before.count;
  each = λ k x upto x_at. elim (cases_lt k n) [
    | inl earlier ↦ ap (λ (l : List (Option ℕ)). slice_get l k) is_new ∙ slice_get-left defaults (named ∷ []) k (named_default rows k x) (before.each k x earlier x_at)
    | inr from ↦
        let same : n ≡ k = omega arith in
        let same_node : node ≡ x = same_Some node x (sym at ∙ ap (slice_get nodes) same ∙ x_at) in
        ap (λ (l : List (Option ℕ)). slice_get l k) is_new ∙ ap (slice_get (defaults ++ named ∷ [])) (sym same ∙ sym before.count)
        ∙ slice_get-pushed defaults named ∙ ap Some is_named ∙ ap (λ m. Some (named_default rows m node)) same
        ∙ ap (λ (y : NodeParts). Some (named_default rows k y)) same_node
  ];
  inside = λ k d d_at. elim (push_cases defaults named k (Some d) (ap (λ (l : List (Option ℕ)). slice_get l k) (sym is_new) ∙ d_at)) [
    | inl earlier ↦ before.inside k d earlier.1
    | inr last ↦ subst (λ (o : Option ℕ). IfSome o (λ m. m < length rows)) last.1 inside
  ];
}

-- a default that is there is a row
pub named_inside : (rows now : List Node) (defaults : List (Option ℕ)) (n : ℕ) (named : Option ℕ) → length now ≡ length rows → slice_get defaults n ≡ Some named
    → ((k d : ℕ) → slice_get defaults k ≡ Some (Some d) → d < length rows) → IfSome named (λ d. d < length now)
named_inside rows now defaults n None count at inside = tt
named_inside rows now defaults n (Some d) count at inside = rw count (inside n d at)
