-- Maps from names to nodes.
use Rattle.std.proofs.Common.{◌≡◌, ◌<◌, ◌+◌, ℕ, Bool, true, false, cond, ◌&&◌, List, [], ◌∷◌, length, take, get_or, arith, refl, sym, ◌∙◌, ap, below_more}
use Rattle.std.specs.Prelude.{Option, Some, None, MatchOption, is_none, nat_eq}
use Rattle.std.specs.Map.{lookup}
use Rattle.std.specs.BTreeMap.{insert_entry, is_at}
use Rattle.std.specs.Cmp.Lexicographic.{slice_cmp}
use Rattle.std.specs.Ordering.{nat_cmp, is_eq, match_ordering}
use Rattle.std.specs.Str.{bytes_eq}
use Rattle.std.specs.declared.cmp.Ordering.{Ordering}
use Rattle.std.specs.declared.cmp.Ordering.TheVariants.{Less, Equal, Greater}
use Rattle.std.proofs.lemmas.Map.Text.{is_eq-slice_cmp}
use Rattle.std.proofs.lemmas.Slice.Eq.{bytes_eq-Decides}
use Rattle.std.proofs.lemmas.Bool.{false_from_ne_true}
use Rattle.std.specs.Option.{option_and, option_eq, option_or}
use Rattle.node_tree.specs.declared.node.Node.{Node}
use Rattle.node_tree.specs.Nodes.{id_at, child_of, id_of, HasNewId, IsFirstBreach}
use Rattle.node_tree.proofs.PlaceLemmas.{position_more, position_none}
use Rattle.std.proofs.lemmas.Option.{slice_get-get_or}
use Rattle.std.proofs.lemmas.List.{get_or-take, length-take-le}
use Rattle.std.proofs.lemmas.List.Quantifiers.{position-Some}

cond_twice : (b : Bool) (x y z : Option ℕ) → cond b x (cond b y z) ≡ cond b x z
cond_twice true x y z = refl
cond_twice false x y z = refl

cond_swap : (b c : Bool) (x y z : Option ℕ) → (b ≡ true → c ≡ true → ⊥) → cond b x (cond c y z) ≡ cond c y (cond b x z)
cond_swap true true x y z h = absurd (h refl refl)
cond_swap true false x y z h = refl
cond_swap false c x y z h = refl

module _ {K : Type 0} (view : K → List ℕ) where
  -- the comparison of two keys by their names
  abbrev by_name : K → K → Ordering
  by_name x y = slice_cmp nat_cmp (view x) (view y)

  -- the entry that a name finds
  abbrev found_by : List ℕ → List (K × ℕ) → Option ℕ
  found_by q es = lookup (is_at (λ held. slice_cmp nat_cmp q (view held))) es

  same_name : (x y : List ℕ) → is_eq (slice_cmp nat_cmp x y) ≡ true → x ≡ y
  same_name x y h = (bytes_eq-Decides x y).0 (sym (is_eq-slice_cmp x y) ∙ h)

  name_is : (x y : List ℕ) → x ≡ y → is_eq (slice_cmp nat_cmp x y) ≡ true
  name_is x y h = is_eq-slice_cmp x y ∙ (bytes_eq-Decides x y).1 h

  inserted : (e : K × ℕ) (es later : List (K × ℕ)) (k : K) (v : ℕ) (q : List ℕ) → found_by q later ≡ cond (bytes_eq q (view k)) (Some v) (found_by q es) → (o : Ordering) → by_name k e.0 ≡ o → found_by q (match_ordering o ((k, v) ∷ e ∷ es) ((e.0, v) ∷ es) (e ∷ later)) ≡ cond (bytes_eq q (view k)) (Some v) (found_by q (e ∷ es))
  inserted e es later k v q step Less o = rw (is_eq-slice_cmp q (view k)) refl
  inserted e es later k v q step Equal o =
      let same : view k ≡ view e.0 = same_name (view k) (view e.0) (ap is_eq o) in
      rw (same, is_eq-slice_cmp q (view e.0)) (sym (cond_twice (bytes_eq q (view e.0)) (Some v) (Some e.1) (found_by q es)))
  inserted e es later k v q step Greater o =
      rw step (cond_swap (is_eq (slice_cmp nat_cmp q (view e.0))) (bytes_eq q (view k)) (Some e.1) (Some v) (found_by q es)
      (λ at_e at_k.
      let to_e : q ≡ view e.0 = same_name q (view e.0) at_e in
      let to_k : q ≡ view k = (bytes_eq-Decides q (view k)).0 at_k in
      let equal : is_eq (by_name k e.0) ≡ true = name_is (view k) (view e.0) (sym to_k ∙ to_e) in
      let greater : is_eq (by_name k e.0) ≡ false = ap is_eq o in
      cc))

  -- what a name finds once an entry is inserted
  pub lookup-insert_entry : (es : List (K × ℕ)) (k : K) (v : ℕ) (q : List ℕ) → found_by q (insert_entry by_name es k v) ≡ cond (bytes_eq q (view k)) (Some v) (found_by q es)
  lookup-insert_entry [] k v q = rw (is_eq-slice_cmp q (view k)) refl
  lookup-insert_entry (e ∷ es) k v q = inserted e es (insert_entry by_name es k v) k v q (lookup-insert_entry es k v q) (by_name k e.0) refl

and_false : (b : Bool) → (b && false) ≡ false
and_false true = refl
and_false false = refl

-- a name that is entered unless it is there is one that is found unless it was found before
entered_at : (f : List ℕ → Option ℕ) (name q : List ℕ) (n : ℕ) (b : Bool) → bytes_eq q name ≡ b → cond (is_none (f name) && bytes_eq q name) (Some n) (f q) ≡ cond (is_none (f q) && bytes_eq name q) (Some n) (f q)
entered_at f name q n true is = let same : q ≡ name = (bytes_eq-Decides q name).0 is in rw same refl
entered_at f name q n false is =
    let back : bytes_eq name q ≡ false = false_from_ne_true (bytes_eq name q) (λ yes_is. let there = (bytes_eq-Decides q name).1 (sym ((bytes_eq-Decides name q).0 yes_is)) in cc) in
    rw (is, back, and_false (is_none (f name)), and_false (is_none (f q))) refl

-- the ids of one more row, once its id is entered
pub id_entered : (nodes : List Node) (n : ℕ) (node : Node) (name : List ℕ) (old new : List ℕ → Option ℕ) → n < length nodes → node ≡ get_or nodes n node → name ≡ (get_or nodes n node).id
    → ((q : List ℕ) → old q ≡ id_at (take n nodes) q) → ((q : List ℕ) → new q ≡ cond (is_none (old name) && bytes_eq q name) (Some n) (old q))
    → (q : List ℕ) → new q ≡ id_at (take (n + 1) nodes) q
id_entered nodes n node name old new inside is named was now q =
    now q ∙ entered_at old name q n (bytes_eq q name) refl
    ∙ ap (λ o. cond (is_none o && bytes_eq name q) (Some n) o) (was q)
    ∙ ap (λ m. cond (is_none (id_at (take n nodes) q) && bytes_eq m q) (Some n) (id_at (take n nodes) q)) named
    ∙ sym (position_more (λ x. bytes_eq x.id q) nodes n node inside)

-- whether a node is a child of another one
abbrev has_parent : ℕ → Node → Bool
has_parent m node = option_eq nat_eq node.parent (Some m)

-- the children of a node among the rows, where one more row is none
pub child_elsewhere : (nodes : List Node) (n : ℕ) (node : Node) (m : ℕ) → n < length nodes → node ≡ get_or nodes n node → has_parent m node ≡ false → (q : List ℕ) → child_of (take n nodes) m q ≡ child_of (take (n + 1) nodes) m q
child_elsewhere nodes n node m inside is other q =
    let was : Option ℕ = child_of (take n nodes) m q in
    sym (position_more (λ x. has_parent m x && bytes_eq x.key q) nodes n node inside
    ∙ ap (λ (x : Node). cond (is_none was && (has_parent m x && bytes_eq x.key q)) (Some n) was) (sym is)
    ∙ ap (λ b. cond (is_none was && (b && bytes_eq node.key q)) (Some n) was) other
    ∙ ap (λ b. cond b (Some n) was) (and_false (is_none was)))

-- the children of a node among the rows, once the key of one more is entered
pub key_entered : (nodes : List Node) (n : ℕ) (node : Node) (m : ℕ) (name : List ℕ) (old new : List ℕ → Option ℕ) → n < length nodes → node ≡ get_or nodes n node → has_parent m node ≡ true → name ≡ node.key
    → ((q : List ℕ) → old q ≡ child_of (take n nodes) m q) → ((q : List ℕ) → new q ≡ cond (is_none (old name) && bytes_eq q name) (Some n) (old q))
    → (q : List ℕ) → new q ≡ child_of (take (n + 1) nodes) m q
key_entered nodes n node m name old new inside is here named was now q =
    let before : Option ℕ = child_of (take n nodes) m q in
    now q ∙ entered_at old name q n (bytes_eq q name) refl
    ∙ ap (λ o. cond (is_none o && bytes_eq name q) (Some n) o) (was q)
    ∙ ap (λ k. cond (is_none before && bytes_eq k q) (Some n) before) named
    ∙ ap (λ b. cond (is_none before && (b && bytes_eq node.key q)) (Some n) before) (sym here)
    ∙ ap (λ (x : Node). cond (is_none before && (has_parent m x && bytes_eq x.key q)) (Some n) before) is
    ∙ sym (position_more (λ x. has_parent m x && bytes_eq x.key q) nodes n node inside)

id_read : (nodes : List Node) (n : ℕ) (d : Node) → n < length nodes → id_of nodes n ≡ Some (get_or nodes n d).id
id_read nodes n d inside = rw (slice_get-get_or nodes n d inside) refl

-- two rows have one id exactly where the ids compare equal
same_ids : (nodes : List Node) (k n : ℕ) (node : Node) → k < n → n < length nodes → node ≡ get_or nodes n node → (id_of nodes k ≡ id_of nodes n → bytes_eq (get_or (take n nodes) k node).id node.id ≡ true) × (bytes_eq (get_or (take n nodes) k node).id node.id ≡ true → id_of nodes k ≡ id_of nodes n)
same_ids nodes k n node less inside is =
    let at_k : id_of nodes k ≡ Some (get_or (take n nodes) k node).id = id_read nodes k node (omega arith) ∙ ap (λ (x : Node). Some x.id) (sym (get_or-take n nodes k node less)) in
    let at_n : id_of nodes n ≡ Some node.id = id_read nodes n node inside ∙ ap (λ (x : Node). Some x.id) (sym is) in (
      (λ same. let equal : (get_or (take n nodes) k node).id ≡ node.id = cc in (bytes_eq-Decides _ _).1 equal),
      (λ equal. at_k ∙ ap Some ((bytes_eq-Decides _ _).0 equal) ∙ sym at_n),
    )

-- an id that no earlier row is found by is new
pub id_is_new : (nodes : List Node) (n : ℕ) (node : Node) → n < length nodes → node ≡ get_or nodes n node → id_at (take n nodes) node.id ≡ None → HasNewId nodes n
id_is_new nodes n node inside is none earlier less same =
    let fails = position_none (λ x. bytes_eq x.id node.id) (take n nodes) none earlier node (rw (length-take-le n nodes (omega arith)) less) in
    let passes = (same_ids nodes earlier n node less inside is).0 same in
    cc

-- an id that an earlier row is found by is not new
pub id_is_old : (nodes : List Node) (n : ℕ) (node : Node) (k : ℕ) → n < length nodes → node ≡ get_or nodes n node → id_at (take n nodes) node.id ≡ Some k → HasNewId nodes n → ⊥
id_is_old nodes n node k inside is found fresh =
    let at = position-Some (λ x. bytes_eq x.id node.id) (take n nodes) k node found in
    let less : k < n = rw (length-take-le n nodes (omega arith)) at at.0 in
    fresh k less ((same_ids nodes k n node less inside is).1 at.1)

-- the first row before a number whose id an earlier one has, or none
abbrev pub RepeatsBefore : List Node → ℕ → Option ℕ → Type 0
RepeatsBefore nodes end repeated =
    MatchOption repeated ((k : ℕ) → k < end → HasNewId nodes k) (IsFirstBreach (HasNewId nodes) end)

-- one more row, by whether an earlier one has its id
pub repeats_next : (nodes : List Node) (n : ℕ) (node : Node) (repeated before : Option ℕ) → n < length nodes → node ≡ get_or nodes n node
    → id_at (take n nodes) node.id ≡ before → RepeatsBefore nodes n repeated → RepeatsBefore nodes (n + 1) (option_or repeated (option_and before (Some n)))
repeats_next nodes n node (Some k) before inside is there first = record { inside = let less = first.inside in omega arith; broken = first.broken; before = first.before }
repeats_next nodes n node None None inside is none fresh = below_more (HasNewId nodes) n fresh (id_is_new nodes n node inside is none)
repeats_next nodes n node None (Some k) inside is found fresh = record { inside = omega arith; broken = id_is_old nodes n node k inside is found; before = fresh }
