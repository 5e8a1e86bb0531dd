-- Where nodes stand in a tree.
use Rattle.std.proofs.Common.{◌≡◌, ◌<◌, ◌⊎◌, ℕ, zero, suc, List, length, Option, Some, None, arith, inl, inr, sym, subst, refl}
use Rattle.std.specs.Prelude.{slice_get}
use Rattle.std.proofs.lemmas.Bool.{cases_eq}
use Rattle.std.specs.Option.{IsSomeAnd, option_and_then, option_map}
use Rattle.node_tree.specs.Kinds.{IsHistory, IsHistoryKind, kind_of}
use Rattle.std.proofs.lemmas.Option.{slice_get_within}
use Rattle.node_tree.specs.declared.node.Kind.{Kind}
use Rattle.node_tree.specs.declared.node.Kind.TheVariants.{Compound}
use Rattle.node_tree.specs.declared.node.Node.{Node}
use Rattle.node_tree.specs.Nodes.{IsTree, NamesNodes, IsPlaced, IsChild, IsBelow, IsWithin, parent_of, child, further}

-- a node with a parent is a node of the tree
pub child_inside : (nodes : List Node) (n p : ℕ) → IsChild nodes n p → n < length nodes
child_inside nodes n p c = inside (slice_get nodes n) refl c
  where
    inside : (o : Option Node) → slice_get nodes n ≡ o → option_and_then (λ (node : Node). node.parent) o ≡ Some p → n < length nodes
    inside None is h = absurd cc
    inside (Some node) is h = slice_get_within nodes n node is

child_from : (nodes : List Node) (n p : ℕ) → IsPlaced nodes n → IsChild nodes n p → ((low high : ℕ) → low < n → IsBelow nodes low high → high < low) → p < n
child_from nodes zero p placed c rec = absurd cc
child_from nodes (suc before) p placed c rec =
    let same : placed.0 ≡ p = cc in
    elim placed.2 [ inl e ↦ omega arith | inr b ↦ (let less = rec before placed.0 (omega arith) b in omega arith) ]

below_less_within : (nodes : List Node) → IsTree nodes → (fuel low high : ℕ) → low < fuel → IsBelow nodes low high → high < low
below_less_within nodes tree zero low high h b = absurd (omega arith)
below_less_within nodes tree (suc fuel) l0 h0 h (child low high c) =
    child_from nodes low high (tree.outline.rows low (child_inside nodes low high c)).placed c (λ l k less b. below_less_within nodes tree fuel l k (omega arith) b)
below_less_within nodes tree (suc fuel) l0 h0 h (further low parent high c b) =
    let first = child_from nodes low parent (tree.outline.rows low (child_inside nodes low parent c)).placed c (λ l k less b'. below_less_within nodes tree fuel l k (omega arith) b') in
    let rest = below_less_within nodes tree fuel parent high (omega arith) b in
    omega arith

-- what a node is below stands before it
pub below_less : (nodes : List Node) → IsTree nodes → (low high : ℕ) → IsBelow nodes low high → high < low
below_less nodes tree low high b = below_less_within nodes tree (suc low) low high (omega arith) b

-- one node has one parent
pub one_parent : (nodes : List Node) (n p q : ℕ) → IsChild nodes n p → IsChild nodes n q → p ≡ q
one_parent nodes n p q c d = cc

-- what is below a node is its parent or is above it
pub above_child : (nodes : List Node) (l h : ℕ) → IsBelow nodes l h → (p : ℕ) × IsChild nodes l p × IsWithin nodes p h
above_child nodes l h (child low high c) = (high, c, inl refl)
above_child nodes l h (further low parent high c b) = (parent, c, inr b)

-- the same, at a parent that is known
pub above_parent : (nodes : List Node) (l p h : ℕ) → IsChild nodes l p → IsBelow nodes l h → IsWithin nodes p h
above_parent nodes l p h c b =
    let (q, d, w) = above_child nodes l h b in
    let P : ℕ → Type 0 = λ x. IsWithin nodes x h in
    subst P (one_parent nodes l q p d c) w

-- a parent stands before its child
pub parent_less : (nodes : List Node) → IsTree nodes → (n p : ℕ) → IsChild nodes n p → p < n
parent_less nodes tree n p c = below_less nodes tree n p (child n p c)

pub parent_inside : (nodes : List Node) → IsTree nodes → (n p : ℕ) → IsChild nodes n p → p < length nodes
parent_inside nodes tree n p c =
    let less = parent_less nodes tree n p c in
    let inside = child_inside nodes n p c in
    omega arith

-- the parent of what is below, or the same, is above
pub below_parent : (nodes : List Node) (l h p : ℕ) → IsBelow nodes l h → IsChild nodes h p → IsBelow nodes l p
below_parent nodes l0 h0 p (child low high c) d = further low high p c (child high p d)
below_parent nodes l0 h0 p (further low parent high c b) d = further low parent p c (below_parent nodes parent high p b d)

pub within_parent : (nodes : List Node) (l h p : ℕ) → IsWithin nodes l h → IsChild nodes h p → IsBelow nodes l p
within_parent nodes l h p (inl e) d = let P : ℕ → Type 0 = λ x. IsBelow nodes x p in subst P (sym e) (child h p d)
within_parent nodes l h p (inr b) d = below_parent nodes l h p b d

-- what is below a node is a node of the tree
pub below_inside : (nodes : List Node) (l h : ℕ) → IsBelow nodes l h → l < length nodes
below_inside nodes l h (child low high c) = child_inside nodes low high c
below_inside nodes l h (further low parent high c b) = child_inside nodes low parent c

-- "below" is transitive
pub below_trans : (nodes : List Node) (l m h : ℕ) → IsBelow nodes l m → IsBelow nodes m h → IsBelow nodes l h
below_trans nodes l0 m0 h (child low high c) b = further low high h c b
below_trans nodes l0 m0 h (further low parent high c b') b = further low parent h c (below_trans nodes parent high h b' b)

pub within_below : (nodes : List Node) (l m h : ℕ) → IsWithin nodes l m → IsBelow nodes m h → IsBelow nodes l h
within_below nodes l m h (inl e) b = rw e b
within_below nodes l m h (inr w) b = below_trans nodes l m h w b

pub within_trans : (nodes : List Node) (l m h : ℕ) → IsWithin nodes l m → IsWithin nodes m h → IsWithin nodes l h
within_trans nodes l m h v (inl e) = let P : ℕ → Type 0 = λ x. IsWithin nodes l x in subst P e v
within_trans nodes l m h v (inr b) = inr (within_below nodes l m h v b)

-- no node is below itself
pub below_itself : (nodes : List Node) → IsTree nodes → (n : ℕ) → ¬ IsBelow nodes n n
below_itself nodes tree n b = let less = below_less nodes tree n n b in omega arith

-- of two nodes above one, the one is the other or below it, or above it
comparable_below : (nodes : List Node) (l a b : ℕ) → IsBelow nodes l a → IsBelow nodes l b → IsWithin nodes a b ⊎ IsBelow nodes b a
comparable_below nodes l0 a0 b (child low high c) below = inl (above_parent nodes low high b c below)
comparable_below nodes l0 a0 b (further low parent high c above) below =
    elim (above_parent nodes low parent b c below) [
      | inl e ↦ inr (let P : ℕ → Type 0 = λ x. IsBelow nodes x high in subst P e above)
      | inr rest ↦ comparable_below nodes parent high b above rest
    ]

pub comparable : (nodes : List Node) (l a b : ℕ) → IsWithin nodes l a → IsWithin nodes l b → IsWithin nodes a b ⊎ IsBelow nodes b a
comparable nodes l a b (inl e) v = inl (let P : ℕ → Type 0 = λ x. IsWithin nodes x b in subst P e v)
comparable nodes l a b (inr below) (inl e) = inr (let P : ℕ → Type 0 = λ x. IsBelow nodes x a in subst P e below)
comparable nodes l a b (inr below) (inr below') = comparable_below nodes l a b below below'

child_not_below_child : (nodes : List Node) → IsTree nodes → (m n c : ℕ) → IsChild nodes m c → IsChild nodes n c → ¬ IsBelow nodes m n
child_not_below_child nodes tree m n c cm cn b =
    let less = parent_less nodes tree n c cn in
    elim (above_parent nodes m c n cm b) [
      | inl e ↦ omega arith
      | inr up ↦ (let more = below_less nodes tree c n up in omega arith)
    ]

-- one child of a node leads down to another node
pub path_child_unique : (nodes : List Node) → IsTree nodes → (g m n c : ℕ) → IsChild nodes m c → IsChild nodes n c → IsWithin nodes g m → IsWithin nodes g n → m ≡ n
path_child_unique nodes tree g m n c cm cn gm gn =
    elim (comparable nodes g m n gm gn) [
      | inl w ↦ elim w [ inl e ↦ e | inr b ↦ absurd (child_not_below_child nodes tree m n c cm cn b) ]
      | inr b ↦ absurd (child_not_below_child nodes tree n m c cn cm b)
    ]

-- the root is no child
pub root_no_child : (nodes : List Node) → IsTree nodes → (p : ℕ) → ¬ IsChild nodes 0 p
root_no_child nodes tree p c = let less = parent_less nodes tree 0 p c in omega arith

pub root_not_below : (nodes : List Node) → IsTree nodes → (h : ℕ) → ¬ IsBelow nodes 0 h
root_not_below nodes tree h b = let less = below_less nodes tree 0 h b in omega arith

-- whether a node is below another can be decided
decide_by_parent : (nodes : List Node) → IsTree nodes → (l h : ℕ) → ((p : ℕ) → p < l → IsBelow nodes p h ⊎ ¬ IsBelow nodes p h) → (o : Option ℕ) → parent_of nodes l ≡ o → IsBelow nodes l h ⊎ ¬ IsBelow nodes l h
decide_by_parent nodes tree l h above None e = inr (λ b. let (p, c, w) = above_child nodes l h b in cc)
decide_by_parent nodes tree l h above (Some p) c =
    elim (cases_eq p h) [
      | inl same ↦ inl (let P : ℕ → Type 0 = λ x. IsBelow nodes l x in subst P same (child l p c))
      | inr apart ↦ elim (above p (parent_less nodes tree l p c)) [
        | inl b ↦ inl (further l p h c b)
        | inr not-below ↦ inr (λ b. elim (above_parent nodes l p h c b) [ inl e ↦ apart e | inr up ↦ not-below up ])
      ]
    ]

decide_below_within : (nodes : List Node) → IsTree nodes → (fuel l h : ℕ) → l < fuel → IsBelow nodes l h ⊎ ¬ IsBelow nodes l h
decide_below_within nodes tree zero l h less = absurd (omega arith)
decide_below_within nodes tree (suc fuel) l h less =
    decide_by_parent nodes tree l h (λ p before. decide_below_within nodes tree fuel p h (omega arith)) (parent_of nodes l) refl

pub decide_below : (nodes : List Node) → IsTree nodes → (l h : ℕ) → IsBelow nodes l h ⊎ ¬ IsBelow nodes l h
decide_below nodes tree l h = decide_below_within nodes tree (suc l) l h (omega arith)

-- what is below a node is a child of it or below one
pub child_towards : (nodes : List Node) (l h : ℕ) → IsBelow nodes l h → (m : ℕ) × IsChild nodes m h × IsWithin nodes l m
child_towards nodes l h (child low high c) = (low, c, inl refl)
child_towards nodes l h (further low parent high c b) =
    let (m, d, w) = child_towards nodes parent high b in
    (m, d, inr (elim w [ inl e ↦ (let P : ℕ → Type 0 = λ x. IsBelow nodes low x in rw (← e) (child low parent c)) | inr b' ↦ further low parent m c b' ]))

-- a history node is a node of the tree
pub history_inside : (nodes : List Node) (n : ℕ) → IsHistory nodes n → n < length nodes
history_inside nodes n history = inside (slice_get nodes n) refl history
  where
    inside : (o : Option Node) → slice_get nodes n ≡ o → IsSomeAnd (option_map (λ (row : Node). row.kind) o) IsHistoryKind → n < length nodes
    inside None is h = absurd h
    inside (Some node) is h = slice_get_within nodes n node is

pub below_within : (nodes : List Node) (l m h : ℕ) → IsBelow nodes l m → IsWithin nodes m h → IsBelow nodes l h
below_within nodes l m h b (inl e) = let P : ℕ → Type 0 = λ x. IsBelow nodes l x in subst P e b
below_within nodes l m h b (inr b') = below_trans nodes l m h b b'

-- a row names nodes that are there
pub kind_names : (nodes : List Node) → IsTree nodes → (n : ℕ) (kind : Kind) → kind_of nodes n ≡ Some kind → NamesNodes nodes n kind
kind_names nodes tree n kind of = by_row (slice_get nodes n) refl of
  where
    by_row : (o : Option Node) → slice_get nodes n ≡ o → option_map (λ (row : Node). row.kind) o ≡ Some kind → NamesNodes nodes n kind
    by_row None is e = absurd cc
    by_row (Some node) is e =
        let names : NamesNodes nodes n node.kind = rw is at (tree.outline.rows n (slice_get_within nodes n node is)).names in
        let same : node.kind ≡ kind = cc in
        rw same at names

-- the initial child of a compound node is a child of it
pub initial_child : (nodes : List Node) → IsTree nodes → (c start : ℕ) → kind_of nodes c ≡ Some (Compound start) → IsChild nodes start c
initial_child nodes tree c start of = kind_names nodes tree c (Compound start) of
