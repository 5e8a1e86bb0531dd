-- The rows of nodes, one after another.
use Rattle.std.proofs.Common.{◌≡◌, ◌≢◌, ◌+◌, ◌<◌, ◌≤◌, ℕ, zero, suc, Bool, true, false, cond, ◌&&◌, List, [], ◌∷◌, ◌++◌, Option, None, Some, length, map, take, drop, get_or, set, refl, sym, ap, ◌∙◌, subst, arith, inl, inr, length-append}
use Rattle.std.specs.Prelude.{IfSome, fold, is_none, nat_eq, option_map, position, slice_get, unwrap_or}
use Rattle.std.specs.List.{enumerate_from}
use Rattle.std.specs.Option.{option_eq}
use Rattle.std.specs.Str.{bytes_eq}
use Rattle.std.proofs.lemmas.Bool.Decides.{eqb_tells, Decides-eqb}
use Rattle.std.proofs.lemmas.List.{get_or_append_left, get_or_at, length-set, length-take-le, map-append, take-append-drop, take_all}
use Rattle.std.proofs.lemmas.List.Sums.{fold-append}
use Rattle.std.proofs.lemmas.Option.{get_or_from_slice_get, slice_get-get_or, slice_get-map, slice_get_read, slice_get_within}
use Rattle.node_tree.specs.declared.node.Kind.{Kind}
use Rattle.node_tree.specs.declared.node.Node.{Node}
use Rattle.node_tree.proofs.PlaceLemmas.{position_more}
use Rattle.machine_json.specs.NodeKinds.{node_kind}
use Rattle.machine_json.specs.declared.nodes.NodeText.{NodeText}
use Rattle.machine_json.specs.Nodes.{NodeParts, node_parts}
use Rattle.machine_json.specs.Rows.{HaveEarlierParents, given_id, initial_child, initial_key, kind_with_initial, node_paths, open_rows, path_below, root_id, row_of}
use Rattle.machine_json.proofs.NodeLemmas.{take_next}

-- ---- the initial children

-- for each node the child that is found among those up to a place
pub record AreFound (nodes front : List NodeParts) (found : List (Option ℕ)) : Type 0 where
  pub count : length found ≡ length nodes
  pub each : (k : ℕ) (x : NodeParts) → slice_get nodes k ≡ Some x → slice_get found k ≡ Some (initial_child front k x)

none_and : (found : Option ℕ) (n : ℕ) → cond (is_none found && false) (Some n) found ≡ found
none_and None n = refl
none_and (Some x) n = refl

-- the child of another node changes nothing
other_child : (nodes : List NodeParts) (n k : ℕ) (node x : NodeParts) → slice_get nodes n ≡ Some node
    → option_eq nat_eq node.parent (Some k) ≡ false → initial_child (take (n + 1) nodes) k x ≡ initial_child (take n nodes) k x
other_child nodes n k node x at other =
    let passes : NodeParts → Bool = λ y. option_eq nat_eq y.parent (Some k) && bytes_eq y.key (initial_key x) in
    let here : get_or nodes n node ≡ node = get_or_from_slice_get nodes n node node at in
    let fails : passes (get_or nodes n node) ≡ false = ap passes here ∙ ap (λ b. b && bytes_eq node.key (initial_key x)) other in
    position_more passes nodes n node (slice_get_within nodes n node at)
    ∙ rw fails (none_and (position passes (take n nodes)) n)

-- the child of the node itself may be the one
own_child : (nodes : List NodeParts) (n parent : ℕ) (node x : NodeParts) → slice_get nodes n ≡ Some node → node.parent ≡ Some parent
    → initial_child (take (n + 1) nodes) parent x
    ≡ cond (is_none (initial_child (take n nodes) parent x) && bytes_eq node.key (initial_key x)) (Some n) (initial_child (take n nodes) parent x)
own_child nodes n parent node x at up =
    let passes : NodeParts → Bool = λ y. option_eq nat_eq y.parent (Some parent) && bytes_eq y.key (initial_key x) in
    let here : get_or nodes n node ≡ node = get_or_from_slice_get nodes n node node at in
    let same : nat_eq parent parent ≡ true = (Decides-eqb parent parent).1 refl in
    let test : passes (get_or nodes n node) ≡ bytes_eq node.key (initial_key x) =
    ap passes here ∙ ap (λ (p : Option ℕ). option_eq nat_eq p (Some parent) && bytes_eq node.key (initial_key x)) up
    ∙ ap (λ b. b && bytes_eq node.key (initial_key x)) same in
    position_more passes nodes n node (slice_get_within nodes n node at)
    ∙ ap (λ b. cond (is_none (position passes (take n nodes)) && b) (Some n) (position passes (take n nodes))) test

pub slice_get-set_other : {X : Type 0} (xs : List X) (i j : ℕ) (x : X) → j ≢ i → slice_get (set xs i x) j ≡ slice_get xs j
slice_get-set_other [] i j x h = refl
slice_get-set_other (y ∷ ys) zero zero x h = absurd (h refl)
slice_get-set_other (y ∷ ys) zero (suc j) x h = refl
slice_get-set_other (y ∷ ys) (suc i) zero x h = refl
slice_get-set_other (y ∷ ys) (suc i) (suc j) x h = slice_get-set_other ys i j x (λ same. h (ap suc same))

pub slice_get-set_same : {X : Type 0} (xs : List X) (i : ℕ) (x : X) → i < length xs → slice_get (set xs i x) i ≡ Some x
slice_get-set_same [] i x h = absurd (omega arith)
slice_get-set_same (y ∷ ys) zero x h = refl
slice_get-set_same (y ∷ ys) (suc i) x h = slice_get-set_same ys i x (omega arith)

-- one node more, where it has a parent
pub found_more : (nodes : List NodeParts) (n parent : ℕ) (node up : NodeParts) (old new : List (Option ℕ)) (found chosen : Option ℕ)
    → slice_get nodes n ≡ Some node → node.parent ≡ Some parent → slice_get nodes parent ≡ Some up
    → found ≡ get_or old parent found → chosen ≡ cond (is_none found && bytes_eq node.key (initial_key up)) (Some n) found
    → new ≡ set old parent chosen → AreFound nodes (take n nodes) old → AreFound nodes (take (n + 1) nodes) new
found_more nodes n parent node up old new found chosen at is_up up_at is_found is_chosen is_new before =
    let inside : parent < length old = rw before.count (slice_get_within nodes parent up up_at) in
    let held : found ≡ initial_child (take n nodes) parent up =
    is_found ∙ get_or_from_slice_get old parent (initial_child (take n nodes) parent up) found (before.each parent up up_at) in
    let choice : chosen ≡ initial_child (take (n + 1) nodes) parent up =
    is_chosen ∙ ap (λ (f : Option ℕ). cond (is_none f && bytes_eq node.key (initial_key up)) (Some n) f) held
    ∙ sym (own_child nodes n parent node up at is_up) in
    record {
      count = ap length is_new ∙ length-set old parent chosen ∙ before.count;
      each = λ k x x_at. elim (eqb_tells k parent) [
        | inl own ↦
            let same_up : Some up ≡ Some x = sym up_at ∙ ap (slice_get nodes) (sym own.1) ∙ x_at in
            let is_x : up ≡ x = cc in
            ap (slice_get new) own.1 ∙ ap (λ (l : List (Option ℕ)). slice_get l parent) is_new
            ∙ slice_get-set_same old parent chosen inside ∙ ap Some choice
            ∙ ap (λ m. Some (initial_child (take (n + 1) nodes) m up)) (sym own.1)
            ∙ ap (λ (y : NodeParts). Some (initial_child (take (n + 1) nodes) k y)) is_x
        | inr other ↦
            let apart : nat_eq parent k ≡ false = elim (eqb_tells parent k) [ inl same ↦ absurd (other.1 (sym same.1)) | inr not ↦ not.0 ] in
            let test : option_eq nat_eq node.parent (Some k) ≡ false = ap (λ (p : Option ℕ). option_eq nat_eq p (Some k)) is_up ∙ apart in
            ap (λ (l : List (Option ℕ)). slice_get l k) is_new ∙ slice_get-set_other old parent k chosen other.1
            ∙ before.each k x x_at ∙ ap Some (sym (other_child nodes n k node x at test))
      ];
    }

-- and where it has none
pub found_same : (nodes : List NodeParts) (n : ℕ) (node : NodeParts) (found : List (Option ℕ)) → slice_get nodes n ≡ Some node
    → node.parent ≡ None → AreFound nodes (take n nodes) found → AreFound nodes (take (n + 1) nodes) found
found_same nodes n node found at no_parent before = record {
  count = before.count;
  each = λ k x x_at.
      let test : option_eq nat_eq node.parent (Some k) ≡ false = ap (λ (p : Option ℕ). option_eq nat_eq p (Some k)) no_parent in
      before.each k x x_at ∙ ap Some (sym (other_child nodes n k node x at test));
}

slice_get-replicated : (nodes : List NodeParts) (found : List (Option ℕ)) (k : ℕ) (x : NodeParts) → slice_get nodes k ≡ Some x → length found ≡ length nodes
    → ((i : ℕ) (d : Option ℕ) → i < length found → get_or found i d ≡ None) → slice_get found k ≡ Some None
slice_get-replicated nodes found k x at count none =
    let inside : k < length found = rw count (slice_get_within nodes k x at) in
    slice_get-get_or found k None inside ∙ ap Some (none k None inside)

-- none is found at first
pub found_none : (nodes : List NodeParts) (found : List (Option ℕ)) → length found ≡ length nodes
    → ((i : ℕ) (d : Option ℕ) → i < length found → get_or found i d ≡ None) → AreFound nodes (take 0 nodes) found
found_none nodes found count none = record {
  count = count;
  each = λ k x at. slice_get-replicated nodes found k x at count none;
}

-- ---- paths

length_from : (before : List (List ℕ)) (nodes : List NodeParts)
    → length (fold (λ (before : List (List ℕ)) (node : NodeParts). before ++ path_below before node ∷ []) before nodes) ≡ length before + length nodes
length_from before [] = omega arith
length_from before (node ∷ nodes) =
    length_from (before ++ path_below before node ∷ []) nodes
    ∙ ap (λ n. n + length nodes) (length-append before (path_below before node ∷ [])) ∙ omega arith

pub length_paths : (nodes : List NodeParts) → length (node_paths nodes) ≡ length nodes
length_paths nodes = length_from [] nodes ∙ omega arith

kept_from : (before : List (List ℕ)) (nodes : List NodeParts) (k : ℕ) (d : List ℕ) → k < length before
    → get_or (fold (λ (before : List (List ℕ)) (node : NodeParts). before ++ path_below before node ∷ []) before nodes) k d ≡ get_or before k d
kept_from before [] k d inside = refl
kept_from before (node ∷ nodes) k d inside =
    let more : k < length (before ++ path_below before node ∷ []) = rw (length-append before (path_below before node ∷ [])) (omega arith) in
    kept_from (before ++ path_below before node ∷ []) nodes k d more ∙ get_or_append_left before (path_below before node ∷ []) d k inside

pub paths_more : (nodes : List NodeParts) (n : ℕ) (node : NodeParts) → slice_get nodes n ≡ Some node
    → node_paths (take (n + 1) nodes) ≡ node_paths (take n nodes) ++ path_below (node_paths (take n nodes)) node ∷ []
paths_more nodes n node at =
    ap node_paths (take_next nodes n node at)
    ∙ fold-append (λ (before : List (List ℕ)) (node : NodeParts). before ++ path_below before node ∷ []) [] (take n nodes) (node ∷ [])

-- the path of a node is below those of the nodes before it
path_at : (nodes : List NodeParts) (n : ℕ) (node : NodeParts) → slice_get nodes n ≡ Some node
    → get_or (node_paths nodes) n [] ≡ path_below (node_paths (take n nodes)) node
path_at nodes n node at =
    let f : List (List ℕ) → NodeParts → List (List ℕ) = λ before node. before ++ path_below before node ∷ [] in
    let inside : n < length nodes = slice_get_within nodes n node at in
    let front : length (node_paths (take n nodes)) ≡ n = length_paths (take n nodes) ∙ length-take-le n nodes (omega arith) in
    let up_to : length (node_paths (take (n + 1) nodes)) ≡ n + 1 = length_paths (take (n + 1) nodes) ∙ length-take-le (n + 1) nodes (omega arith) in
    let whole : node_paths nodes ≡ fold f (node_paths (take (n + 1) nodes)) (drop (n + 1) nodes) =
    ap node_paths (sym (take-append-drop (n + 1) nodes)) ∙ fold-append f [] (take (n + 1) nodes) (drop (n + 1) nodes) in
    ap (λ (l : List (List ℕ)). get_or l n []) whole
    ∙ kept_from (node_paths (take (n + 1) nodes)) (drop (n + 1) nodes) n [] (omega arith)
    ∙ ap (λ (l : List (List ℕ)). get_or l n []) (paths_more nodes n node at)
    ∙ get_or_at (node_paths (take n nodes)) (path_below (node_paths (take n nodes)) node) [] [] n front

-- ---- rows

slice_get-enumerate : {X : Type 0} (m : ℕ) (xs : List X) (k : ℕ) → slice_get (enumerate_from m xs) k ≡ option_map (λ (x : X). let p : ℕ × X = (m + k, x) in p) (slice_get xs k)
slice_get-enumerate m [] k = refl
slice_get-enumerate {X} m (x ∷ xs) zero = ap (λ n. let p : ℕ × X = (n, x) in Some p) (omega arith)
slice_get-enumerate {X} m (x ∷ xs) (suc k) =
    slice_get-enumerate (m + 1) xs k
    ∙ ap (λ n. option_map (λ (x : X). let p : ℕ × X = (n, x) in p) (slice_get xs k)) (omega arith)

enumerate-append : {X : Type 0} (m : ℕ) (xs : List X) (x : X) → enumerate_from m (xs ++ x ∷ []) ≡ enumerate_from m xs ++ (m + length xs, x) ∷ []
enumerate-append {X} m [] x = ap (λ n. let p : ℕ × X = (n, x) in p ∷ []) (omega arith)
enumerate-append {X} m (y ∷ ys) x =
    let first : ℕ × X = (m, y) in
    ap (λ (l : List (ℕ × X)). first ∷ l) (enumerate-append (m + 1) ys x)
    ∙ ap (λ n. let p : ℕ × X = (n, x) in first ∷ (enumerate_from (m + 1) ys ++ p ∷ [])) (omega arith)

-- the rows of the nodes up to a place
abbrev pub rows_up_to : List NodeParts → ℕ → List Node
rows_up_to nodes n = map (λ (p : ℕ × NodeParts). row_of nodes p.0 p.1) (enumerate_from 0 (take n nodes))

pub rows_more : (nodes : List NodeParts) (n : ℕ) (node : NodeParts) → slice_get nodes n ≡ Some node
    → rows_up_to nodes (n + 1) ≡ rows_up_to nodes n ++ row_of nodes n node ∷ []
rows_more nodes n node at =
    let inside : n < length nodes = slice_get_within nodes n node at in
    let front : length (take n nodes) ≡ n = length-take-le n nodes (omega arith) in
    let f : ℕ × NodeParts → Node = λ p. row_of nodes p.0 p.1 in
    ap (λ (l : List NodeParts). map f (enumerate_from 0 l)) (take_next nodes n node at)
    ∙ ap (map f) (enumerate-append 0 (take n nodes) node)
    ∙ map-append f (enumerate_from 0 (take n nodes)) ((0 + length (take n nodes), node) ∷ [])
    ∙ ap (λ k. rows_up_to nodes n ++ row_of nodes k node ∷ []) (omega arith)

pub rows_all : (nodes : List NodeParts) (n : ℕ) → length nodes ≤ n → rows_up_to nodes n ≡ open_rows nodes
rows_all nodes n past = ap (λ (l : List NodeParts). map (λ (p : ℕ × NodeParts). row_of nodes p.0 p.1) (enumerate_from 0 l)) (take_all n nodes past)

-- the row at a place
pub row_at : (nodes : List NodeParts) (n : ℕ) (node : NodeParts) → slice_get nodes n ≡ Some node
    → slice_get (open_rows nodes) n ≡ Some (row_of nodes n node)
row_at nodes n node at =
    let f : ℕ × NodeParts → Node = λ p. row_of nodes p.0 p.1 in
    slice_get-map f (enumerate_from 0 nodes) n
    ∙ ap (option_map f) (slice_get-enumerate 0 nodes n ∙ ap (option_map (λ (x : NodeParts). let p : ℕ × NodeParts = (0 + n, x) in p)) at)
    ∙ ap (λ k. Some (row_of nodes k node)) (omega arith)

-- the row of these parts
abbrev of_parts : Option ℕ → Kind → List ℕ → List ℕ → Node
of_parts parent kind key id = record { parent = parent; kind = kind; key = key; id = id }

-- a row is told by its parts
same_row : (a b : Node) → a.parent ≡ b.parent → a.kind ≡ b.kind → a.key ≡ b.key → a.id ≡ b.id → a ≡ b
same_row a b parent kind key id =
    ap (λ (x : Option ℕ). of_parts x a.kind a.key a.id) parent
    ∙ ap (λ (x : Kind). of_parts b.parent x a.key a.id) kind
    ∙ ap (λ (x : List ℕ). of_parts b.parent b.kind x a.id) key
    ∙ ap (λ (x : List ℕ). of_parts b.parent b.kind b.key x) id

-- a row of its parts
pub row_is : (nodes : List NodeParts) (n : ℕ) (node : NodeParts) (row : Node) (path root : List ℕ) (found : Option ℕ) → slice_get nodes n ≡ Some node
    → path ≡ path_below (node_paths (take n nodes)) node → root ≡ root_id nodes → found ≡ initial_child nodes n node
    → row.parent ≡ node.parent → row.kind ≡ kind_with_initial (unwrap_or found 0) node (node_kind node.json) → row.key ≡ node.key
    → row.id ≡ unwrap_or (given_id node) (root ++ path) → row ≡ row_of nodes n node
row_is nodes n node row path root found at is_path is_root is_found is_parent is_kind is_key is_id =
    let kind : row.kind ≡ (row_of nodes n node).kind = is_kind ∙ ap (λ (o : Option ℕ). kind_with_initial (unwrap_or o 0) node (node_kind node.json)) is_found in
    let path_there : path ≡ get_or (node_paths nodes) n [] = is_path ∙ sym (path_at nodes n node at) in
    let id : row.id ≡ (row_of nodes n node).id =
    is_id ∙ ap (λ (r : List ℕ). unwrap_or (given_id node) (r ++ path)) is_root
    ∙ ap (λ (p : List ℕ). unwrap_or (given_id node) (root_id nodes ++ p)) path_there in
    same_row row (row_of nodes n node) is_parent kind is_key id

-- one row more
pub rows_pushed : (nodes : List NodeParts) (n : ℕ) (node : NodeParts) (row : Node) (rows new : List Node) → slice_get nodes n ≡ Some node
    → new ≡ rows ++ row ∷ [] → rows ≡ rows_up_to nodes n → row ≡ row_of nodes n node → new ≡ rows_up_to nodes (n + 1)
rows_pushed nodes n node row rows new at is_new before is_row =
    is_new ∙ ap (λ (l : List Node). l ++ row ∷ []) before ∙ ap (λ (r : Node). rows_up_to nodes n ++ r ∷ []) is_row ∙ sym (rows_more nodes n node at)

-- ---- reads

-- a node at its place, as its parts
pub node_at : (nodes : List NodeText) (n : ℕ) (node : NodeText) → n < length nodes → node ≡ get_or nodes n node
    → slice_get (map node_parts nodes) n ≡ Some (node_parts node)
node_at nodes n node inside is =
    slice_get-map node_parts nodes n ∙ ap (option_map node_parts) (slice_get_read nodes (length nodes) n node refl inside is)

-- the parent of a node stands before it
pub earlier_parent : (nodes : List NodeParts) (n parent : ℕ) (node : NodeParts) → HaveEarlierParents nodes → slice_get nodes n ≡ Some node
    → node.parent ≡ Some parent → parent < n
earlier_parent nodes n parent node earlier at up = subst (λ (o : Option ℕ). IfSome o (λ p. p < n)) up (earlier.parents n node at)
