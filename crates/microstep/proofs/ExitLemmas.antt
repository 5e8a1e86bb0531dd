-- What a transition leaves, and which transitions stay.
use Rattle.std.proofs.Common.{◌≡◌, ◌<◌, ◌+◌, ℕ, zero, suc, Bool, true, false, cond, List, [], ◌∷◌, ◌++◌, length, get_or, drop, take, Some, None, refl, sym, ap, subst, arith, inl, inr, add-one, append_assoc}
use Rattle.std.specs.Prelude.{Option, Result, Ok, Err, IfOk, slice_get}
use Rattle.std.specs.List.{AllZip, Contains, items_where_true}
use Rattle.std.specs.Option.{option_and_then}
use Rattle.std.proofs.Math.Seq.{drop-cons}
use Rattle.std.proofs.lemmas.List.Elements.{All-contains, Contains-append_left, Contains-append_right, Contains-get_or}
use Rattle.std.proofs.lemmas.Option.{get_or_from_slice_get, slice_get_within}
use Rattle.node_tree.specs.Kinds.{Nodes}
use Rattle.node_tree.specs.Nodes.{IsTree, IsWithin}
use Rattle.step_sets.specs.declared.types.Domain.{Domain}
use Rattle.step_sets.specs.declared.types.Domain.TheVariants.{Node}
use Rattle.step_sets.specs.Domains.{Arrow, IsDomain, internal, innermost, none}
use Rattle.step_sets.specs.Exits.{IsExited}
use Rattle.step_sets.specs.Sets.{IsSetOf}
use Rattle.step_sets.proofs.TreeLemmas.{below_less}
use Rattle.guard_eval.specs.declared.def.Def.{Def}
use Rattle.guard_eval.specs.declared.def.NodeDef.{NodeDef}
use Rattle.guard_eval.specs.declared.transition.Transition.{Transition}
use Rattle.guard_eval.specs.Definitions.{IsNodeOf, IsTransitionOf, IsWellFormed, transitions_of}
use Rattle.microstep.specs.Selection.{IsLeftBy, Looking, Place, arrow_of, transition_at}

-- nodes that are each the other or below it are one
same-node : (nodes : Nodes) → IsTree nodes → (a b : ℕ) → IsWithin nodes a b → IsWithin nodes b a → a ≡ b
same-node nodes tree a b (inl same) other = same
same-node nodes tree a b (inr below) (inl same) = sym same
same-node nodes tree a b (inr below) (inr above) =
    let one = below_less nodes tree a b below in
    let two = below_less nodes tree b a above in
    absurd (omega arith)

-- a transition has one domain
pub one-domain : (nodes : Nodes) → IsTree nodes → (arrow : Arrow) (d e : Domain) → IsDomain nodes arrow d → IsDomain nodes arrow e → d ≡ e
one-domain nodes tree arrow d e (internal in-d) (internal in-e) = refl
one-domain nodes tree arrow d e (internal in-d) (innermost out-e is-e) = absurd (out-e in-d)
one-domain nodes tree arrow d e (internal in-d) (none out-e no-e) = absurd (out-e in-d)
one-domain nodes tree arrow d e (innermost out-d is-d) (internal in-e) = absurd (out-d in-e)
one-domain nodes tree arrow d e (innermost {a = a} out-d is-d) (innermost {a = b} out-e is-e) = ap Node (same-node nodes tree a b (is-d.1 b is-e.0) (is-e.1 a is-d.0))
one-domain nodes tree arrow d e (innermost {a = a} out-d is-d) (none out-e no-e) = absurd (no-e a is-d.0)
one-domain nodes tree arrow d e (none out-d no-d) (internal in-e) = absurd (out-d in-e)
one-domain nodes tree arrow d e (none out-d no-d) (innermost {a = b} out-e is-e) = absurd (no-d b is-e.0)
one-domain nodes tree arrow d e (none out-d no-d) (none out-e no-e) = refl

no-nodes : {F : ℕ → Type 0} → ((n : ℕ) → ¬ F n) → IsSetOf F []
no-nodes out = record {
  in_order = λ k inside. absurd (omega (arith, inside));
  exact = λ n. ((λ (k, inside, is). absurd (omega (arith, inside))), (λ has. absurd (out n has)));
}

-- where no transition stands, nothing is left
pub left-nowhere : (looking : Looking) (place : Place) → None ≡ transition_at looking.def looking.eventless place → IsSetOf (IsLeftBy looking place) []
left-nowhere looking place at = no-nodes (λ n left. rw (← at) at left)

-- a transition without targets leaves nothing
pub left-still : (looking : Looking) (place : Place) (transition : Transition) → Some transition ≡ transition_at looking.def looking.eventless place → length transition.targets ≡ 0 → IsSetOf (IsLeftBy looking place) []
left-still looking place transition at still =
    no-nodes (λ n left. let (domain, moves, exited) = rw (← at) at left in let (k, inside, is) = moves.has_target in omega (arith, inside, still))

-- a transition with targets leaves what stands below its domain
pub left-set : (looking : Looking) → IsTree looking.def.tree → (place : Place) (transition : Transition) → Some transition ≡ transition_at looking.def looking.eventless place → 0 < length transition.targets
    → (domain : Domain) → IsDomain looking.def.tree (arrow_of transition) domain → (exits : List ℕ) → IsSetOf (IsExited looking.def.tree looking.own.nodes domain) exits
    → IsSetOf (IsLeftBy looking place) exits
left-set looking tree place transition at some domain is-domain exits set = record {
  in_order = set.in_order;
  exact = λ n. (
    (λ has. rw (← at) (domain, record { target = get_or transition.targets 0 0; has_target = Contains-get_or transition.targets 0 0 some; domain_of = is-domain }, (set.exact n).0 has)),
    (λ left. let (other, moves, exited) = rw (← at) at left in
        let P : Domain → Type 0 = λ d. IsExited looking.def.tree looking.own.nodes d n in
        (set.exact n).1 (subst P (one-domain looking.def.tree tree (arrow_of transition) other domain moves.domain_of is-domain) exited)),
  );
}

-- ---- what a well-formed definition says of a transition

found : {X : Type 0} (xs : List X) (k : ℕ) (x : X) → slice_get xs k ≡ Some x → Contains xs x
found xs k x at = (k, slice_get_within xs k x at, get_or_from_slice_get xs k x x at)

pub listed : (node : NodeDef) (eventless : Bool) (k : ℕ) (transition : Transition) → slice_get (cond eventless node.always node.transitions) k ≡ Some transition → Contains (transitions_of node) transition
listed node true k transition at = Contains-append_right node.transitions node.always transition (found node.always k transition at)
listed node false k transition at = Contains-append_left node.transitions node.always transition (found node.transitions k transition at)

-- the numbers in a transition that stands at a place are those of nodes and actors
pub transition-numbers : (actors : ℕ) (def : Def) → IsWellFormed actors def → (eventless : Bool) (place : Place) (transition : Transition) → Some transition ≡ transition_at def eventless place → IsTransitionOf (length def.tree) actors transition
transition-numbers actors def formed eventless place transition at = by_node (slice_get def.nodes place.0) refl (sym at)
  where
    by_node : (o : Option NodeDef) → slice_get def.nodes place.0 ≡ o
        → option_and_then (λ (node : NodeDef). slice_get (cond eventless node.always node.transitions) place.1) o ≡ Some transition → IsTransitionOf (length def.tree) actors transition
    by_node None is in-node = absurd cc
    by_node (Some node) is in-node =
        let numbers = All-contains (IsNodeOf (length def.tree) actors) def.nodes node formed.numbers (found def.nodes place.0 node is) in
        All-contains (IsTransitionOf (length def.tree) actors) (transitions_of node) transition numbers.transitions (listed node eventless place.1 transition in-node)

-- ---- lists

pub AllZip-more : {X Y : Type 0} (R : X → Y → Type 0) (xs : List X) (ys : List Y) (i : ℕ) (d : X) (y : Y) → i < length xs → AllZip R (take i xs) ys → R (get_or xs i d) y → AllZip R (take (i + 1) xs) (ys ++ y ∷ [])
AllZip-more {X} {Y} R xs ys i d y inside all here = rw add-one (by_list xs ys i inside all here)
  where
    by_list : (xs : List X) (ys : List Y) (i : ℕ) → i < length xs → AllZip R (take i xs) ys → R (get_or xs i d) y → AllZip R (take (suc i) xs) (ys ++ y ∷ [])
    by_list [] ys i inside all here = absurd (omega (arith, inside))
    by_list (x ∷ xs) [] zero inside all here = (here, tt)
    by_list (x ∷ xs) (z ∷ ys) zero inside all here = absurd all
    by_list (x ∷ xs) [] (suc i) inside all here = absurd all
    by_list (x ∷ xs) (z ∷ ys) (suc i) inside all here = (all.0, by_list xs ys i (omega (arith, inside)) all.1 here)

pub AllZip-length : {X Y : Type 0} (R : X → Y → Type 0) (xs : List X) (ys : List Y) → AllZip R xs ys → length xs ≡ length ys
AllZip-length R [] [] all = refl
AllZip-length R [] (y ∷ ys) all = absurd all
AllZip-length R (x ∷ xs) [] all = absurd all
AllZip-length R (x ∷ xs) (y ∷ ys) all = let rest = AllZip-length R xs ys all.1 in omega arith

-- what is kept so far, and what is kept of the rest
pub kept-here : {X : Type 0} (flags : List Bool) (xs : List X) (i : ℕ) (b : Bool) (d : X) → i < length flags → i < length xs → get_or flags i b ≡ true
    → items_where_true (drop i flags) (drop i xs) ≡ get_or xs i d ∷ items_where_true (drop (i + 1) flags) (drop (i + 1) xs)
kept-here flags xs i b d in-flags in-xs on = rw (drop-cons flags i b in-flags, drop-cons xs i d in-xs, on, add-one) refl

pub kept-skip : {X : Type 0} (flags : List Bool) (xs : List X) (i : ℕ) (b : Bool) (d : X) → i < length flags → i < length xs → get_or flags i b ≡ false
    → items_where_true (drop i flags) (drop i xs) ≡ items_where_true (drop (i + 1) flags) (drop (i + 1) xs)
kept-skip flags xs i b d in-flags in-xs off = rw (drop-cons flags i b in-flags, drop-cons xs i d in-xs, off, add-one) refl

pub kept-push : {X : Type 0} (front : List X) (flags : List Bool) (xs : List X) (i : ℕ) (b : Bool) (d : X) (all : List X) → i < length flags → i < length xs → get_or flags i b ≡ true
    → front ++ items_where_true (drop i flags) (drop i xs) ≡ all → (front ++ get_or xs i d ∷ []) ++ items_where_true (drop (i + 1) flags) (drop (i + 1) xs) ≡ all
kept-push front flags xs i b d all in-flags in-xs on was =
    let next = rw (kept-here flags xs i b d in-flags in-xs on) at was in
    rw append_assoc next

pub kept-pass : {X : Type 0} (front : List X) (flags : List Bool) (xs : List X) (i : ℕ) (b : Bool) (d : X) (all : List X) → i < length flags → i < length xs → get_or flags i b ≡ false
    → front ++ items_where_true (drop i flags) (drop i xs) ≡ all → front ++ items_where_true (drop (i + 1) flags) (drop (i + 1) xs) ≡ all
kept-pass front flags xs i b d all in-flags in-xs off was = rw (kept-skip flags xs i b d in-flags in-xs off) at was

-- what holds of a value where another fact does
pub if-ok : {X E : Type 0} {P Q : X → Type 0} (r : Result X E) → ((x : X) → P x → Q x) → IfOk r P → IfOk r Q
if-ok (Ok x) more p = more x p
if-ok (Err e) more p = p
