-- The nodes that the transitions of a machine that was read name are nodes of its tree.
use Rattle.std.proofs.Common.{◌≡◌, ◌<◌, ℕ, Bool, true, false, List, [], ◌∷◌, Some, None, Option, refl, ap, sym, ◌∙◌, subst, arith, length, map, take, drop, cond}
use Rattle.std.specs.Prelude.{IfSome, codes, is_some, nat_eq, option_and_then, option_map, slice_get}
use Rattle.std.specs.List.{AllByRecursion}
use Rattle.std.specs.Str.{bytes_eq}
use Rattle.std.proofs.lemmas.Option.{same_Some, slice_get-map}
use Rattle.ordered_json.specs.declared.json.OrderedJson.{OrderedJson}
use Rattle.ordered_json.specs.Words.{get}
use Rattle.xs_model.specs.declared.value.Value.{Value}
use Rattle.xs_model.specs.declared.value.Value.TheVariants as value
use Rattle.node_tree.specs.declared.node.Node.{Node}
use Rattle.node_tree.specs.declared.node.TheConstants.{DOT, HASH}
use Rattle.node_tree.specs.Nodes.{IsOutline, child_of, id_at, parent_of}
use Rattle.node_tree.specs.Targets.{down, ends_key, from_id, id_front, keys_after_dot, largest, target_keys, target_of}
use Rattle.node_tree.proofs.PlaceLemmas.{position_inside}
use Rattle.node_tree.proofs.TargetLemmas.{child_of_inside}
use Rattle.node_tree.proofs.TreeLemmas.{parent_first}
use Rattle.machine_json.specs.declared.machine.Machine.{Machine}
use Rattle.machine_json.specs.declared.machine.Named.{Named}
use Rattle.machine_json.specs.declared.machine.UnlinkedGuard.{UnlinkedGuard}
use Rattle.machine_json.specs.declared.machine.UnlinkedGuard.TheFolds.{every_made-UnlinkedGuard}
use Rattle.machine_json.specs.declared.machine.UnlinkedGuard.TheOpen.{UnlinkedGuard-F}
use Rattle.machine_json.specs.declared.machine.UnlinkedGuard.TheVariants as guard
use Rattle.machine_json.specs.declared.machine.UnlinkedGuard.TheVariants.{rolls-Test, rolls-And, rolls-Or, rolls-Not, rolls-In}
use Rattle.machine_json.specs.declared.machine.UnlinkedTransition.{UnlinkedTransition}
use Rattle.machine_json.specs.Machines.{MeansGuard, MeansGuardOr, MeansGuards, MeansMachine, MeansTransition, target_texts}
use Rattle.machine_json.specs.Machines.MeansGuard.{a_name, with_type, with_and, with_or, with_not, with_state}
use Rattle.machine_json.specs.Machines.MeansGuards.{no_guard, one_guard}
use Rattle.machine_json.specs.Meaning.{text_of}
use Rattle.machine_json.specs.NodeKinds.{members_of}
use Rattle.machine_json.specs.ReadMachine.{AsksInside, EachUnlinked, GuardStaysInside, StaysInside}
use Rattle.machine_json.specs.Rows.{open_rows}
use Rattle.machine_json.specs.SecondPass.{led_to}
use Rattle.machine_json.proofs.ReadRowLemmas.{faultless_nodes, length_tree, rows_outline}
use Rattle.machine_json.proofs.ReadTransitionLemmas.{all_items, each_unlinked}

-- ---- where texts lead

module _ (rows : List Node) (outline : IsOutline rows) where
  abbrev AreInside : Option ℕ → Type 0
  AreInside found = IfSome found (λ n. n < length rows)

  down_inside : (from : Option ℕ) (keys : List (List ℕ)) → AreInside from → AreInside (down rows from keys)
  down_inside from [] inside = inside
  down_inside None (key ∷ keys) inside = down_inside None keys tt
  down_inside (Some n) (key ∷ keys) inside = down_inside (child_of rows n key) keys (child_inside (child_of rows n key) refl)
    where
      child_inside : (found : Option ℕ) → child_of rows n key ≡ found → AreInside found
      child_inside None is = tt
      child_inside (Some c) is = child_of_inside rows n c key is

  id_inside : (id : List ℕ) (found : Option ℕ) → id_at rows id ≡ found → AreInside found
  id_inside id None is = tt
  id_inside id (Some n) is = position_inside (λ (node : Node). bytes_eq node.id id) rows n is

  front_inside : (text : List ℕ) (len : ℕ) (test : Bool) → AreInside (cond test (id_at rows (take len text)) None)
  front_inside text len true = id_inside (take len text) (id_at rows (take len text)) refl
  front_inside text len false = tt

  from_inside : (text : List ℕ) (front : Option ℕ) → AreInside (option_and_then (λ len. down rows (id_front rows text len) (keys_after_dot (drop len text))) front)
  from_inside text None = tt
  from_inside text (Some len) =
      down_inside (id_front rows text len) (keys_after_dot (drop len text)) (front_inside text len (ends_key (drop len text)))

  parent_inside : (n : ℕ) (parent : Option ℕ) → n < length rows → parent_of rows n ≡ parent → AreInside parent
  parent_inside n None inside is = tt
  parent_inside n (Some p) inside is = let before = parent_first rows outline n p is in omega (arith, inside, before)

  begun_inside : (source b : ℕ) (bs : List ℕ) (hash dot : Bool) → source < length rows
      → AreInside (cond hash (from_id rows bs) (cond dot (down rows (Some source) (target_keys bs)) (down rows (parent_of rows source) (target_keys (b ∷ bs)))))
  begun_inside source b bs true dot inside = from_inside bs (largest (λ len. is_some (id_front rows bs len)) (length bs))
  begun_inside source b bs false true inside = down_inside (Some source) (target_keys bs) inside
  begun_inside source b bs false false inside =
      down_inside (parent_of rows source) (target_keys (b ∷ bs)) (parent_inside source (parent_of rows source) inside refl)

  target_inside : (source : ℕ) (text : List ℕ) → source < length rows → AreInside (target_of rows source text)
  target_inside source [] inside = down_inside (parent_of rows source) (target_keys []) (parent_inside source (parent_of rows source) inside refl)
  target_inside source (b ∷ bs) inside = begun_inside source b bs (nat_eq b HASH) (nat_eq b DOT) inside

  -- a text of a node leads to one of the nodes
  pub led_inside : (source : ℕ) (json : OrderedJson) (n : ℕ) → source < length rows → led_to rows source json ≡ Some n → n < length rows
  led_inside source json n inside is = subst AreInside is (target_inside source (text_of json) inside)

-- ---- guards

-- it holds of each guard of a list
abbrev EachStays : ℕ → List UnlinkedGuard → Type 0
EachStays nodes = AllByRecursion (GuardStaysInside nodes)

-- a guard with what holds of it
abbrev StayingGuard : ℕ → Type 0
StayingGuard nodes = (it : UnlinkedGuard) × GuardStaysInside nodes it

with_proofs : (nodes : ℕ) (guards : List UnlinkedGuard) → EachStays nodes guards → List (StayingGuard nodes)
with_proofs nodes [] all = []
with_proofs nodes (it ∷ guards) all = (it, all.0) ∷ with_proofs nodes guards all.1

with_proofs_firsts : (nodes : ℕ) (guards : List UnlinkedGuard) (all : EachStays nodes guards) → map (λ (e : StayingGuard nodes). e.0) (with_proofs nodes guards all) ≡ guards
unfolding with_proofs
with_proofs_firsts nodes [] all = refl
with_proofs_firsts nodes (it ∷ guards) all = ap (λ rest. it ∷ rest) (with_proofs_firsts nodes guards all.1)

test_stays : (nodes : ℕ) (named : Named) (params : Value) → GuardStaysInside nodes (guard.Test named params)
test_stays nodes named params =
    subst (GuardStaysInside nodes) (rolls-Test named params)
    (every_made-UnlinkedGuard (AsksInside nodes) (UnlinkedGuard-F.Test named params) (UnlinkedGuard-F.Test named params) refl tt)

and_stays : (nodes : ℕ) (parts : List UnlinkedGuard) → EachStays nodes parts → GuardStaysInside nodes (guard.And parts)
and_stays nodes parts all =
    subst (GuardStaysInside nodes) (rolls-And parts)
    (every_made-UnlinkedGuard (AsksInside nodes) (UnlinkedGuard-F.And parts) (UnlinkedGuard-F.And (with_proofs nodes parts all)) (ap UnlinkedGuard-F.And (with_proofs_firsts nodes parts all)) tt)

or_stays : (nodes : ℕ) (parts : List UnlinkedGuard) → EachStays nodes parts → GuardStaysInside nodes (guard.Or parts)
or_stays nodes parts all =
    subst (GuardStaysInside nodes) (rolls-Or parts)
    (every_made-UnlinkedGuard (AsksInside nodes) (UnlinkedGuard-F.Or parts) (UnlinkedGuard-F.Or (with_proofs nodes parts all)) (ap UnlinkedGuard-F.Or (with_proofs_firsts nodes parts all)) tt)

not_stays : (nodes : ℕ) (part : UnlinkedGuard) → GuardStaysInside nodes part → GuardStaysInside nodes (guard.Not part)
not_stays nodes part stays =
    subst (GuardStaysInside nodes) (rolls-Not part)
    (every_made-UnlinkedGuard (AsksInside nodes) (UnlinkedGuard-F.Not part) (UnlinkedGuard-F.Not (part, stays)) refl tt)

in_stays : (nodes node : ℕ) → node < nodes → GuardStaysInside nodes (guard.In node)
in_stays nodes node inside =
    subst (GuardStaysInside nodes) (rolls-In node)
    (every_made-UnlinkedGuard (AsksInside nodes) (UnlinkedGuard-F.In node) (UnlinkedGuard-F.In node) refl inside)

module _ (rows : List Node) (outline : IsOutline rows) (source : ℕ) (inside : source < length rows) where
  mutual
    guard_stays : (json : OrderedJson) (it : UnlinkedGuard) → MeansGuard rows source json it → GuardStaysInside (length rows) it
    guard_stays _ _ (a_name json text is) = test_stays (length rows) _ value.Null
    guard_stays _ _ (with_type json name is) = test_stays (length rows) _ _
    guard_stays _ _ (with_and json list parts is means) = and_stays (length rows) parts (guards_stay _ parts means)
    guard_stays _ _ (with_or json list parts is means) = or_stays (length rows) parts (guards_stay _ parts means)
    guard_stays _ _ (with_not json inner part is means) = not_stays (length rows) part (guard_stays inner part means)
    guard_stays _ _ (with_state json text node is led) = in_stays (length rows) node (led_inside rows outline source text node inside led)

    guards_stay : (jsons : List OrderedJson) (guards : List UnlinkedGuard) → MeansGuards rows source jsons guards → EachStays (length rows) guards
    guards_stay _ _ no_guard = tt
    guards_stay _ _ (one_guard json it jsons guards means rest) = (guard_stays json it means, guards_stay jsons guards rest)

  maybe_stays : (json : Option OrderedJson) (it : Option UnlinkedGuard) → MeansGuardOr rows source json it → IfSome it (GuardStaysInside (length rows))
  maybe_stays json None means = tt
  maybe_stays None (Some it) means = absurd means
  maybe_stays (Some json) (Some it) means = guard_stays json it means

-- ---- transitions

text_found : (to : OrderedJson → Option ℕ) (text : Option OrderedJson) (n : ℕ) → option_map to text ≡ Some (Some n) → (t : OrderedJson) × (text ≡ Some t) × (to t ≡ Some n)
text_found to None n is = absurd (cc)
text_found to (Some t) n is = (t, refl, same_Some (to t) (Some n) is)

-- the text of a target
pub target_text : (to : OrderedJson → Option ℕ) (targets : List ℕ) (texts : List OrderedJson) (k n : ℕ) → map Some targets ≡ map to texts
    → slice_get targets k ≡ Some n → (t : OrderedJson) × (slice_get texts k ≡ Some t) × (to t ≡ Some n)
target_text to targets texts k n are at =
    let both : option_map to (slice_get texts k) ≡ Some (Some n) =
    sym (slice_get-map to texts k) ∙ ap (λ l. slice_get l k) (sym are) ∙ slice_get-map Some targets k ∙ ap (option_map Some) at in
    text_found to (slice_get texts k) n both

transition_stays : (rows : List Node) → IsOutline rows → (source : ℕ) (descriptor : List ℕ) (json : OrderedJson) (t : UnlinkedTransition) → source < length rows
    → MeansTransition rows source descriptor json t → StaysInside (length rows) t
transition_stays rows outline source descriptor json t inside means = record {
  source = subst (λ n. n < length rows) (sym means.source_is) inside;
  targets = all_items (λ n. n < length rows) t.targets (λ k n at.
      let found = target_text (led_to rows source) t.targets (target_texts json) k n means.targets at in
      led_inside rows outline source found.0 n inside found.2);
  guard = maybe_stays rows outline source inside (get (codes "guard") (members_of json)) t.guard means.guard_is;
}

-- each node that the transitions name is one of the tree
pub numbers_read : (text : OrderedJson) (machine : Machine) → MeansMachine text machine → EachUnlinked machine (λ n transition. StaysInside (length machine.tree) transition)
numbers_read text machine m =
    let rows = open_rows m.nodes in
    let count : length machine.tree ≡ length rows = length_tree m.nodes machine.tree m.tree in
    let outline = rows_outline m.nodes (faultless_nodes text machine m) in
    each_unlinked text machine m (λ n transition. StaysInside (length machine.tree) transition) (λ n inside descriptor json t sound means.
    subst (λ (k : ℕ). StaysInside k t) (sym count) (transition_stays rows outline n descriptor json t (subst (λ k. n < k) count inside) means))
