-- What holds of each transition of a machine that was read.
use Rattle.std.proofs.Common.{◌≡◌, ◌<◌, ◌+◌, ℕ, zero, suc, Bool, true, false, ◌&&◌, List, [], ◌∷◌, ◌++◌, Some, None, Option, refl, ap, sym, ◌∙◌, subst, inl, inr, length, map, get_or, arith}
use Rattle.std.specs.Prelude.{All, IfSome, IsSomeAnd, codes, is_none, not, option_and_then, slice_get, unwrap_or}
use Rattle.std.specs.List.{enumerate_from, flat_map}
use Rattle.std.specs.Option.{option_map_or}
use Rattle.std.proofs.lemmas.List.Elements.{All-append}
use Rattle.std.proofs.lemmas.Option.{same_Some, slice_get-get_or, slice_get_cases, slice_get_within}
use Rattle.ordered_json.specs.declared.json.OrderedJson.{OrderedJson}
use Rattle.ordered_json.specs.Words.{MemberParts, get, get_object}
use Rattle.node_tree.specs.declared.node.Node.{Node}
use Rattle.node_tree.specs.Kinds.{kind_of}
use Rattle.guard_eval.specs.Definitions.{IsPassiveKind}
use Rattle.machine_json.specs.declared.field.Field.{Field}
use Rattle.machine_json.specs.declared.field.Field.TheVariants as field
use Rattle.machine_json.specs.declared.machine.Machine.{Machine}
use Rattle.machine_json.specs.declared.machine.UnlinkedNode.{UnlinkedNode}
use Rattle.machine_json.specs.declared.machine.UnlinkedTransition.{UnlinkedTransition}
use Rattle.machine_json.specs.declared.role.Role.TheVariants as role
use Rattle.machine_json.specs.Faultless.{IsFaultlessAs}
use Rattle.machine_json.specs.Fields.{field_of, is_inner, stands_on}
use Rattle.machine_json.specs.Machines.{AreTransitions, IsTreeOf, MeansMachine, MeansNode, MeansTransition, candidates_of, of_child, of_invocation, under, under_key}
use Rattle.machine_json.specs.Meaning.{after_type, invocation_texts, listed}
use Rattle.machine_json.specs.NodeKinds.{members_of, node_kind}
use Rattle.machine_json.specs.Nodes.{NodeParts}
use Rattle.machine_json.specs.ReadMachine.{EachUnlinked, IsUnlinkedOf, unlinked_transitions}
use Rattle.machine_json.specs.Roles.{member_role, standing_role}
use Rattle.machine_json.specs.Rows.{fields_in, initial_number, node_id, open_rows}
use Rattle.machine_json.specs.SecondPass.{node_role}
use Rattle.machine_json.proofs.DocumentLemmas.{slice_get-either}
use Rattle.machine_json.proofs.FaultlessLemmas.{by_parent, is_known, of_field, of_key, of_transitions}
use Rattle.machine_json.proofs.NodeMeaningLemmas.{node_is_faultless}
use Rattle.machine_json.proofs.ReadKindLemmas.{passive_kind, to_kind, tree_kind}
use Rattle.machine_json.proofs.ReadRowLemmas.{faultless_nodes, read_node}
use Rattle.machine_json.proofs.TransitionLemmas.{of_texts, under_object}

-- ---- items

-- what holds of each item holds of all
pub all_items : {X : Type 0} (P : X → Type 0) (xs : List X) → ((k : ℕ) (x : X) → slice_get xs k ≡ Some x → P x) → All P xs
all_items P xs each = λ k d inside. each k (get_or xs k d) (slice_get-get_or xs k d inside)

of_mapped : {X Y : Type 0} (f : X → Y) (xs : List X) (k : ℕ) (y : Y) → slice_get (map f xs) k ≡ Some y → (x : X) × (slice_get xs k ≡ Some x) × (f x ≡ y)
of_mapped f [] k y at = absurd (cc)
of_mapped f (x ∷ xs) zero y at = (x, refl, same_Some (f x) y at)
of_mapped f (x ∷ xs) (suc k) y at = of_mapped f xs k y at

-- ---- the texts of transitions

-- each text is one of a transition without faults
abbrev pub AreFaultlessTexts : List Node → ℕ → List (List ℕ × OrderedJson) → Type 0
AreFaultlessTexts rows source texts =
    (k : ℕ) (text : List ℕ × OrderedJson) → slice_get texts k ≡ Some text → IsFaultlessAs rows source role.Transition text.1

module _ (rows : List Node) (source : ℕ) where
  no_texts : AreFaultlessTexts rows source []
  no_texts = λ k text at. absurd (cc)

  both_texts : (texts others : List (List ℕ × OrderedJson)) → AreFaultlessTexts rows source texts → AreFaultlessTexts rows source others
      → AreFaultlessTexts rows source (texts ++ others)
  both_texts texts others first second = λ k text at. elim (slice_get-either texts others k text at) [
    | inl left ↦ first k text left
    | inr right ↦ second right.0 text right.2
  ]

  flat_texts : {X : Type 0} (f : X → List (List ℕ × OrderedJson)) (xs : List X)
      → ((k : ℕ) (x : X) → slice_get xs k ≡ Some x → AreFaultlessTexts rows source (f x)) → AreFaultlessTexts rows source (flat_map f xs)
  flat_texts f [] each = no_texts
  flat_texts f (x ∷ xs) each = both_texts (f x) (flat_map f xs) (each 0 x refl) (flat_texts f xs (λ k y at. each (suc k) y at))

  numbered_texts : {X : Type 0} (f : ℕ × X → List (List ℕ × OrderedJson)) (n : ℕ) (xs : List X)
      → ((i k : ℕ) (x : X) → slice_get xs k ≡ Some x → AreFaultlessTexts rows source (f (i, x))) → AreFaultlessTexts rows source (flat_map f (enumerate_from n xs))
  numbered_texts f n [] each = no_texts
  numbered_texts f n (x ∷ xs) each =
      both_texts (f (n, x)) (flat_map f (enumerate_from (n + 1) xs)) (each n 0 x refl) (numbered_texts f (n + 1) xs (λ i k y at. each i (suc k) y at))

  texts_under : (descriptor : List ℕ) (json : OrderedJson) → IsFaultlessAs rows source role.Transitions json
      → AreFaultlessTexts rows source (under descriptor json)
  texts_under descriptor json sound = λ k text at.
      let (item, item_at, same) = of_mapped (λ (t : OrderedJson). let p : List ℕ × OrderedJson = (descriptor, t) in p) (listed json) k text at in
      let P : List ℕ × OrderedJson → Type 0 = λ p. IsFaultlessAs rows source role.Transition p.1 in
      subst P same (of_transitions rows source json item k sound item_at)

  texts_if_some : (descriptor : List ℕ) (json : Option OrderedJson) → IfSome json (IsFaultlessAs rows source role.Transitions)
      → AreFaultlessTexts rows source (option_map_or (under descriptor) json [])
  texts_if_some descriptor None sound = no_texts
  texts_if_some descriptor (Some json) sound = texts_under descriptor json sound

  child_texts : (child : List ℕ) (json : OrderedJson) → IsFaultlessAs rows source role.Invocation json
      → AreFaultlessTexts rows source (of_child child (members_of json))
  child_texts child json sound =
      let members = members_of json in
      let done = under_key (codes "xstate.done.actor." ++ child) (codes "onDone") members in
      let error = under_key (codes "xstate.error.actor." ++ child) (codes "onError") members in
      let snapshot = under_key (codes "xstate.snapshot." ++ child) (codes "onSnapshot") members in
      both_texts (done ++ error) snapshot
      (both_texts done error
      (texts_if_some (codes "xstate.done.actor." ++ child) (get (codes "onDone") members) (of_key rows source role.Invocation role.Transitions json (codes "onDone") refl refl sound))
      (texts_if_some (codes "xstate.error.actor." ++ child) (get (codes "onError") members) (of_key rows source role.Invocation role.Transitions json (codes "onError") refl refl sound)))
      (texts_if_some (codes "xstate.snapshot." ++ child) (get (codes "onSnapshot") members) (of_key rows source role.Invocation role.Transitions json (codes "onSnapshot") refl refl sound))

  pub always_texts : (node : NodeParts) → IsFaultlessAs rows source (node_role node) node.json
      → AreFaultlessTexts rows source (under_key [] (codes "always") (fields_in node))
  always_texts node sound =
      texts_if_some [] (get (codes "always") (fields_in node)) (of_field rows source node (codes "always") field.Always refl refl sound)

  pub candidate_texts : (node : NodeParts) (id : List ℕ) → IsFaultlessAs rows source (node_role node) node.json
      → AreFaultlessTexts rows source (candidates_of id (fields_in node))
  candidate_texts node id sound =
      let all = fields_in node in
      let f : MemberParts → List (List ℕ × OrderedJson) = λ m. under m.key m.value in
      let g : MemberParts → List (List ℕ × OrderedJson) = λ m. under (after_type m.key id) m.value in
      let ons : List MemberParts = unwrap_or (get_object (codes "on") all) [] in
      let afters : List MemberParts = unwrap_or (get_object (codes "after") all) [] in
      let one = flat_map f ons in
      let two = under_key (codes "xstate.done.state." ++ id) (codes "onDone") all in
      let three = flat_map (of_invocation id) (enumerate_from 0 (invocation_texts all)) in
      let four = flat_map g afters in
      let on_sound = under_object rows source role.On (get (codes "on") all) (λ kind key. refl) (of_field rows source node (codes "on") field.On refl refl sound) in
      let after_sound = under_object rows source role.After (get (codes "after") all) (λ kind key. refl) (of_field rows source node (codes "after") field.After refl refl sound) in
      let invoke_sound = of_texts rows source (get (codes "invoke") all) (of_field rows source node (codes "invoke") field.Invoke refl refl sound) in
      both_texts ((one ++ two) ++ three) four
      (both_texts (one ++ two) three
      (both_texts one two
      (flat_texts f ons (λ k m at. texts_under m.key m.value (on_sound k m at)))
      (texts_if_some (codes "xstate.done.state." ++ id) (get (codes "onDone") all) (of_field rows source node (codes "onDone") field.OnDone refl refl sound)))
      (numbered_texts (of_invocation id) 0 (invocation_texts all) (λ i k json at. child_texts _ json (invoke_sound k json at))))
      (flat_texts g afters (λ k m at. texts_under (after_type m.key id) m.value (after_sound k m at)))

  -- what holds of each transition that a text without faults means
  abbrev pub IsMeant : (UnlinkedTransition → Type 0) → Type 0
  IsMeant P = (descriptor : List ℕ) (json : OrderedJson) (t : UnlinkedTransition) → IsFaultlessAs rows source role.Transition json
      → MeansTransition rows source descriptor json t → P t

  each_meant : (P : UnlinkedTransition → Type 0) (texts : List (List ℕ × OrderedJson)) (ts : List UnlinkedTransition) → IsMeant P
      → AreFaultlessTexts rows source texts → AreTransitions rows source texts ts → All P ts
  each_meant P texts ts meant sound are = all_items P ts (λ k t at. elim (slice_get_cases texts k).1 [
    | inl found ↦ meant found.0.0 found.0.1 t (sound k found.0 found.2) (are.each k found.0 t found.2 at)
    | inr past ↦
        (let inside : k < length ts = slice_get_within ts k t at in
        let count : length ts ≡ length texts = are.count in absurd (omega (arith, past.0, inside, count)))
  ])

-- what holds of each transition that the text of its node means holds of each of a machine
pub each_unlinked : (text : OrderedJson) (machine : Machine) (m : MeansMachine text machine) (P : ℕ → UnlinkedTransition → Type 0)
    → ((n : ℕ) → n < length machine.tree → IsMeant (open_rows m.nodes) n (P n)) → EachUnlinked machine P
each_unlinked text machine m P meant n said said_at =
    let (node, at) = read_node text machine m n said said_at in
    let rows = open_rows m.nodes in
    let id = node_id m.nodes n node in
    let means : MeansNode m.nodes n node said = m.said n node said at said_at in
    let sound = node_is_faultless m.nodes n node (faultless_nodes text machine m) at in
    let inside : n < length machine.tree = subst (λ k. n < k) (sym m.tree.count) (slice_get_within m.nodes n node at) in
    All-append (P n) said.transitions said.always
    (each_meant rows n (P n) (candidates_of id (fields_in node)) said.transitions (meant n inside) (candidate_texts rows n node id sound) means.transitions)
    (each_meant rows n (P n) (under_key [] (codes "always") (fields_in node)) said.always (meant n inside) (always_texts rows n node sound) means.always)

-- each transition has the node that it is said of as its source
pub sources_read : (text : OrderedJson) (machine : Machine) → MeansMachine text machine → EachUnlinked machine (λ n transition. transition.source ≡ n)
sources_read text machine m =
    each_unlinked text machine m (λ n transition. transition.source ≡ n) (λ n inside descriptor json t sound means. means.source_is)

-- ---- nodes without transitions

-- a node of the text that is final or a history node in the tree
inner_false : (nodes : List NodeParts) (tree : List Node) → IsTreeOf nodes tree → (n : ℕ) (node : NodeParts) → slice_get nodes n ≡ Some node
    → IsSomeAnd (kind_of tree n) IsPassiveKind → is_inner (node_kind node.json) ≡ false
inner_false nodes tree is n node at passive =
    let (it, told, given) = tree_kind nodes tree is n node at in
    passive_kind (initial_number nodes n node) (node_kind node.json) it given (to_kind tree n it IsPassiveKind told passive)

absent_by : (rows : List Node) (source : ℕ) (node : NodeParts) (key : List ℕ) (field : Field) (found : Option OrderedJson) → get key (fields_in node) ≡ found
    → field_of key ≡ Some field → stands_on field (is_none node.parent) (node_kind node.json) ≡ false
    → IsFaultlessAs rows source (node_role node) node.json → get key (fields_in node) ≡ None
absent_by rows source node key field None is is_field off sound = is
absent_by rows source node key field (Some value) is is_field off sound =
    let kind = node_kind node.json in
    let root = is_none node.parent in
    let none : standing_role root kind field ≡ None = rw off refl in
    let unknown : member_role (node_role node) kind key ≡ None =
    by_parent node.parent kind key ∙ ap (option_and_then (standing_role root kind)) is_field ∙ none in
    let both : true ≡ false = sym (ap is_none unknown) ∙ is_known rows source (node_role node) node.json key value sound is in
    absurd (cc)

-- a field that may not stand on a node without faults is not there
pub absent : (rows : List Node) (source : ℕ) (node : NodeParts) (key : List ℕ) (field : Field)
    → field_of key ≡ Some field → stands_on field (is_none node.parent) (node_kind node.json) ≡ false
    → IsFaultlessAs rows source (node_role node) node.json → get key (fields_in node) ≡ None
absent rows source node key field is_field off sound = absent_by rows source node key field (get key (fields_in node)) refl is_field off sound

and_false : (a b : Bool) → b ≡ false → (a && b) ≡ false
and_false true b is = is
and_false false b is = refl

no_candidates : (rows : List Node) (source : ℕ) (node : NodeParts) (id : List ℕ) → IsFaultlessAs rows source (node_role node) node.json
    → is_inner (node_kind node.json) ≡ false → candidates_of id (fields_in node) ≡ []
no_candidates rows source node id sound off =
    let on = absent rows source node (codes "on") field.On refl off sound in
    let done = absent rows source node (codes "onDone") field.OnDone refl (and_false (not (is_none node.parent)) (is_inner (node_kind node.json)) off) sound in
    let invoke = absent rows source node (codes "invoke") field.Invoke refl off sound in
    let after = absent rows source node (codes "after") field.After refl off sound in
    rw (on, done, invoke, after) refl

no_always : (rows : List Node) (source : ℕ) (node : NodeParts) → IsFaultlessAs rows source (node_role node) node.json
    → is_inner (node_kind node.json) ≡ false → under_key [] (codes "always") (fields_in node) ≡ []
no_always rows source node sound off =
    let always = absent rows source node (codes "always") field.Always refl off sound in rw always refl

none_of_none : (rows : List Node) (source : ℕ) (texts : List (List ℕ × OrderedJson)) (ts : List UnlinkedTransition) → texts ≡ []
    → AreTransitions rows source texts ts → ts ≡ []
none_of_none rows source texts [] none are = refl
none_of_none rows source texts (t ∷ ts) none are =
    let count : length (t ∷ ts) ≡ length texts = are.count in
    let zero_too : length texts ≡ 0 = ap length none in absurd (omega (arith, count, zero_too))

-- final and history nodes have no transitions
pub passive_read : (text : OrderedJson) (machine : Machine) → MeansMachine text machine → (n : ℕ) (node : UnlinkedNode) → IsUnlinkedOf machine n node
    → IsSomeAnd (kind_of machine.tree n) IsPassiveKind → unlinked_transitions node ≡ []
passive_read text machine m n said said_at passive =
    let (node, at) = read_node text machine m n said said_at in
    let rows = open_rows m.nodes in
    let id = node_id m.nodes n node in
    let means : MeansNode m.nodes n node said = m.said n node said at said_at in
    let sound = node_is_faultless m.nodes n node (faultless_nodes text machine m) at in
    let off = inner_false m.nodes machine.tree m.tree n node at passive in
    let none = none_of_none rows n (candidates_of id (fields_in node)) said.transitions (no_candidates rows n node id sound off) means.transitions in
    let none_too = none_of_none rows n (under_key [] (codes "always") (fields_in node)) said.always (no_always rows n node sound off) means.always in
    ap (λ (l : List UnlinkedTransition). l ++ said.always) none ∙ none_too
