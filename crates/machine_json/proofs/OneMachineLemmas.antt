-- A text means one machine.
use Rattle.std.proofs.Common.{◌≡◌, ◌<◌, ℕ, zero, suc, Bool, List, [], ◌∷◌, Option, None, Some, length, map, refl, sym, ap, ◌∙◌, subst, arith}
use Rattle.std.specs.Prelude.{codes, slice_get}
use Rattle.std.proofs.lemmas.Option.{slice_get_within}
use Rattle.ordered_json.specs.declared.json.OrderedJson.{OrderedJson}
use Rattle.ordered_json.specs.Words.{MemberParts, get}
use Rattle.xs_model.specs.declared.expr.Expr.{Expr}
use Rattle.xs_model.specs.declared.expr.Expr.TheVariants as expression
use Rattle.node_tree.specs.declared.node.Node.{Node}
use Rattle.machine_json.specs.declared.machine.Machine.{Machine}
use Rattle.machine_json.specs.declared.machine.Named.{Named}
use Rattle.machine_json.specs.declared.machine.UnlinkedAction.{UnlinkedAction}
use Rattle.machine_json.specs.declared.machine.UnlinkedDelay.{UnlinkedDelay}
use Rattle.machine_json.specs.declared.machine.UnlinkedGuard.{UnlinkedGuard}
use Rattle.machine_json.specs.declared.machine.UnlinkedInvocation.{UnlinkedInvocation}
use Rattle.machine_json.specs.declared.machine.UnlinkedNode.{UnlinkedNode}
use Rattle.machine_json.specs.declared.machine.UnlinkedTransition.{UnlinkedTransition}
use Rattle.machine_json.specs.declared.role.Role.TheVariants as role
use Rattle.machine_json.specs.Faultless.{IsFaultlessAs}
use Rattle.machine_json.specs.Machines.{AreTransitions, IsTreeOf, MeansMachine, MeansNode, MeansTransition, candidates_of, under_key, with_named_default}
use Rattle.machine_json.specs.Meaning.{AreInvocations, MeansExprOr, MeansInvocation, invocation_texts}
use Rattle.machine_json.specs.NodeKinds.{members_of}
use Rattle.machine_json.specs.Nodes.{NodeParts}
use Rattle.machine_json.specs.Rows.{fields_in, node_id, open_rows, root_id, row_of}
use Rattle.machine_json.specs.SecondPass.{node_role}
use Rattle.machine_json.proofs.FaultlessLemmas.{of_key}
use Rattle.machine_json.proofs.MeaningLemmas.{meaning-same}
use Rattle.machine_json.proofs.NodeLemmas.{same_nodes}
use Rattle.machine_json.proofs.NodeMeaningLemmas.{node_is_faultless}
use Rattle.machine_json.proofs.OneGuardLemmas.{guard_or_same}
use Rattle.machine_json.proofs.OutlineLemmas.{item_at}
use Rattle.machine_json.proofs.ReadRowLemmas.{faultless_nodes}
use Rattle.machine_json.proofs.ReadTransitionLemmas.{AreFaultlessTexts, always_texts, candidate_texts}
use Rattle.machine_json.proofs.RowLemmas.{row_at}

-- ---- lists and options

-- lists of one length with the same items
same_list : {X : Type 0} (xs ys : List X) → length xs ≡ length ys → ((k : ℕ) (x y : X) → slice_get xs k ≡ Some x → slice_get ys k ≡ Some y → x ≡ y) → xs ≡ ys
same_list [] [] count each = refl
same_list [] (y ∷ ys) count each = absurd (omega arith)
same_list (x ∷ xs) [] count each = absurd (omega arith)
same_list (x ∷ xs) (y ∷ ys) count each =
    let first : x ≡ y = each 0 x y refl refl in
    let later : xs ≡ ys = same_list xs ys (omega arith) (λ k a b at at_too. each (suc k) a b at at_too) in cc

same_somes : (xs ys : List ℕ) → map Some xs ≡ map Some ys → xs ≡ ys
same_somes [] [] is = refl
same_somes [] (y ∷ ys) is = absurd (cc)
same_somes (x ∷ xs) [] is = absurd (cc)
same_somes (x ∷ xs) (y ∷ ys) is =
    let first : x ≡ y = cc in
    let rest : map Some xs ≡ map Some ys = cc in
    let later : xs ≡ ys = same_somes xs ys rest in cc

expr_or_same : (absent : Expr) (json : Option OrderedJson) (e f : Expr) → MeansExprOr absent json e → MeansExprOr absent json f → e ≡ f
expr_or_same absent None e f is is_too = is ∙ sym is_too
expr_or_same absent (Some json) e f is is_too = meaning-same json e f is is_too

-- ---- transitions

abbrev transition_of_parts : ℕ → List ℕ → List ℕ → Bool → Option UnlinkedGuard → List UnlinkedAction → UnlinkedTransition
transition_of_parts source descriptor targets reenter guard actions =
    record { source = source; descriptor = descriptor; targets = targets; reenter = reenter; guard = guard; actions = actions }

transition_told : (a b : UnlinkedTransition) → a.source ≡ b.source → a.descriptor ≡ b.descriptor → a.targets ≡ b.targets → a.reenter ≡ b.reenter
    → a.guard ≡ b.guard → a.actions ≡ b.actions → a ≡ b
transition_told a b source descriptor targets reenter guard actions =
    ap (λ x. transition_of_parts x a.descriptor a.targets a.reenter a.guard a.actions) source
    ∙ ap (λ x. transition_of_parts b.source x a.targets a.reenter a.guard a.actions) descriptor
    ∙ ap (λ x. transition_of_parts b.source b.descriptor x a.reenter a.guard a.actions) targets
    ∙ ap (λ x. transition_of_parts b.source b.descriptor b.targets x a.guard a.actions) reenter
    ∙ ap (λ x. transition_of_parts b.source b.descriptor b.targets b.reenter x a.actions) guard
    ∙ ap (λ x. transition_of_parts b.source b.descriptor b.targets b.reenter b.guard x) actions

module _ (rows : List Node) (source : ℕ) where
  transition_same : (descriptor : List ℕ) (json : OrderedJson) (a b : UnlinkedTransition) → IsFaultlessAs rows source role.Transition json
      → MeansTransition rows source descriptor json a → MeansTransition rows source descriptor json b → a ≡ b
  transition_same descriptor json a b sound is is_too =
      transition_told a b (is.source_is ∙ sym is_too.source_is) (is.descriptor_is ∙ sym is_too.descriptor_is)
      (same_somes a.targets b.targets (is.targets ∙ sym is_too.targets)) (is.reenter ∙ sym is_too.reenter)
      (guard_or_same rows source (get (codes "guard") (members_of json)) a.guard b.guard
      (of_key rows source role.Transition role.Guard json (codes "guard") refl refl sound) is.guard_is is_too.guard_is)
      (is.actions ∙ sym is_too.actions)

  transitions_same : (texts : List (List ℕ × OrderedJson)) (xs ys : List UnlinkedTransition) → AreFaultlessTexts rows source texts
      → AreTransitions rows source texts xs → AreTransitions rows source texts ys → xs ≡ ys
  transitions_same texts xs ys sound are are_too = same_list xs ys (are.count ∙ sym are_too.count) (λ k x y at at_too.
      let inside : k < length texts = subst (λ n. k < n) are.count (slice_get_within xs k x at) in
      let text = there texts k inside in
      transition_same text.0.0 text.0.1 x y (sound k text.0 text.1) (are.each k text.0 x text.1 at) (are_too.each k text.0 y text.1 at_too))
    where
      there : (texts : List (List ℕ × OrderedJson)) (k : ℕ) → k < length texts → (text : List ℕ × OrderedJson) × (slice_get texts k ≡ Some text)
      there [] k inside = absurd (omega arith)
      there (text ∷ texts) zero inside = (text, refl)
      there (text ∷ texts) (suc k) inside = there texts k (omega arith)

-- ---- invocations

abbrev invocation_of_parts : List ℕ → Named → Expr → Option (List ℕ) → Bool → UnlinkedInvocation
invocation_of_parts id src input system observed = record { id = id; src = src; input = input; system = system; observed = observed }

invocation_same : (node : List ℕ) (place : ℕ) (members : List MemberParts) (a b : UnlinkedInvocation) → MeansInvocation node place members a
    → MeansInvocation node place members b → a ≡ b
invocation_same node place members a b is is_too =
    let input = expr_or_same expression.Null (get (codes "input") members) a.input b.input is.input is_too.input in
    ap (λ x. invocation_of_parts x a.src a.input a.system a.observed) (is.id ∙ sym is_too.id)
    ∙ ap (λ x. invocation_of_parts b.id x a.input a.system a.observed) (is.src ∙ sym is_too.src)
    ∙ ap (λ x. invocation_of_parts b.id b.src x a.system a.observed) input
    ∙ ap (λ x. invocation_of_parts b.id b.src b.input x a.observed) (is.system ∙ sym is_too.system)
    ∙ ap (λ x. invocation_of_parts b.id b.src b.input b.system x) (is.observed ∙ sym is_too.observed)

invocations_same : (node : List ℕ) (jsons : List OrderedJson) (xs ys : List UnlinkedInvocation) → AreInvocations node jsons xs → AreInvocations node jsons ys → xs ≡ ys
invocations_same node jsons xs ys are are_too = same_list xs ys (are.count ∙ sym are_too.count) (λ k x y at at_too.
    let inside : k < length jsons = subst (λ n. k < n) are.count (slice_get_within xs k x at) in
    let json = there jsons k inside in
    invocation_same node k (members_of json.0) x y (are.each k json.0 x json.1 at) (are_too.each k json.0 y json.1 at_too))
  where
    there : (jsons : List OrderedJson) (k : ℕ) → k < length jsons → (json : OrderedJson) × (slice_get jsons k ≡ Some json)
    there [] k inside = absurd (omega arith)
    there (json ∷ jsons) zero inside = (json, refl)
    there (json ∷ jsons) (suc k) inside = there jsons k (omega arith)

-- ---- nodes

abbrev node_of_parts : List UnlinkedAction → List UnlinkedAction → List UnlinkedTransition → List UnlinkedTransition → List (List ℕ × UnlinkedDelay) → List UnlinkedInvocation → Expr → List (List ℕ) → UnlinkedNode
node_of_parts entry exit transitions always after invoke output tags =
    record { entry = entry; exit = exit; transitions = transitions; always = always; after = after; invoke = invoke; output = output; tags = tags }

node_same : (nodes : List NodeParts) (n : ℕ) (node : NodeParts) (a b : UnlinkedNode) → IsFaultlessAs (open_rows nodes) n (node_role node) node.json
    → MeansNode nodes n node a → MeansNode nodes n node b → a ≡ b
node_same nodes n node a b sound is is_too =
    let rows = open_rows nodes in
    let id = node_id nodes n node in
    let texts = candidates_of id (fields_in node) in
    let always_under = under_key [] (codes "always") (fields_in node) in
    let transitions = transitions_same rows n texts a.transitions b.transitions (candidate_texts rows n node id sound) is.transitions is_too.transitions in
    let always = transitions_same rows n always_under a.always b.always (always_texts rows n node sound) is.always is_too.always in
    let invoke = invocations_same id (invocation_texts (fields_in node)) a.invoke b.invoke is.invoke is_too.invoke in
    let output = expr_or_same expression.Null (get (codes "output") (fields_in node)) a.output b.output is.output is_too.output in
    ap (λ x. node_of_parts x a.exit a.transitions a.always a.after a.invoke a.output a.tags) (is.entry ∙ sym is_too.entry)
    ∙ ap (λ x. node_of_parts b.entry x a.transitions a.always a.after a.invoke a.output a.tags) (is.exit ∙ sym is_too.exit)
    ∙ ap (λ x. node_of_parts b.entry b.exit x a.always a.after a.invoke a.output a.tags) transitions
    ∙ ap (λ x. node_of_parts b.entry b.exit b.transitions x a.after a.invoke a.output a.tags) always
    ∙ ap (λ x. node_of_parts b.entry b.exit b.transitions b.always x a.invoke a.output a.tags) (is.after ∙ sym is_too.after)
    ∙ ap (λ x. node_of_parts b.entry b.exit b.transitions b.always b.after x a.output a.tags) invoke
    ∙ ap (λ x. node_of_parts b.entry b.exit b.transitions b.always b.after b.invoke x a.tags) output
    ∙ ap (λ x. node_of_parts b.entry b.exit b.transitions b.always b.after b.invoke b.output x) (is.tags ∙ sym is_too.tags)

-- ---- machines

-- nodes have one tree
tree_same : (nodes : List NodeParts) (tree other : List Node) → IsTreeOf nodes tree → IsTreeOf nodes other → tree ≡ other
tree_same nodes tree other is is_too = same_list tree other (is.count ∙ sym is_too.count) (λ k x y at at_too.
    let inside : k < length nodes = subst (λ n. k < n) is.count (slice_get_within tree k x at) in
    let node = item_at nodes k inside in
    let row = row_of nodes k node.0 in
    let row_is = row_at nodes k node.0 node.1 in
    let first : Some x ≡ Some (with_named_default (open_rows nodes) k row node.0) = sym at ∙ is.rows k node.0 row node.1 row_is in
    let second : Some y ≡ Some (with_named_default (open_rows nodes) k row node.0) = sym at_too ∙ is_too.rows k node.0 row node.1 row_is in
    cc)

abbrev machine_of_parts : List ℕ → ℕ → List Node → Expr → Expr → List UnlinkedNode → Machine
machine_of_parts name place tree context output nodes = record { name = name; place = place; tree = tree; context = context; output = output; nodes = nodes }

-- what is said of each node of a text
abbrev IsSaid : List NodeParts → List UnlinkedNode → Type 0
IsSaid nodes all =
    (n : ℕ) (node : NodeParts) (said : UnlinkedNode) → slice_get nodes n ≡ Some node → slice_get all n ≡ Some said → MeansNode nodes n node said

-- a text means one machine
pub one_machine : (text : OrderedJson) (a b : Machine) → MeansMachine text a → MeansMachine text b → a ≡ b
one_machine text a b is is_too =
    let same : is_too.nodes ≡ is.nodes = same_nodes 0 None [] text is_too.nodes is.nodes is_too.are_nodes is.are_nodes in
    let sound = faultless_nodes text a is in
    let name : a.name ≡ b.name = is.name ∙ ap root_id (sym same) ∙ sym is_too.name in
    let tree_too : IsTreeOf is.nodes b.tree = subst (λ (l : List NodeParts). IsTreeOf l b.tree) same is_too.tree in
    let tree = tree_same is.nodes a.tree b.tree is.tree tree_too in
    let context = expr_or_same (expression.Map []) (get (codes "context") (members_of text)) a.context b.context is.context is_too.context in
    let output = expr_or_same expression.Null (get (codes "output") (members_of text)) a.output b.output is.output is_too.output in
    let count : length a.nodes ≡ length b.nodes = is.count ∙ ap length (sym same) ∙ sym is_too.count in
    let said_too : IsSaid is.nodes b.nodes = subst (λ (l : List NodeParts). IsSaid l b.nodes) same is_too.said in
    let nodes = same_list a.nodes b.nodes count (λ k x y at at_too.
    let node = item_at is.nodes k (subst (λ n. k < n) is.count (slice_get_within a.nodes k x at)) in
    node_same is.nodes k node.0 x y (node_is_faultless is.nodes k node.0 sound node.1) (is.said k node.0 x node.1 at) (said_too k node.0 y node.1 at_too)) in
    ap (λ x. machine_of_parts x a.place a.tree a.context a.output a.nodes) name
    ∙ ap (λ x. machine_of_parts b.name x a.tree a.context a.output a.nodes) (is.place ∙ sym is_too.place)
    ∙ ap (λ x. machine_of_parts b.name b.place x a.context a.output a.nodes) tree
    ∙ ap (λ x. machine_of_parts b.name b.place b.tree x a.output a.nodes) context
    ∙ ap (λ x. machine_of_parts b.name b.place b.tree b.context x a.nodes) output
    ∙ ap (λ x. machine_of_parts b.name b.place b.tree b.context b.output x) nodes
