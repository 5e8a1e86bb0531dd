-- What is said of a node, from what is said of its parts.
use Rattle.std.proofs.Common.{◌≡◌, ◌<◌, ℕ, List, [], None, Some, ap, sym, ◌∙◌, subst, inl, inr, arith, length, map}
use Rattle.std.proofs.lemmas.List.{length-map}
use Rattle.std.specs.Prelude.{codes, slice_get}
use Rattle.ordered_json.specs.declared.json.OrderedJson.{OrderedJson}
use Rattle.ordered_json.specs.Words.{MemberParts, get}
use Rattle.xs_model.specs.declared.expr.Expr.TheVariants as expression
use Rattle.node_tree.specs.declared.node.Node.{Node}
use Rattle.machine_json.specs.declared.machine.UnlinkedNode.{UnlinkedNode}
use Rattle.machine_json.specs.Faultless.{AreFaultless, IsFaultlessAs}
use Rattle.machine_json.specs.Machines.{AreTransitions, MeansNode, candidates_of, under_key}
use Rattle.machine_json.specs.Meaning.{AreInvocations, MeansExprOr, actions_under, delays_of, invocation_texts, tags_of}
use Rattle.machine_json.specs.declared.nodes.NodeText.{NodeText}
use Rattle.machine_json.specs.Nodes.{NodeParts, node_parts}
use Rattle.machine_json.specs.Rows.{fields_in, node_id, open_rows, row_of}
use Rattle.machine_json.specs.SecondPass.{node_role}
use Rattle.machine_json.proofs.NodeFaultLemmas.{node_faultless}
use Rattle.machine_json.proofs.OutlineLemmas.{length_rows}
use Rattle.machine_json.proofs.RowLemmas.{row_at}

-- a node of a text without faults has none
pub node_is_faultless : (nodes : List NodeParts) (n : ℕ) (node : NodeParts) → AreFaultless nodes → slice_get nodes n ≡ Some node
    → IsFaultlessAs (open_rows nodes) n (node_role node) node.json
node_is_faultless nodes n node sound at = record {
  first_pass = node_faultless 0 None [] sound.text nodes sound.are_nodes (λ fault has. sound.first_pass fault (inl has)) n node at;
  second_pass = λ fault has. sound.second_pass fault (nodes, sound.are_nodes, inr (inl (n, node, at, has)));
}

pub node_means : (nodes : List NodeParts) (n : ℕ) (node : NodeParts) (rows : List Node) (id : List ℕ) (members : List MemberParts) (texts : List OrderedJson) (said : UnlinkedNode)
    → rows ≡ open_rows nodes → AreFaultless nodes → slice_get nodes n ≡ Some node → id ≡ node_id nodes n node → members ≡ fields_in node → texts ≡ invocation_texts members
    → said.entry ≡ actions_under (codes "entry") members → said.exit ≡ actions_under (codes "exit") members
    → (IsFaultlessAs rows n (node_role node) node.json → AreTransitions rows n (candidates_of id (fields_in node)) said.transitions)
    → (IsFaultlessAs rows n (node_role node) node.json → AreTransitions rows n (under_key [] (codes "always") (fields_in node)) said.always)
    → said.after ≡ delays_of id members → AreInvocations id texts said.invoke
    → MeansExprOr expression.Null (get (codes "output") members) said.output → said.tags ≡ tags_of members
    → MeansNode nodes n node said
node_means nodes n node rows id members texts said is_rows sound at is_id same is_texts entry exit transitions always after invoke output tags =
    let fine = node_is_faultless nodes n node sound at in
    let Candidates : List Node → Type 0 = λ r. IsFaultlessAs r n (node_role node) node.json → AreTransitions r n (candidates_of id (fields_in node)) said.transitions in
    let Always : List Node → Type 0 = λ r. IsFaultlessAs r n (node_role node) node.json → AreTransitions r n (under_key [] (codes "always") (fields_in node)) said.always in
    let OfId : List ℕ → Type 0 = λ i. AreTransitions (open_rows nodes) n (candidates_of i (fields_in node)) said.transitions in
    let Invoked : List ℕ → Type 0 = λ i. AreInvocations i (invocation_texts (fields_in node)) said.invoke in
    let Texts : List OrderedJson → Type 0 = λ l. AreInvocations id l said.invoke in
    let Output : List MemberParts → Type 0 = λ m. MeansExprOr expression.Null (get (codes "output") m) said.output in
    record {
      entry = entry ∙ ap (actions_under (codes "entry")) same;
      exit = exit ∙ ap (actions_under (codes "exit")) same;
      transitions = subst OfId is_id (subst Candidates is_rows transitions fine);
      always = subst Always is_rows always fine;
      after = after ∙ ap (delays_of id) same ∙ ap (λ i. delays_of i (fields_in node)) is_id;
      invoke = subst Invoked is_id (subst Texts (is_texts ∙ ap invocation_texts same) invoke);
      output = subst Output same output;
      tags = tags ∙ ap tags_of same;
    }

pub for_node : (nodes : List NodeParts) (n : ℕ) (item : NodeParts) (said : UnlinkedNode) → slice_get nodes n ≡ Some item → MeansNode nodes n item said
    → (node : NodeParts) → slice_get nodes n ≡ Some node → MeansNode nodes n node said
for_node nodes n item said there means node at =
    let both : Some item ≡ Some node = sym there ∙ at in
    let same : item ≡ node = cc in
    let P : NodeParts → Type 0 = λ x. MeansNode nodes n x said in subst P same means

-- the id of a node is that of its row
pub row_id : (nodes : List NodeParts) (n : ℕ) (node : NodeParts) (rows : List Node) (row : Node) → rows ≡ open_rows nodes → slice_get nodes n ≡ Some node
    → slice_get rows n ≡ Some row → row.id ≡ node_id nodes n node
row_id nodes n node rows row is at there =
    let both : Some row ≡ Some (row_of nodes n node) = sym there ∙ ap (λ r. slice_get r n) is ∙ row_at nodes n node at in
    let same : row ≡ row_of nodes n node = cc in ap (λ (r : Node). r.id) same

pub is_row : (nodes : List NodeText) (n : ℕ) (rows : List Node) → rows ≡ open_rows (map node_parts nodes) → n < length nodes → n < length rows
is_row nodes n rows is inside =
    let count : length rows ≡ length nodes = ap length is ∙ length_rows (map node_parts nodes) ∙ length-map nodes node_parts in
    omega arith
