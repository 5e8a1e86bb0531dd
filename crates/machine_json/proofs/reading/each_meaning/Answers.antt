use Rattle.std.proofs.Common.{◌≡◌, ◌∙◌, ◌+◌, ◌∷◌, [], List, ap, arith, length, length-append, map, sym}
use Rattle.std.specs.Prelude.{slice_get}
use Rattle.std.proofs.lemmas.List.{length-map}
use Rattle.machine_json.specs.declared.machine.UnlinkedNode.{UnlinkedNode}
use Rattle.machine_json.specs.Nodes.{node_parts}
use Rattle.machine_json.proofs.OutlineLemmas.{length_rows}
use Rattle.machine_json.proofs.ReadingLemmas.{one_more_said}
use Rattle.machine_json.proofs.reading.each_meaning.Goals as goal

pub node_meaning-requires-clause-inside : goal.node_meaning-requires-clause-inside
node_meaning-requires-clause-inside c =
    let rows : length c.args.outline.now ≡ length c.args.nodes.now = ap length c.requires.outline ∙ length_rows (map node_parts c.args.nodes.now) ∙ length-map c.args.nodes.now node_parts in
    omega (arith, c.len-n-end.ensures.count, c.loop-n-test.true)

pub loop-n-preserved : goal.loop-n-preserved
loop-n-preserved c =
    let nodes = map node_parts c.args.nodes.now in
    let one = c.in_ok-node_meaning.field-0 in
    record {
      count = ap length c.in_ok-push.ensures.items ∙ length-append c.loop-n.said.items (one ∷ []) ∙ ap (λ n. n + 1) c.loop-n.invariant.count;
      each = one_more_said nodes c.loop-n.n c.loop-n.said.items c.push.new.self.items one c.in_ok-push.ensures.items c.loop-n.invariant.count
          c.loop-n.invariant.each c.in_ok-node_meaning.ensures;
    }

pub returns-clause-count : goal.returns-clause-count
returns-clause-count c =
    let rows : length c.args.outline.now ≡ length c.args.nodes.now = ap length c.requires.outline ∙ length_rows (map node_parts c.args.nodes.now) ∙ length-map c.args.nodes.now node_parts in
    let all : c.loop-n.n ≡ length c.args.nodes.now = omega (arith, c.len-n-end.ensures.count, c.loop-n-test.false, c.loop-n.auto.n-end) in
    ap length c.from_vec.ensures ∙ c.loop-n.invariant.count ∙ all

pub returns-clause-each : goal.returns-clause-each
returns-clause-each c n node said at said_at =
    c.loop-n.invariant.each n node said at (ap (λ (l : List UnlinkedNode). slice_get l n) (sym c.from_vec.ensures) ∙ said_at)
