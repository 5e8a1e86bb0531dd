use Rattle.std.proofs.Common.{◌≡◌, ◌≢◌, ◌∙◌, ◌≤◌, ◌+◌, Some, ap, arith, drop, get_or, length, subst, sym}
use Rattle.std.specs.Prelude.{slice_get, vec_len}
use Rattle.std.proofs.lemmas.Bool.{eq-eqb, eqb-true}
use Rattle.office_types.specs.StateValue.{active_nodes, children_among}
use Rattle.office_types.proofs.StateValueLemmas.{WaitFor, first_gone, first_here, last_taken, none_active, none_wait, wait_more, wait_same}
use Rattle.office_types.proofs.state_values.state_value.Goals as goal

pub loop-children-init : goal.loop-children-init
loop-children-init c =
    let len = c.in_ok-waiting.ensures.len in
    record {
      within = omega (arith, len);
      held = none_wait c.args.tree.now c.args.active.now c.in_ok-waiting.waiting.items len c.in_ok-waiting.ensures.empty;
      none = λ zero. none_active c.args.tree.now c.args.active.now (omega (arith, len, zero));
    }

pub returns-then-is_empty : goal.returns-then-is_empty
returns-then-is_empty c =
    let nodes = c.args.tree.now in
    let active = c.args.active.now in
    let left = c.pop.new.self.items in
    let place = length left in
    let node = c.node-node.result.now in
    let taken = last_taken nodes active c.loop-children.waiting.items left c.in-Some.children c.in-Some.ensures.items c.loop-children.invariant.held in
    let within = c.loop-children.invariant.within in
    let count = taken.count in
    let len : c.len.result ≡ place = c.len.ensures ∙ c.pop.new.self.ok.0 in
    let is : slice_get nodes (get_or active place 0) ≡ Some node = ap (λ k. slice_get nodes (get_or active k 0)) (sym len) ∙ c.node-node.ensures in
    let first : place ≡ 0 = sym c.pop.new.self.ok.0 ∙ eqb-true (vec_len c.pop.new.self) 0 (sym c.is_empty.ensures ∙ c.if-is_empty.true) in
    c.in_ok-value.ensures (children_among (get_or active place 0) (active_nodes nodes (drop (place + 1) active))) taken.taken
    ∙ first_here nodes active place node first (omega (arith, within, count)) is

pub loop-children-preserved-in-Continue-branch-4 :
    goal.loop-children-preserved-in-Continue-branch-4
loop-children-preserved-in-Continue-branch-4 c =
    let nodes = c.args.tree.now in
    let active = c.args.active.now in
    let left = c.pop.new.self.items in
    let new = c.wait_for_parent.new.waiting.items in
    let place = length left in
    let node = c.node-node.result.now in
    let taken = last_taken nodes active c.loop-children.waiting.items left c.in-Some.children c.in-Some.ensures.items c.loop-children.invariant.held in
    let within = c.loop-children.invariant.within in
    let count = taken.count in
    let len : c.len.result ≡ place = c.len.ensures ∙ c.pop.new.self.ok.0 in
    let is : slice_get nodes (get_or active place 0) ≡ Some node = ap (λ k. slice_get nodes (get_or active k 0)) (sym len) ∙ c.node-node.ensures in
    let same : length new ≡ place = c.in_ok-wait_for_parent.ensures.len in
    let some : place ≢ 0 = λ zero.
    let yes = c.is_empty.ensures ∙ eq-eqb (vec_len c.pop.new.self) 0 (c.pop.new.self.ok.0 ∙ zero) in
    let no = c.if-is_empty.false in
    cc in
    record {
      within = omega (arith, within, count, same);
      held = subst (λ p. WaitFor nodes active new p) (sym same)
          (wait_more nodes active place node c.in_ok-value.value c.in_ok-child.child left new (omega (arith, within, count)) is
          (c.in_ok-value.ensures (children_among (get_or active place 0) (active_nodes nodes (drop (place + 1) active))) taken.taken)
          c.in_ok-child.ensures same c.in_ok-wait_for_parent.ensures.added taken.wait);
      none = λ zero. absurd (some (sym same ∙ zero));
    }

pub loop-children-preserved : goal.loop-children-preserved
loop-children-preserved c =
    let nodes = c.args.tree.now in
    let active = c.args.active.now in
    let left = c.pop.new.self.items in
    let place = length left in
    let taken = last_taken nodes active c.loop-children.waiting.items left c.in-Some.children c.in-Some.ensures.items c.loop-children.invariant.held in
    let within = c.loop-children.invariant.within in
    let count = taken.count in
    let len : c.len.result ≡ place = c.len.ensures ∙ c.pop.new.self.ok.0 in
    let off = c.if-n-len.false in
    let all = c.len-in-Some.ensures.count in
    let past : length nodes ≤ get_or active place 0 = subst (λ k. length nodes ≤ get_or active k 0) len (omega (arith, off, all)) in
    record {
      within = omega (arith, within, count);
      held = wait_same nodes active place left (omega (arith, within, count)) past taken.wait;
      none = λ zero. first_gone nodes active c.requires (subst (λ k. length nodes ≤ get_or active k 0) zero past);
    }
