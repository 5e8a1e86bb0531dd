use Rattle.std.proofs.Common.{◌<◌, ◌+◌, length, arith}
use Rattle.std.specs.BTreeSet.{contains}
use Rattle.std.specs.Ordering.{nat_cmp}
use Rattle.step_sets.specs.Entries.{IsEntered}
use Rattle.step_sets.proofs.ProspectLemmas.{all_done, can_be_entered, done_domain, done_entered, done_shut, entered_inside, first_inside, first_of, first_rises, no_keys, nothing_done, pending_inside, rest_inside}
use Rattle.step_sets.proofs.SetLemmas.{All-from_set}
use Rattle.step_sets.proofs.entries.entry_set.Goals as goal

pub loop-node-init : goal.loop-node-init
loop-node-init c =
    let nodes = c.args.tree.now in
    let has = contains nat_cmp c.in_ok-pending.pending in
    (0, rw c.new-entries.ensures.items (nothing_done nodes c.len-nodes.ensures.tree c.args.goals.now c.args.domain has c.in_ok-pending.ensures))

pub is_entered-requires-clause-node : goal.is_entered-requires-clause-node
is_entered-requires-clause-node c =
    let (bound, done) = c.loop-node.invariant in
    pending_inside c.args.tree.now c.len-nodes.ensures.tree c.args.goals.now c.args.domain c.requires.goals c.requires.domain bound c.in-Some.node ((done.pending c.in-Some.node).0 c.in-Some.ensures.member).1

pub open-requires-clause-node : goal.open-requires-clause-node
open-requires-clause-node c =
    let (bound, done) = c.loop-node.invariant in
    pending_inside c.args.tree.now c.len-nodes.ensures.tree c.args.goals.now c.args.domain c.requires.goals c.requires.domain bound c.in-Some.node ((done.pending c.in-Some.node).0 c.in-Some.ensures.member).1

pub open-requires-clause-inside : goal.open-requires-clause-inside
open-requires-clause-inside c =
    let (bound, done) = c.loop-node.invariant in
    let has = contains nat_cmp c.loop-node.pending in
    let rest = contains nat_cmp c.pop_first.new.self in
    let first = first_of has c.in-Some.node rest c.in-Some.ensures.member c.in-Some.ensures.least c.in-Some.ensures.updates.0 in
    rest_inside c.args.tree.now c.len-nodes.ensures.tree c.args.goals.now c.args.domain bound has c.loop-node.entries.items done c.in-Some.node rest first c.requires.goals c.requires.domain

pub loop-node-preserved-in-Continue-branch-3 : goal.loop-node-preserved-in-Continue-branch-3
loop-node-preserved-in-Continue-branch-3 c =
    let (bound, done) = c.loop-node.invariant in
    let k = c.in-Some.node in
    let has = contains nat_cmp c.loop-node.pending in
    let rest = contains nat_cmp c.pop_first.new.self in
    let new = contains nat_cmp c.open.new.pending in
    let first = first_of has k rest c.in-Some.ensures.member c.in-Some.ensures.least c.in-Some.ensures.updates.0 in
    (k + 1, rw c.in_ok-push.ensures.items (done_entered c.args.tree.now c.len-nodes.ensures.tree c.args.goals.now c.args.domain bound has c.loop-node.entries.items done k rest first new (c.is_entered.ensures.0 c.if-is_entered.true) c.in_ok-open.ensures))

pub loop-node-smaller-in-Continue-branch-3 : goal.loop-node-smaller-in-Continue-branch-3
loop-node-smaller-in-Continue-branch-3 c =
    let nodes = c.args.tree.now in
    let tree = c.len-nodes.ensures.tree in
    let goals = c.args.goals.now in
    let domain = c.args.domain in
    let (bound, done) = c.loop-node.invariant in
    let k = c.in-Some.node in
    let has = contains nat_cmp c.loop-node.pending in
    let rest = contains nat_cmp c.pop_first.new.self in
    let new = contains nat_cmp c.open.new.pending in
    let first = first_of has k rest c.in-Some.ensures.member c.in-Some.ensures.least c.in-Some.ensures.updates.0 in
    let inside = first_inside nodes tree goals domain bound has c.loop-node.entries.items done k rest first c.requires.goals c.requires.domain in
    let now = done_entered nodes tree goals domain bound has c.loop-node.entries.items done k rest first new (c.is_entered.ensures.0 c.if-is_entered.true) c.in_ok-open.ensures in
    first_rises c.loop-node.pending.keys c.pop_first.new.self.keys c.open.new.pending.keys k (length nodes) inside c.in-Some.ensures.removal (λ n h. let next = ((now.pending n).0 h).0 in omega arith)

pub open-requires-then-is_node-clause-inside : goal.open-requires-then-is_node-clause-inside
open-requires-then-is_node-clause-inside c =
    let (bound, done) = c.loop-node.invariant in
    let has = contains nat_cmp c.loop-node.pending in
    let rest = contains nat_cmp c.pop_first.new.self in
    let first = first_of has c.in-Some.node rest c.in-Some.ensures.member c.in-Some.ensures.least c.in-Some.ensures.updates.0 in
    rest_inside c.args.tree.now c.len-nodes.ensures.tree c.args.goals.now c.args.domain bound has c.loop-node.entries.items done c.in-Some.node rest first c.requires.goals c.requires.domain

pub loop-node-preserved-in-Continue-branch-4 : goal.loop-node-preserved-in-Continue-branch-4
loop-node-preserved-in-Continue-branch-4 c =
    let nodes = c.args.tree.now in
    let tree = c.len-nodes.ensures.tree in
    let goals = c.args.goals.now in
    let domain = c.args.domain in
    let (bound, done) = c.loop-node.invariant in
    let k = c.in-Some.node in
    let has = contains nat_cmp c.loop-node.pending in
    let rest = contains nat_cmp c.pop_first.new.self in
    let new = contains nat_cmp c.open-then-is_node.new.pending in
    let first = first_of has k rest c.in-Some.ensures.member c.in-Some.ensures.least c.in-Some.ensures.updates.0 in
    let out : ¬ IsEntered nodes goals domain k = λ e. let yes = c.is_entered.ensures.1 (can_be_entered nodes tree goals domain k e) in let off = c.if-is_entered.false in cc in
    (k + 1, done_domain nodes tree goals domain bound has c.loop-node.entries.items done k rest first new out (c.is_node.ensures.0 c.if-is_node.true) c.in_ok-open-2.ensures)

pub loop-node-smaller-in-Continue-branch-4 : goal.loop-node-smaller-in-Continue-branch-4
loop-node-smaller-in-Continue-branch-4 c =
    let nodes = c.args.tree.now in
    let tree = c.len-nodes.ensures.tree in
    let goals = c.args.goals.now in
    let domain = c.args.domain in
    let (bound, done) = c.loop-node.invariant in
    let k = c.in-Some.node in
    let has = contains nat_cmp c.loop-node.pending in
    let rest = contains nat_cmp c.pop_first.new.self in
    let new = contains nat_cmp c.open-then-is_node.new.pending in
    let first = first_of has k rest c.in-Some.ensures.member c.in-Some.ensures.least c.in-Some.ensures.updates.0 in
    let out : ¬ IsEntered nodes goals domain k = λ e. let yes = c.is_entered.ensures.1 (can_be_entered nodes tree goals domain k e) in let off = c.if-is_entered.false in cc in
    let inside = first_inside nodes tree goals domain bound has c.loop-node.entries.items done k rest first c.requires.goals c.requires.domain in
    let now = done_domain nodes tree goals domain bound has c.loop-node.entries.items done k rest first new out (c.is_node.ensures.0 c.if-is_node.true) c.in_ok-open-2.ensures in
    first_rises c.loop-node.pending.keys c.pop_first.new.self.keys c.open-then-is_node.new.pending.keys k (length nodes) inside c.in-Some.ensures.removal (λ n h. let next = ((now.pending n).0 h).0 in omega arith)

pub loop-node-preserved : goal.loop-node-preserved
loop-node-preserved c =
    let nodes = c.args.tree.now in
    let tree = c.len-nodes.ensures.tree in
    let goals = c.args.goals.now in
    let domain = c.args.domain in
    let (bound, done) = c.loop-node.invariant in
    let k = c.in-Some.node in
    let has = contains nat_cmp c.loop-node.pending in
    let rest = contains nat_cmp c.pop_first.new.self in
    let first = first_of has k rest c.in-Some.ensures.member c.in-Some.ensures.least c.in-Some.ensures.updates.0 in
    let out : ¬ IsEntered nodes goals domain k = λ e. let yes = c.is_entered.ensures.1 (can_be_entered nodes tree goals domain k e) in let off = c.if-is_entered.false in cc in
    (k + 1, done_shut nodes tree goals domain bound has c.loop-node.entries.items done k rest first out (λ is. let yes = c.is_node.ensures.1 is in let off = c.if-is_node.false in cc))

pub loop-node-smaller : goal.loop-node-smaller
loop-node-smaller c =
    let nodes = c.args.tree.now in
    let tree = c.len-nodes.ensures.tree in
    let goals = c.args.goals.now in
    let domain = c.args.domain in
    let (bound, done) = c.loop-node.invariant in
    let k = c.in-Some.node in
    let has = contains nat_cmp c.loop-node.pending in
    let rest = contains nat_cmp c.pop_first.new.self in
    let first = first_of has k rest c.in-Some.ensures.member c.in-Some.ensures.least c.in-Some.ensures.updates.0 in
    let inside = first_inside nodes tree goals domain bound has c.loop-node.entries.items done k rest first c.requires.goals c.requires.domain in
    first_rises c.loop-node.pending.keys c.pop_first.new.self.keys c.pop_first.new.self.keys k (length nodes) inside c.in-Some.ensures.removal (λ n h. let was = (first.popped n).0 h in let upto = first.least n was.0 in let apart = was.1 in omega arith)

pub returns-clause-entries : goal.returns-clause-entries
returns-clause-entries c =
    let (bound, done) = c.loop-node.invariant in
    let none = no_keys c.loop-node.pending.keys (λ some. let has = c.in_default.ensures.variant.1 some in cc) in
    rw (c.from_rising.ensures, c.from_vec.ensures)
    (all_done c.args.tree.now c.len-nodes.ensures.tree c.args.goals.now c.args.domain bound (contains nat_cmp c.loop-node.pending) c.loop-node.entries.items done none)

pub returns-clause-of_tree : goal.returns-clause-of_tree
returns-clause-of_tree c =
    let nodes = c.args.tree.now in
    All-from_set (λ n. n < length nodes) _ (returns-clause-entries c)
    (λ n e. entered_inside nodes c.len-nodes.ensures.tree c.args.goals.now c.args.domain n e)
