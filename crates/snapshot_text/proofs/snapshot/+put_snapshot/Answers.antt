use Rattle.std.proofs.Common.{ℕ, List, rules, ◌-◌, ◌∙◌, ◌++◌, [], ap, drop, sym}
use Rattle.std.specs.Prelude.{codes, option_copied}
use Rattle.serde_json.specs.Data.{Data, string}
use Rattle.action_table.specs.Definitions.{office_definitions}
use Rattle.snapshot_text.specs.Snapshots.{child_data, snapshot_data, snapshot_members}
use Rattle.snapshot_text.specs.Tokens.{data_tokens, keyed_data_tokens}
use Rattle.snapshot_text.specs.ValueData.{number_data}
use Rattle.snapshot_text.proofs.SnapshotLemmas.{kid_more, no_actor, no_levels, of_actor, own_is}
use Rattle.snapshot_text.proofs.TokenLemmas.{child_written, on_ok, snapshot_written}
use Rattle.snapshot_text.proofs.snapshot.+put_snapshot.Goals as goal

pub returns-then-levels-eq0-clause-tokens :
    goal.returns-then-levels-eq0-clause-tokens
returns-then-levels-eq0-clause-tokens t c =
    let none = no_levels (office_definitions c.args.defs.now) c.args.state.now c.args.levels c.args.number c.if-levels-eq0.true in
    on_ok c.null.result (λ written. written ∙ ap (λ d. c.args.writer.now.tokens ++ data_tokens d) (sym none)) c.null.ensures.ok

pub returns-in_default-clause-tokens : goal.returns-in_default-clause-tokens
returns-in_default-clause-tokens t c =
    let held = sym c.find_record.ensures ∙ ap option_copied c.in_default.is in
    let none = no_actor (office_definitions c.args.defs.now) c.args.state.now c.args.levels c.args.number held in
    on_ok c.null-in_default.result (λ written. written ∙ ap (λ d. c.args.writer.now.tokens ++ data_tokens d) (sym none)) c.null-in_default.ensures.ok

pub loop-id-preserved : goal.loop-id-preserved
loop-id-preserved t c =
    let snapshot : ℕ → Data = snapshot_data (office_definitions c.args.defs.now) c.args.state.now (c.args.levels - 1) in
    let kid = c.loop-id-item.result in
    let old = c.loop-id.writer.tokens in
    let child = child_written kid.0 (snapshot kid.1) old c.in_ok-begin_object-2.ensures.ok
    (c.in_ok-put_text.ensures.tokens ∙ ap (λ (id : List ℕ). c.begin_object-in-loop-id.new.self.tokens ++ keyed_data_tokens (codes "id", string id)) c.as_str.ensures)
    c.in_ok-key-2.ensures.ok c.in_ok-put_snapshot.ensures.tokens c.in_ok-end_object.ensures.ok in (
      search rules,
      kid_more (λ (k : List ℕ × ℕ). data_tokens (child_data snapshot k)) (keyed_data_tokens (codes "actor", number_data c.in-Some.actor.now.number)) (codes "children")
          c.as_slice-id-items.result.now c.loop-id.id-index kid c.args.writer.now.tokens old c.end_object.new.self.tokens c.loop-id-test.true c.loop-id-item.is c.loop-id.invariant.1 child,
    )

pub put_members-requires-clause-machine :
    goal.put_members-requires-clause-machine
put_members-requires-clause-machine t c =
    (own_is (office_definitions c.args.defs.now) c.args.state.now c.args.number c.in-Some.actor.now c.requires (sym c.find_record.ensures ∙ ap option_copied c.in-Some.is)).0

pub put_members-requires-clause-in_order :
    goal.put_members-requires-clause-in_order
put_members-requires-clause-in_order t c =
    (own_is (office_definitions c.args.defs.now) c.args.state.now c.args.number c.in-Some.actor.now c.requires (sym c.find_record.ensures ∙ ap option_copied c.in-Some.is)).1

pub returns-clause-tokens : goal.returns-clause-tokens
returns-clause-tokens t c =
    let definitions = office_definitions c.args.defs.now in
    let state = c.args.state.now in
    let actor = c.in-Some.actor.now in
    let old = c.args.writer.now.tokens in
    let held = sym c.find_record.ensures ∙ ap option_copied c.in-Some.is in
    let shown = of_actor definitions state c.args.levels c.args.number actor c.if-levels-eq0.false held in
    on_ok c.end_object-2.result
    (λ ended. snapshot_written (codes "actor", number_data actor.number) (codes "children") (child_data (snapshot_data definitions state (c.args.levels - 1))) actor.kids
    c.as_slice-id-items.result.now c.loop-id.id-index (drop 2 (snapshot_members definitions [] actor)) old c.loop-id.writer.tokens
    c.loop-id.invariant.1 c.as_slice-id-items.ensures c.loop-id-test.false c.in_ok-end_array.ensures.ok c.in_ok-put_members.ensures.tokens ended
    ∙ ap (λ d. old ++ data_tokens d) (sym shown))
    c.end_object-2.ensures.ok
