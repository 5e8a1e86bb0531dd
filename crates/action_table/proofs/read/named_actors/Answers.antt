use Rattle.ordered_json.specs.Words.{MemberParts}
use Rattle.action_table.specs.TableMeaning.{MeansActor, MeansActorOf}
use Rattle.action_table.proofs.TableLemmas.{names-kept, names-more}
use Rattle.std.proofs.Common.{List, sym, subst, ◌∙◌}
use Rattle.action_table.proofs.read.named_actors.Goals as goal

pub loop-member-preserved-then-has_name : goal.loop-member-preserved-then-has_name
loop-member-preserved-then-has_name c =
    names-kept MeansActor c.args.members.now c.loop-member.member-index c.member-item.result c.loop-member.names
    c.loop-member-test.true c.member-item.is c.loop-member.invariant (sym c.has_name.ensures ∙ c.if-has_name.true)

pub loop-member-preserved : goal.loop-member-preserved
loop-member-preserved c =
    names-more MeansActor c.args.members.now c.loop-member.member-index c.member-item.result c.loop-member.names c.put_name.new.names c.in_ok-actor.actor
    c.loop-member-test.true c.member-item.is c.loop-member.invariant (sym c.has_name.ensures ∙ c.if-has_name.false)
    (subst (λ (ms : List MemberParts). MeansActorOf ms c.in_ok-actor.actor) c.members_of.ensures c.in_ok-actor.ensures) c.in_ok-put_name.ensures
