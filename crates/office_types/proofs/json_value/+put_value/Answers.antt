use Rattle.office_types.proofs.ValueLemmas.{list_written, map_written}
use Rattle.office_types.proofs.json_value.+put_value.Goals as goal

pub returns-after-loop-member-clause-tokens : goal.returns-after-loop-member-clause-tokens
returns-after-loop-member-clause-tokens t c =
    list_written c.end_array.result c.args.writer.now.tokens c.loop-member.writer.tokens c.end_array.new.self.tokens c.in-List.members
    c.as_slice-member-items.result.now c.loop-member.member-index c.args.value.now
    c.end_array.ensures.ok c.loop-member.invariant.1 c.as_slice-member-items.ensures c.loop-member-test.false c.in-List.is

pub returns-after-loop-key-clause-tokens : goal.returns-after-loop-key-clause-tokens
returns-after-loop-key-clause-tokens t c =
    map_written c.end_object.result c.args.writer.now.tokens c.loop-key.writer.tokens c.end_object.new.self.tokens c.in-Map.members
    c.as_slice-key-items.result.now c.loop-key.key-index c.args.value.now
    c.end_object.ensures.ok c.loop-key.invariant.1 c.as_slice-key-items.ensures.pairs c.loop-key-test.false c.in-Map.is
