-- The member that is found has the parts that are found.
use Rattle.std.proofs.Common.{rules}
use Rattle.std.specs.Str.{bytes_eq}
use Rattle.ordered_json.specs.Words.{member_parts}
use Rattle.ordered_json.proofs.MemberLemmas.{find-map}
use Rattle.ordered_json.proofs.lookup.get.Goals as goal

pub returns-in_err-find_member : goal.returns-in_err-find_member
returns-in_err-find_member c = rw (find-map (λ m. bytes_eq m.key c.args.key.now) member_parts c.args.members.now) (search rules)

pub returns : goal.returns
returns c = rw (find-map (λ m. bytes_eq m.key c.args.key.now) member_parts c.args.members.now) (search rules)
