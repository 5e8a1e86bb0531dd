use Rattle.std.proofs.Common.{arith}
use Rattle.action_table.specs.declared.role.TableRole.TheVariants as role
use Rattle.action_table.specs.Shapes.{members_in}
use Rattle.action_table.proofs.OneTableLemmas.{table-same}
use Rattle.action_table.proofs.laws.table_means_once.Goals as goal

pub returns : goal.returns
returns c = record {
  one_table = λ json table other is_table is_other. table-same (members_in role.Implementations json) table other is_table.meaning is_other.meaning;
  one_place = λ json place other least other_least. omega (arith, least.no_earlier other other_least.there, other_least.no_earlier place least.there);
  never_both = λ json table place is_table least. is_table.faultless place least.there;
}
