use Rattle.action_table.proofs.OneDefsLemmas.{LowerLaws, never-both, one-fault}
use Rattle.action_table.proofs.laws.defs_mean_once.Goals as goal

pub returns : goal.returns
returns c =
    let laws : LowerLaws = record {
      one_json = c.meaning_is_unique.ensures;
      no_json_fault = c.meaning_excludes_fault.ensures;
      one_json_fault = c.fault_is_unique.ensures;
      machine = c.machine_means_once.ensures;
      table = c.table_means_once.ensures;
      link = c.link_answers_once.ensures;
    } in
    record { one_fault = one-fault laws; never_both = never-both laws }
