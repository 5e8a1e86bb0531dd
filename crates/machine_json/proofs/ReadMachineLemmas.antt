-- A machine that was read from a text in which no object has a key twice may be linked.
use Rattle.ordered_json.specs.declared.json.OrderedJson.{OrderedJson}
use Rattle.ordered_json.specs.OwnKeys.{HasOwnKeys}
use Rattle.machine_json.specs.declared.machine.Machine.{Machine}
use Rattle.machine_json.specs.Machines.{MeansMachine}
use Rattle.machine_json.specs.ReadMachine.{IsReadMachine}
use Rattle.machine_json.proofs.ReadDefaultLemmas.{defaults_read}
use Rattle.machine_json.proofs.ReadNumberLemmas.{numbers_read}
use Rattle.machine_json.proofs.ReadTargetLemmas.{targets_read}
use Rattle.machine_json.proofs.ReadTransitionLemmas.{passive_read, sources_read}
use Rattle.machine_json.proofs.ReadTreeLemmas as tree

pub is_read : (text : OrderedJson) (machine : Machine) → MeansMachine text machine → HasOwnKeys text → IsReadMachine machine
is_read text machine means own = record {
  one_each = tree.one_each text machine means;
  numbers = numbers_read text machine means;
  root = tree.root text machine means;
  parents = tree.parents text machine means;
  keys = tree.keys text machine means own;
  children = tree.children text machine means;
  initials = tree.initials text machine means own;
  defaults = defaults_read text machine means;
  sources = sources_read text machine means;
  passive = passive_read text machine means;
  after = tree.after text machine means;
  targets = targets_read text machine means;
}
