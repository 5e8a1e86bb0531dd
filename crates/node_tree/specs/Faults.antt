-- The faults of a tree that are those of an outline.
use Rattle.node_tree.specs.declared.fault.OutlineFault.{OutlineFault}
use Rattle.node_tree.specs.declared.fault.OutlineFault.TheVariants.{NoNode, Memory}
use Rattle.node_tree.specs.declared.fault.TreeFault.{TreeFault}
use Rattle.node_tree.specs.declared.fault.TreeFault.TheVariants.{NoNode as TreeNoNode, Memory as TreeMemory}

-- the same fault, of a tree
abbrev pub tree_fault : OutlineFault → TreeFault
tree_fault (NoNode n) = TreeNoNode n
tree_fault Memory = TreeMemory
