pub mod SortedLemmas
pub mod ItemLemmas
pub mod KeyIndexLemmas
pub mod SlotLemmas
