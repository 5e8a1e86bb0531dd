pub mod Books
pub mod Sorted
pub mod KeyIndex
pub mod NumberedItems
pub mod Slots
pub mod SlotLends
