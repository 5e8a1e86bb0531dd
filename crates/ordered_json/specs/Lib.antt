pub mod Faults
pub mod Grammar
pub mod Laws
pub mod Meaning
pub mod OwnKeys
pub mod Spell
pub mod Steps
pub mod Words
