pub mod Faults
pub mod Kinds
pub mod Laws
pub mod Nodes
pub mod Tables
pub mod Targets
