pub mod Macro
pub mod Allowed
pub mod Trails
pub mod Laws
