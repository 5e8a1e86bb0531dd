pub mod Guards
pub mod Definitions
pub mod Laws
