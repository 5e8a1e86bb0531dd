pub mod Rising
pub mod Names
pub mod Compact
pub mod Equality
pub mod Paths
pub mod Eval
pub mod Laws
pub mod formers
