pub mod GuardLemmas
pub mod LawLemmas
