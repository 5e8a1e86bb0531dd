pub mod AllowedLemmas
pub mod OutcomeLemmas
pub mod RunLemmas
pub mod ShortLemmas
pub mod UniqueLemmas
