pub mod TimerLemmas
pub mod QueueLemmas
pub mod OwnerLemmas
pub mod DueLemmas
pub mod NumberedLemmas
pub mod IdLemmas
pub mod CountLemmas
