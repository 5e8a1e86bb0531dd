pub mod DefaultLemmas
pub mod FaultLemmas
pub mod NameLemmas
pub mod PlaceLemmas
pub mod RisingLemmas
pub mod TargetLemmas
pub mod TreeLemmas
