mod ClashLemmas
mod DefaultLemmas
mod DocumentLemmas
pub mod ExpressionLemmas
mod FaultlessLemmas
mod FirstLemmas
mod GuardLemmas
mod InvocationLemmas
mod KeyLemmas
mod LinkLemmas
pub mod MeaningLemmas
pub mod MemberLemmas
mod NodeFaultLemmas
mod NodeLemmas
mod NodeMeaningLemmas
mod NumberLemmas
mod OneGuardLemmas
mod OneMachineLemmas
mod OutlineLemmas
mod OwnKeyLemmas
mod OwnLemmas
mod PartLemmas
mod ReachLemmas
mod ReadChildLemmas
mod ReadDefaultLemmas
mod ReadFaultLemmas
mod ReadKindLemmas
mod ReadMachineLemmas
mod ReadNumberLemmas
mod ReadRowLemmas
mod ReadTargetLemmas
mod ReadTransitionLemmas
mod ReadTreeLemmas
mod ReadingLemmas
mod RegionLemmas
mod RowLemmas
mod SecondLemmas
mod SortedLemmas
mod TestLemmas
mod TransitionLemmas
mod UniqueLemmas
pub mod ValueLemmas
mod WalkLemmas
