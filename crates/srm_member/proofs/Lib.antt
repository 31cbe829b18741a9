pub mod AllIn
pub mod Bounds
mod Calls
pub mod Compare
mod Doublings
mod Earliest
mod Firsts
mod Indexes
pub mod Changes
pub mod FewerTimers
mod AdaptingProofs
mod Alike
mod IntervalChanges
pub mod IntervalProofs
pub mod LawProofs
mod LocalProofs
mod TimerLaws
pub mod Widening
pub mod WideProofs
mod Losses
mod OtherEvents
pub mod Maps
pub mod NameTests
pub mod OrderLemmas
pub mod PlaceLemmas
pub mod TableChanges
pub mod ByMemberLemmas
