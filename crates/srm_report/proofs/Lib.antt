mod Fives
pub mod ByMemberLemmas
pub mod Compare
pub mod CountLemmas
pub mod CourseLemmas
pub mod EntryLemmas
mod CutLemmas
mod KeptLossLemmas
mod KeptOperationLemmas
mod KeptSendings
mod ScopeLemmas
pub mod LineLemmas
pub mod LinkLemmas
pub mod ListingLemmas
pub mod LossLemmas
pub mod MemberLemmas
mod FirstRows
pub mod OperationLemmas
mod OperationSums
pub mod TextLemmas
pub mod SeedLemmas
pub mod SendingLemmas
pub mod SinkLemmas
pub mod TableLemmas
mod TakingLemmas
pub mod TallyLemmas
mod SumLemmas
mod TickLemmas
