pub mod InPieces
pub mod Sums
pub mod WatchLemmas
pub mod Zips
pub mod GroupedLemmas
