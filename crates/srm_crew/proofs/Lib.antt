pub mod JobsSoFar
pub mod Gathering
pub mod Keeps
pub mod Peeling
pub mod WorkedLemmas
pub mod Ordering
pub mod JobsShared
pub mod JobPieces
pub mod Hearers
pub mod Counts
mod WatchedCells
mod WatchedSoFar
pub mod WatchedPieces
