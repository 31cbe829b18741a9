pub mod ExitsKept
pub mod Index
pub mod NewPackets
pub mod Hearing
pub mod HeardRows
pub mod Opened
pub mod Openings
pub mod PhaseLemmas
pub mod StreamLemmas
pub mod SeenLemmas
pub mod Stepping
pub mod PutLemmas
pub mod CellLists
pub mod JobLemmas
pub mod Ways
pub mod Everywhere
pub mod SoonLemmas
pub mod SoonGroups
pub mod WindowLemmas
pub mod Merging
mod Sources
mod KeptLemmas
mod Leaving
mod WatchedLemmas
mod WatchWindows
mod KeptTurns
mod MergedSinks
pub mod CellEnds
