pub mod Faults
pub mod Crews
pub mod Hearers
pub mod Sinks
pub mod Watches
pub mod InTurn
pub mod WatchSinks
pub mod Grouped
