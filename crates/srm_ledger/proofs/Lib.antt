pub mod Joined
pub mod Zips
pub mod SumsOver
pub mod Keeps
pub mod Tied
