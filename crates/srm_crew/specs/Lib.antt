pub use Rattle.srm_interfaces.specs.Faults
pub use Rattle.srm_interfaces.specs.Crews
pub use Rattle.srm_interfaces.specs.Hearers
pub mod Pieces
pub mod Indices
pub mod Passes
pub mod Shared
pub mod Watched
