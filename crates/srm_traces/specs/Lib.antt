pub mod Runs
pub mod Scenarios
pub mod Traces
pub mod LocalScenarios
pub mod LocalTraces
