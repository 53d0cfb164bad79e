pub mod Traces
pub mod ProvedRuns
