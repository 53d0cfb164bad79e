pub mod Outcome
pub mod Rounds
pub mod Runs
pub mod at_ports
