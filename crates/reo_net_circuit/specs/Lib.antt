pub mod Circuit
pub mod Counts
pub mod Fault
pub mod Layout
pub mod Offers
pub mod Parts
pub mod CircuitTables
pub mod found_ends
