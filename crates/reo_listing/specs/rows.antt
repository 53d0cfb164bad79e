pub mod Full
pub mod Lookups
pub mod Meeting
pub mod PartTables
