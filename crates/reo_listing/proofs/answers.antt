pub mod Ordered
pub mod Orders
pub mod OneTable
pub mod PartTables
pub mod Answered
pub mod Filling
pub mod SomeKnots
pub mod Existing
