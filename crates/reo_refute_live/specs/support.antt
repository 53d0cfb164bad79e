pub mod Columns
pub mod Families
pub mod Flows
pub mod Asked
pub mod Marks
