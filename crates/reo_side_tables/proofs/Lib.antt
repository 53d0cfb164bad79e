pub mod Sides
pub mod Growing
pub mod Found
pub mod Cells
pub mod Adding
pub mod Bytes
