pub mod programs
pub mod base
pub mod parts
pub mod items
pub mod tables
pub mod walk
pub mod uses
pub mod laws
