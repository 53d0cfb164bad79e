pub mod Interval
pub mod Kinds
pub mod Least
pub mod WellFormed
pub mod Typing
pub mod Valued
pub mod Views
