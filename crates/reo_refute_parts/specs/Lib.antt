pub mod lines
pub mod lists
pub mod places
