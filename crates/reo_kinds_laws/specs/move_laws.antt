pub mod Moved
pub mod Offered
