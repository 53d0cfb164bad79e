pub mod check
pub mod next
pub mod proving
pub mod Footing
