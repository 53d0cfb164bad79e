pub mod stepping
pub mod flowing
