pub mod Given
pub mod Noted
pub mod Passes
pub mod Visits
