pub mod Determined
pub mod Judged
pub mod Passing
pub mod Stepping
pub mod Taking
