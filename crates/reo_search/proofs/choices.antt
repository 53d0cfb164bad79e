pub mod Counted
pub mod Bettering
pub mod Tried
pub mod Remains
pub mod Matched
pub mod Keeping
pub mod Singles
