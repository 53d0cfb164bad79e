pub mod Brought
pub mod Kept
pub mod Laid
pub mod Shown
pub mod Whole
