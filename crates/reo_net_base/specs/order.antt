pub mod Arrows
pub mod Front
pub mod Links
pub mod Queue
pub mod Sorted
