pub mod Remaining
pub mod Trying
pub mod Best
pub mod KnotSearch
