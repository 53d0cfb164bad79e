pub mod Listing
pub mod Marks
pub mod Grouping
pub mod Flowing
pub mod Boards
pub mod Ends
pub mod Sets
