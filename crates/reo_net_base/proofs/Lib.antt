pub mod Numbers
pub mod OwnGroups
pub mod Marks
pub mod Ends
pub mod Items
pub mod Orders
