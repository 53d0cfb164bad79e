pub mod Words
pub mod Done
pub mod DrawStatuses
pub mod Drawn
pub mod Tabled
pub mod Rounds
pub mod Answers
