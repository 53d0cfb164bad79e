pub mod Entries
pub mod Judged
pub mod Ends
pub mod Refused
