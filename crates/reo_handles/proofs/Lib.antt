pub mod AtLemmas
pub mod Dropping
pub mod FitsLemmas
pub mod Numbers
pub mod Places
pub mod Rows
pub mod Words
