pub mod OneBit
pub mod Lists
pub mod Keeping
pub mod Search
