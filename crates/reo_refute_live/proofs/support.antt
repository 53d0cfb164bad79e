pub mod Adding
pub mod Giving
pub mod Keeping
pub mod LiveLemmas
pub mod Reading
pub mod Supporting
pub mod Working
