pub mod Bits
pub mod Next
pub mod Where
pub mod dues
