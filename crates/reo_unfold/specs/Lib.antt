pub mod Known
pub mod Fits
pub mod Local
pub mod Ground
pub mod Adds
pub mod Frames
