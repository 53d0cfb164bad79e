pub mod Alike
pub mod Given
pub mod Looks
pub mod Remembered
pub mod Laws
pub mod Plannings
