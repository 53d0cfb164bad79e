pub mod Texts
pub mod Turned
pub mod Items
pub mod Programs
pub mod Fronts
pub mod Whole
pub mod Spelled
