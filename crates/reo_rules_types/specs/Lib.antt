pub mod Cells
pub mod Table
pub mod Scoped
pub mod Kinded
pub mod Literals
pub mod Signed
pub mod Stands
pub mod Resolved
