pub mod Escape
pub mod Items
pub mod Signs
pub mod Exprs
pub mod Laws
