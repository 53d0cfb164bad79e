pub mod Noted
pub mod Behind
pub mod Laws
