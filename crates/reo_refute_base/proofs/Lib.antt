pub mod Places
pub mod Narrowing
