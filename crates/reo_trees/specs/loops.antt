pub mod Places
pub mod Few
pub mod Laws
