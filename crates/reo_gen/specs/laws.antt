pub mod Accepted
pub mod NotRefused
