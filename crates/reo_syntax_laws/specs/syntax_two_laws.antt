pub mod Unlined
pub mod Written
