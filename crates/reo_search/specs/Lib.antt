pub mod First
pub mod Tables
pub mod Isolated
pub mod choices
