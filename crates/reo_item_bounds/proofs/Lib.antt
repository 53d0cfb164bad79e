pub mod Linked
pub mod Noting
pub mod Tables
pub mod Within
mod Sums
mod Places
mod Bounded
mod Looped
mod Covered
