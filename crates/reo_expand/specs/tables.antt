pub mod Firsts
pub mod Knows
