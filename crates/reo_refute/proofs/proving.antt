pub mod FewItems
pub mod Firsts
pub mod Lessening
pub mod Numbers
pub mod Proved
pub mod Writing
