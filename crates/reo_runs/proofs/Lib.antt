pub mod WholeLemmas
pub mod OneLemmas
pub mod JustifiedLemmas
pub mod StartLemmas
pub mod Each
pub mod Sides
