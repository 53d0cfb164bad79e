pub mod KeptLemmas
pub mod Lookups
pub mod FlowsLemmas
pub mod Between
pub mod Others
pub mod Reached
mod Fresh
pub mod Treating
pub mod Going
pub mod Resting
pub mod MadeLemmas
pub mod Plannings
