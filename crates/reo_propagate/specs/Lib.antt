pub mod Queues
pub mod Narrow
pub mod Beginning
pub mod Basis
pub mod ListedSets
pub mod Setting
