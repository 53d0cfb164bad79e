pub mod Fitting
pub mod MarkFinding
pub mod Places
pub mod Searched
pub mod Spots
pub mod Walking
