pub mod Renewed
pub mod RenewedSides
pub mod Readied
pub mod Staying
pub mod Sorted
pub mod PartSets
pub mod Among
