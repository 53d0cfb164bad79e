pub mod Recolouring
pub mod KnotShapes
pub mod Gates
pub mod FewerGates
pub mod TableLemmas
pub mod Fronts
pub mod Searching
