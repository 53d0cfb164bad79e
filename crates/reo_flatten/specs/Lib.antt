pub mod NodeEnds
pub mod NodeParts
pub mod Parts
