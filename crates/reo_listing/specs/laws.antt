pub mod Shapes
pub mod Gated
pub mod Extended
pub mod Searched
