pub mod Numbered
pub mod Strands
pub mod Labels
pub mod Vertices
pub mod Joints
pub mod Pictures
pub mod label_texts
