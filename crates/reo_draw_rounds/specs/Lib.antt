pub mod Mapped
pub mod Marks
pub mod Losses
pub mod Rounds
pub mod Cells
pub mod Columns
pub mod Tables
