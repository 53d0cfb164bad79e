pub mod Held
pub mod Items
pub mod Opening
pub mod Rounds
