pub mod Moves
pub mod Offers
pub mod Opening
pub mod Owned
pub mod Ports
pub mod Rounds
pub mod Statuses
pub mod Texts
