pub mod Places
pub mod Holding
pub mod Pins
pub mod Settling
pub mod Walking
pub mod Arranged
pub mod Wanted
