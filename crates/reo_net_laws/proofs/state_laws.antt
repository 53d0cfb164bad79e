pub mod Open
pub mod Same
pub mod Walking
pub mod Turning
pub mod Keyed
