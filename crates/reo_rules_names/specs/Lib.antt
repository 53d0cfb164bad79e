pub mod SameNames
pub mod Values
pub mod Connectors
pub mod EndsAtNames
pub mod Closed
pub mod Loose
pub mod Symbols
