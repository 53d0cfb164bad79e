pub mod Found
pub mod HeldTables
pub mod Listed
pub mod Served
pub mod Plannings
