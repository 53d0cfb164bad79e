pub mod SearchTables
pub mod Renewing
pub mod Orders
pub mod Laws
